-- The literals written so far are those of the first outputs.
use Rattle.std.proofs.Common.{◌≡◌, length}
use Rattle.card.specs.Netlists.{nets}
use Rattle.card.specs.Views.{netlist_of}
use Rattle.formula.specs.Posing.{rising}
use Rattle.formula.specs.Variables.{difference}
use Rattle.formula.proofs.outputs.put_differences.Given as goal

abbrev pub invariant-loop-output : goal.invariant-loop-output
invariant-loop-output g l = (length l.clause.items ≡ l.output) × (l.clause.items ≡ rising (difference (nets (netlist_of l.card)) 0) l.output)

-- The outputs from this one on are what is still to be put.
use Rattle.std.proofs.Common.{◌≡◌, drop}
use Rattle.std.specs.List.{flat_map}
use Rattle.card.specs.Netlists.{nets}
use Rattle.card.specs.Views.{netlist_of}
use Rattle.formula.specs.Links.{clauses_of, output_links}
use Rattle.formula.specs.Posing.{given}
use Rattle.formula.proofs.outputs.put_outputs.Given as goal

abbrev pub invariant-loop-output : goal.invariant-loop-output
invariant-loop-output g l =
    let c = netlist_of l.card in
    given (g.S.Solver.model l.solver) (flat_map clauses_of (output_links (nets c) l.output (drop l.output l.net-items)))
    ≡ given (g.S.Solver.model l.initial.solver) (flat_map clauses_of (output_links (nets c) 0 l.net-items))

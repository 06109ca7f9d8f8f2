use Rattle.std.proofs.Common.{◌≡◌, ◌++◌, take, drop}
use Rattle.card.specs.Views.{netlist_of}
use Rattle.vectors.specs.Views.{cells_of}
use Rattle.tester.specs.Characters.{characters}
use Rattle.tester.proofs.outputs.show.Given as goal

abbrev pub invariant-loop-i : goal.invariant-loop-i
invariant-loop-i l = l.out ≡ take l.i (characters (netlist_of l.card) (cells_of l.vector)) ++ drop l.i l.initial.out

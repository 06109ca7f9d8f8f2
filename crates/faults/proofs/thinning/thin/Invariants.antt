-- The cells of the inputs before this one are tried.
use Rattle.std.proofs.Common.{◌≡◌}
use Rattle.card.specs.Views.{netlist_of}
use Rattle.vectors.specs.Views.{cells_of}
use Rattle.faults.specs.Thinning.{thinned}
use Rattle.faults.proofs.thinning.thin.Given as goal

abbrev pub invariant-loop-j : goal.invariant-loop-j
invariant-loop-j l = cells_of l.vector ≡ thinned (netlist_of l.card) l.stuck (cells_of l.initial.vector) l.j

use Rattle.std.proofs.Common.{◌≡◌, ◌+◌, ◌≤◌, length, get_or, drop, pos}
use Rattle.solving.specs.Settings.{open_in}
use Rattle.solving.specs.Orders.{Reaches}
use Rattle.propagation.specs.Stacks.{held, room}
use Rattle.propagation.specs.Trails.{Grown}
use Rattle.propagation.specs.Occurrences.{against}
use Rattle.propagation.specs.Clauses.{clauses_listed}
use Rattle.propagation.proofs.Visits.{Visiting}
use Rattle.propagation.proofs.follow.visit.Given as goal

abbrev pub invariant-loop-below : goal.invariant-loop-below
invariant-loop-below l =
    Visiting (clauses_listed l.clauses) l.clauses.literals.now l.clauses.ends.now (against (get_or (held l.initial.trail) l.front (pos 0))) l.below l.values (drop (l.front + 1) (held l.trail))
    × Reaches (clauses_listed l.clauses) l.initial.values l.values
    × Grown l.initial.values l.values (held l.initial.trail) (held l.trail)
    × (room l.trail ≡ room l.initial.trail)
    × (l.trail.len + open_in (length l.values) l.values ≤ room l.trail)

abbrev pub decreases-loop-below : goal.decreases-loop-below
decreases-loop-below l = l.below

use Rattle.std.proofs.Common.{◌≡◌, ◌+◌, ◌≤◌, length, drop}
use Rattle.solving.specs.Settings.{open_in}
use Rattle.solving.specs.Orders.{Reaches}
use Rattle.propagation.specs.Stacks.{held, room}
use Rattle.propagation.specs.Trails.{Grown}
use Rattle.propagation.specs.Clauses.{clauses_listed}
use Rattle.propagation.proofs.Visits.{Looked}
use Rattle.propagation.proofs.close.begin_by_lists.Given as goal

abbrev pub invariant-loop-c : goal.invariant-loop-c
invariant-loop-c l =
    Looked (clauses_listed l.clauses) l.first l.values (drop l.initial.trail.len (held l.trail))
    × Reaches (clauses_listed l.clauses) l.initial.values l.values
    × Grown l.initial.values l.values (held l.initial.trail) (held l.trail)
    × (room l.trail ≡ room l.initial.trail)
    × (l.trail.len + open_in (length l.values) l.values ≤ room l.trail)
    × (l.first ≤ length l.clauses.ends.now)

abbrev pub decreases-loop-c : goal.decreases-loop-c
decreases-loop-c l = open_in (length l.values) l.values

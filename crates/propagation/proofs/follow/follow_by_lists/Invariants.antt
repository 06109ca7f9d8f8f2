use Rattle.std.proofs.Common.{◌≡◌, ◌+◌, ◌-◌, ◌≤◌, length, drop}
use Rattle.solving.specs.Settings.{open_in}
use Rattle.solving.specs.Orders.{Reaches}
use Rattle.propagation.specs.Stacks.{held, room}
use Rattle.propagation.specs.Trails.{Grown}
use Rattle.propagation.specs.Clauses.{clauses_listed}
use Rattle.propagation.specs.Following.{Pending}
use Rattle.propagation.proofs.follow.follow_by_lists.Given as goal

abbrev pub invariant-loop-front : goal.invariant-loop-front
invariant-loop-front l =
    Pending (clauses_listed l.clauses) l.values (drop l.front (held l.trail))
    × Reaches (clauses_listed l.clauses) l.initial.values l.values
    × Grown l.initial.values l.values (held l.initial.trail) (held l.trail)
    × (room l.trail ≡ room l.initial.trail)
    × (l.trail.len + open_in (length l.values) l.values ≤ room l.trail)
    × (l.front ≤ l.trail.len)

abbrev pub decreases-loop-front : goal.decreases-loop-front
decreases-loop-front l = (l.trail.len + open_in (length l.values) l.values) - l.front

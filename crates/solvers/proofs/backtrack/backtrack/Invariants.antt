use Rattle.std.proofs.Common.{◌≡◌, ◌-◌, ◌≤◌, drop}
use Rattle.propagation.specs.Stacks.{held, room}
use Rattle.solvers.proofs.Looping.{Kept}
use Rattle.propagation.specs.Clauses.{clauses_of}
use Rattle.propagation.specs.Following.{Pending}
use Rattle.solvers.proofs.backtrack.backtrack.Given as goal

abbrev pub invariant-loop-assignment : goal.invariant-loop-assignment
invariant-loop-assignment l =
    Kept (clauses_of l.clauses) l.budget l.initial.assignment.values.now l.assignment.values.now l.assignment.values.now (held l.assignment.trail) (held l.decisions) l.steps
    × (room l.decisions ≡ room l.initial.decisions)
    × (l.steps ≤ l.budget)
    × Pending (clauses_of l.clauses) l.assignment.values.now (drop l.front (held l.assignment.trail))
    × (l.front ≤ l.assignment.trail.len)

abbrev pub decreases-loop-assignment : goal.decreases-loop-assignment
decreases-loop-assignment l = l.budget - l.steps

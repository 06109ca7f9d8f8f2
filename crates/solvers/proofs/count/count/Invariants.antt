use Rattle.std.proofs.Common.{◌≡◌, length, drop}
use Rattle.solving.specs.Counting.{settings, try_each, counting}
use Rattle.propagation.specs.Clauses.{clauses_of}
use Rattle.solvers.proofs.count.count.Given as goal

abbrev pub invariant-loop-number : goal.invariant-loop-number
invariant-loop-number l =
    (try_each (clauses_of l.clauses) (length l.initial.assignment.values.now) l.budget (drop l.number (settings l.leading.count)) l.number ≡ counting (clauses_of l.clauses) (length l.initial.assignment.values.now) l.leading.count l.budget)
    × (length l.assignment.values.now ≡ length l.initial.assignment.values.now)

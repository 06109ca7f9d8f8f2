use Rattle.std.proofs.Common.{◌≡◌}
use Rattle.propagation.specs.Stacks.{room}
use Rattle.propagation.specs.Assignments.{assigned, unwound}
use Rattle.propagation.proofs.assignment.Assignment.unwind.Given as goal

abbrev pub invariant-loop-self : goal.invariant-loop-self
invariant-loop-self l = (unwound (assigned l.self) l.to ≡ unwound (assigned l.initial.self) l.to) × (room l.self.trail ≡ room l.initial.self.trail)

abbrev pub decreases-loop-self : goal.decreases-loop-self
decreases-loop-self l = l.self.trail.len

use Rattle.std.proofs.Common.{◌≡◌, ◌-◌, ◌^◌, length}
use Rattle.solvers.specs.Numbering.{bits_of, written}
use Rattle.solvers.proofs.leading.Leading.write_bits.Given as goal

abbrev pub invariant-loop-variable : goal.invariant-loop-variable
invariant-loop-variable l =
    (l.weight ≡ 2 ^ (l.fn.self.count - l.variable))
    × (written l.assignment.values.now l.variable (bits_of (l.fn.self.count - l.variable) l.rest) ≡ written l.initial.assignment.values.now 0 (bits_of l.fn.self.count l.number))
    × (l.assignment.trail.len ≡ l.initial.assignment.trail.len)
    × (length l.assignment.values.now ≡ length l.initial.assignment.values.now)

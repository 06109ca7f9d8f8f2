use Rattle.std.proofs.Common.{◌≡◌, ◌++◌, take, vec_items}
use Rattle.reading.specs.Writing.{gates_written}
use Rattle.reading.proofs.write.write_gates.Given as goal

abbrev pub invariant-loop-gate : goal.invariant-loop-gate
invariant-loop-gate l = vec_items l.bytes ≡ vec_items l.initial.bytes ++ gates_written (take l.gate-index l.gates)

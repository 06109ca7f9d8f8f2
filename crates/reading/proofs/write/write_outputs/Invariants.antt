use Rattle.std.proofs.Common.{◌≡◌, ◌++◌, take, vec_items}
use Rattle.reading.specs.Writing.{outputs_written}
use Rattle.reading.proofs.write.write_outputs.Given as goal

abbrev pub invariant-loop-net : goal.invariant-loop-net
invariant-loop-net l = vec_items l.bytes ≡ vec_items l.initial.bytes ++ outputs_written (take l.net-index l.outputs)

-- Before the first reader no net is read.
use Rattle.std.proofs.Common.{refl}
use Rattle.faults.proofs.Listed.{read_by_none}
use Rattle.faults.proofs.readers.Readers.counts.Goals as goal

pub loop-reader-init : goal.loop-reader-init
loop-reader-init c = (refl, read_by_none 256)

-- The readers before this one are counted at their nets.
use Rattle.std.proofs.Common.{◌≡◌, ℕ, length, get_or, take, vec_items}
use Rattle.faults.specs.Readers.{read_in}
use Rattle.faults.proofs.readers.Readers.counts.Given as goal

abbrev pub invariant-loop-reader : goal.invariant-loop-reader
invariant-loop-reader l =
    (length l.counts ≡ 256)
    × ((net : ℕ) → get_or l.counts net 0 ≡ read_in (take l.reader-index (vec_items l.self.list)) net)

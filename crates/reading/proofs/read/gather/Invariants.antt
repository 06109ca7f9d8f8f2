use Rattle.std.proofs.Common.{◌≡◌, ℕ, ◌-◌, ◌<◌, ◌≤◌, length, drop}
use Rattle.reading.specs.Reading.{read_from, reading}
use Rattle.reading.specs.Drafts.{draft_of}
use Rattle.reading.proofs.read.gather.Given as goal

abbrev pub invariant-loop-size : goal.invariant-loop-size
invariant-loop-size l = (l.at ≤ length l.bytes) × ((n : ℕ) × (length (drop l.at l.bytes) < n) × (reading l.bytes ≡ read_from n (drop l.at l.bytes) l.at (draft_of l.draft)))

abbrev pub decreases-loop-size : goal.decreases-loop-size
decreases-loop-size l = length l.bytes - l.at

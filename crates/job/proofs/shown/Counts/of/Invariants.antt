-- The marks before the one that is looked at are counted.
use Rattle.std.proofs.Common.{◌≡◌, ◌≤◌, map, take, count_by}
use Rattle.history.specs.Views.{is_detected, is_open, is_untestable}
use Rattle.job.specs.Tables.{mark_of, taken_of}
use Rattle.job.proofs.shown.Counts.of.Given as goal

abbrev pub invariant-loop-marked : goal.invariant-loop-marked
invariant-loop-marked l =
    (l.«open» ≡ count_by is_open (map mark_of (take l.marked-index l.marks))) × (l.detected ≡ count_by is_detected (map mark_of (take l.marked-index l.marks)))
    × (l.untestable ≡ count_by is_untestable (map mark_of (take l.marked-index l.marks))) × (l.taken ≡ count_by (λ b. b) (map taken_of (take l.marked-index l.marks)))

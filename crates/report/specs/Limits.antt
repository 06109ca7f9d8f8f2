-- When a sheet is sure to fit: each vector has a detected fault of its own, so vectors and lines of faults are not both many.
use Rattle.std.specs.Prelude.{ℕ, ◌≤◌, length, count_by}
use Rattle.history.specs.Views.{View, is_detected}

-- room for every such sheet
abbrev pub sheet_room : ℕ
sheet_room = 65536

abbrev pub NoMoreVectorsThanDetectedFaults : View → Type 0
NoMoreVectorsThanDetectedFaults v = length v.vectors ≤ count_by is_detected v.marks

-- What each granted call makes of what a job holds.
-- A refused call changes nothing; that stands with the steps, where a call's answer decides between the two.
use Rattle.std.specs.Prelude.{ℕ, ◌-◌, true, false, cond, [], ◌∷◌, ◌++◌, map, length, ◌==◌, nat_lt, slice_set}
use Rattle.std.specs.List.{remove, range_with_len}
use Rattle.card.specs.Netlists.{Netlist}
use Rattle.vectors.specs.Merging.{union}
use Rattle.vectors.specs.Vectors.{Cells}
use Rattle.asking.specs.Findings.{Finding, shown, untestable, unknown}
use Rattle.history.specs.Granting.{sweep_marks}
use Rattle.history.specs.Views.{View, mark, vector_at}
use Rattle.history.specs.declared.mark.Mark.{Mark}
use Rattle.history.specs.declared.mark.Mark.TheVariants.{Open, Detected, Untestable}

abbrev pub taking : View → ℕ → View
taking v f = record { marks = v.marks; taken = slice_set v.taken f true; vectors = v.vectors }

abbrev pub closing : View → ℕ → View
closing v f = record { marks = v.marks; taken = slice_set v.taken f false; vectors = v.vectors }

-- what a search found is entered: a vector is put last and named by the fault's mark
abbrev pub entering : View → ℕ → Finding → View
entering v f (shown x) = record { marks = slice_set v.marks f (Detected (length v.vectors)); taken = v.taken; vectors = v.vectors ++ (x ∷ []) }
entering v f untestable = record { marks = slice_set v.marks f Untestable; taken = v.taken; vectors = v.vectors }
entering v f unknown = v

abbrev pub swept_mark : Netlist → View → ℕ → ℕ → Mark
swept_mark c v i f = cond (sweep_marks c v i f) (Detected i) (mark v f)

abbrev pub sweeping : Netlist → View → ℕ → View
sweeping c v i = record { marks = map (swept_mark c v i) (range_with_len 0 (length v.marks)); taken = v.taken; vectors = v.vectors }

abbrev pub adding : View → Cells → View
adding v x = record { marks = v.marks; taken = v.taken; vectors = v.vectors ++ (x ∷ []) }

-- the number of a vector once j has gone into i and left: i for j, and higher numbers drop by one
abbrev pub lowered : ℕ → ℕ → ℕ
lowered j n = cond (nat_lt j n) (n - 1) n

abbrev pub renumbered : ℕ → ℕ → ℕ → ℕ
renumbered i j n = lowered j (cond (n == j) i n)

abbrev pub renamed : ℕ → ℕ → Mark → Mark
renamed i j Open = Open
renamed i j (Detected n) = Detected (renumbered i j n)
renamed i j Untestable = Untestable

-- vector i takes the fixed cells of both, and j leaves
abbrev pub merging : View → ℕ → ℕ → View
merging v i j = record {
  marks = map (renamed i j) v.marks;
  taken = v.taken;
  vectors = remove (slice_set v.vectors i (union (vector_at v i) (vector_at v j))) j;
}

-- When each call is granted, and with which refusal it is refused, in the order of the tests.
-- A search is answered by a solver, so only its refusals stand here.
use Rattle.std.specs.Prelude.{ℕ, Bool, cond, not, ◌&&◌, map, length, Ok, Err, count_by, Result, ◌==◌, nat_lt}
use Rattle.std.specs.List.{range_with_len}
use Rattle.card.specs.Netlists.{Netlist}
use Rattle.vectors.specs.Merging.{mergeable}
use Rattle.vectors.specs.Vectors.{in_form}
use Rattle.faults.specs.Catching.{catches_fault}
use Rattle.faults.specs.Sites.{fault_count}
use Rattle.history.specs.Views.{View, is_open, is_taken, mark, most, vector_at}
use Rattle.history.specs.declared.refusal.TakeRefusal.{TakeRefusal}
use Rattle.history.specs.declared.refusal.TakeRefusal.TheVariants as take
use Rattle.history.specs.declared.refusal.SearchRefusal.{SearchRefusal}
use Rattle.history.specs.declared.refusal.SearchRefusal.TheVariants as seek
use Rattle.history.specs.declared.refusal.CloseRefusal.{CloseRefusal}
use Rattle.history.specs.declared.refusal.CloseRefusal.TheVariants as close
use Rattle.history.specs.declared.refusal.VectorRefusal.{VectorRefusal}
use Rattle.history.specs.declared.refusal.VectorRefusal.TheVariants as vector
use Rattle.history.specs.declared.refusal.AddRefusal.{AddRefusal}
use Rattle.history.specs.declared.refusal.AddRefusal.TheVariants as add
use Rattle.history.specs.declared.refusal.MergeRefusal.{MergeRefusal}
use Rattle.history.specs.declared.refusal.MergeRefusal.TheVariants as merge

abbrev pub takes : Netlist → View → ℕ → Result (Unit {0}) TakeRefusal
takes c v f = cond (nat_lt f (fault_count c)) (cond (is_taken v f) (Err take.Taken) (cond (is_open (mark v f)) (Ok tt) (Err take.Decided))) (Err take.NoSuchFault)

abbrev pub searches : View → ℕ → Result (Unit {0}) SearchRefusal
searches v f = cond (is_taken v f) (cond (is_open (mark v f)) (cond (nat_lt (length v.vectors) most) (Ok tt) (Err seek.Full)) (Err seek.Decided)) (Err seek.NotTaken)

abbrev pub closes : View → ℕ → Result (Unit {0}) CloseRefusal
closes v f = cond (is_taken v f) (Ok tt) (Err close.NotTaken)

-- a sweep by vector i marks this fault: it is open, not taken, and caught
abbrev pub sweep_marks : Netlist → View → ℕ → ℕ → Bool
sweep_marks c v i f = is_open (mark v f) && (not (is_taken v f) && catches_fault c f (vector_at v i))

-- how many faults a sweep marks
abbrev pub sweep_count : Netlist → View → ℕ → ℕ
sweep_count c v i = count_by (λ b. b) (map (sweep_marks c v i) (range_with_len 0 (length v.marks)))

abbrev pub sweeps : Netlist → View → ℕ → Result ℕ VectorRefusal
sweeps c v i = cond (nat_lt i (length v.vectors)) (Ok (sweep_count c v i)) (Err vector.NoSuchVector)

-- a granted add answers the number of the new vector
abbrev pub adds : Netlist → View → ℕ → ℕ → Result ℕ AddRefusal
adds c v care value = cond (in_form c.inputs care value) (cond (nat_lt (length v.vectors) most) (Ok (length v.vectors)) (Err add.Full)) (Err add.NotInForm)

abbrev pub merges : View → ℕ → ℕ → Result (Unit {0}) MergeRefusal
merges v i j =
    cond (nat_lt i (length v.vectors) && nat_lt j (length v.vectors))
    (cond (i == j) (Err merge.SameVector) (cond (mergeable (vector_at v i) (vector_at v j)) (Ok tt) (Err merge.OppositeBits)))
    (Err merge.NoSuchVector)

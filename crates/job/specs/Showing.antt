-- What a job shows of itself: the mark of a fault, a vector with what the good card's outputs show for it, and counts.
use Rattle.std.specs.Prelude.{◌≡◌, ℕ, ◌<◌, cond, length, Ok, Err, count_by, Result, nat_lt}
use Rattle.card.specs.Netlists.{Netlist}
use Rattle.vectors.specs.Rows.{printed}
use Rattle.vectors.specs.Vectors.{Cells, InForm}
use Rattle.vectors.specs.Views.{cells_of}
use Rattle.faults.specs.Sites.{fault_count}
use Rattle.faults.specs.declared.refusal.FaultRefusal.{FaultRefusal}
use Rattle.faults.specs.declared.refusal.FaultRefusal.TheVariants.{NoSuchFault}
use Rattle.tester.specs.Characters.{Truthful, characters}
use Rattle.history.specs.Views.{View, is_detected, is_open, is_taken, is_untestable, mark, vector_at}
use Rattle.history.specs.declared.refusal.VectorRefusal.{VectorRefusal}
use Rattle.history.specs.declared.refusal.VectorRefusal.TheVariants.{NoSuchVector}
use Rattle.job.specs.declared.shown.Marked.{Marked}
use Rattle.job.specs.declared.shown.Listed.{Listed}
use Rattle.job.specs.declared.shown.Counts.{Counts}

abbrev pub mark_shown : Netlist → View → ℕ → Result Marked FaultRefusal
mark_shown c v f = cond (nat_lt f (fault_count c)) (Ok (record { mark = mark v f; taken = is_taken v f })) (Err NoSuchFault)

-- y holds, as two numbers with bit i for output i, what the outputs of the good card show for x
pub record ShowsOutputs (c : Netlist) (x y : Cells) : Type 0 where
  pub is_in_form : InForm (length c.outputs) y
  pub prints_what_the_tester_expects : printed (length c.outputs) y ≡ characters c x
  pub a_bit_shown_is_what_every_filling_makes : Truthful c x (printed (length c.outputs) y)

abbrev pub VectorShown : Netlist → View → ℕ → Result Listed VectorRefusal → Type 0
VectorShown c v i (Ok l) = (i < length v.vectors) × (cells_of l.vector ≡ vector_at v i) × ShowsOutputs c (vector_at v i) (cells_of l.outputs)
VectorShown c v i (Err e) = (i < length v.vectors → ⊥) × (e ≡ NoSuchVector)

abbrev pub counts_of : View → Counts
counts_of v = record { «open» = count_by is_open v.marks; detected = count_by is_detected v.marks; untestable = count_by is_untestable v.marks; taken = count_by (λ b. b) v.taken }

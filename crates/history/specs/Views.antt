-- What a job holds beside its card: a mark for each fault, whether it is taken, and the vectors in order.
-- This is all of a job that its calls speak of; a number past the faults reads as open, not taken, and past the vectors as all free.
use Rattle.std.specs.Prelude.{ℕ, Bool, true, false, List, [], replicate, slice_index_or}
use Rattle.card.specs.Netlists.{Netlist}
use Rattle.vectors.specs.Vectors.{Cells, holding}
use Rattle.faults.specs.Sites.{fault_count}
use Rattle.history.specs.declared.mark.Mark.{Mark}
use Rattle.history.specs.declared.mark.Mark.TheVariants.{Open, Detected, Untestable}

pub record View : Type 0 where
  pub marks : List Mark
  pub taken : List Bool
  pub vectors : List Cells

abbrev pub mark : View → ℕ → Mark
mark v f = slice_index_or v.marks f Open

abbrev pub is_taken : View → ℕ → Bool
is_taken v f = slice_index_or v.taken f false

-- every cell is free
abbrev pub blank : Cells
blank = holding 0 0

abbrev pub vector_at : View → ℕ → Cells
vector_at v i = slice_index_or v.vectors i blank

-- as many vectors as a job can hold
abbrev pub most : ℕ
most = 512

abbrev pub is_open : Mark → Bool
is_open Open = true
is_open (Detected i) = false
is_open Untestable = false

abbrev pub is_detected : Mark → Bool
is_detected Open = false
is_detected (Detected i) = true
is_detected Untestable = false

abbrev pub is_untestable : Mark → Bool
is_untestable Open = false
is_untestable (Detected i) = false
is_untestable Untestable = true

-- a new job: all faults open, none taken, no vector
abbrev pub new_view : Netlist → View
new_view c = record { marks = replicate (fault_count c) Open; taken = replicate (fault_count c) false; vectors = [] }

-- The number of every refusal of a job's calls.
-- Equal numbers mean the same thing wherever they stand: 12 that the fault is not taken, 14 that the list is full, 15 that there is no such vector.
use Rattle.std.specs.Prelude.{ℕ}
use Rattle.history.specs.declared.refusal.TakeRefusal.{TakeRefusal}
use Rattle.history.specs.declared.refusal.TakeRefusal.TheVariants as take
use Rattle.history.specs.declared.refusal.SearchRefusal.{SearchRefusal}
use Rattle.history.specs.declared.refusal.SearchRefusal.TheVariants as seek
use Rattle.history.specs.declared.refusal.CloseRefusal.{CloseRefusal}
use Rattle.history.specs.declared.refusal.CloseRefusal.TheVariants as close
use Rattle.history.specs.declared.refusal.VectorRefusal.{VectorRefusal}
use Rattle.history.specs.declared.refusal.VectorRefusal.TheVariants as vector
use Rattle.history.specs.declared.refusal.AddRefusal.{AddRefusal}
use Rattle.history.specs.declared.refusal.AddRefusal.TheVariants as add
use Rattle.history.specs.declared.refusal.MergeRefusal.{MergeRefusal}
use Rattle.history.specs.declared.refusal.MergeRefusal.TheVariants as merge

abbrev pub take_number : TakeRefusal → ℕ
take_number take.NoSuchFault = 9
take_number take.Taken = 10
take_number take.Decided = 11

abbrev pub search_number : SearchRefusal → ℕ
search_number seek.NotTaken = 12
search_number seek.Decided = 13
search_number seek.Full = 14

abbrev pub close_number : CloseRefusal → ℕ
close_number close.NotTaken = 12

abbrev pub vector_number : VectorRefusal → ℕ
vector_number vector.NoSuchVector = 15

abbrev pub add_number : AddRefusal → ℕ
add_number add.NotInForm = 16
add_number add.Full = 14

abbrev pub merge_number : MergeRefusal → ℕ
merge_number merge.NoSuchVector = 15
merge_number merge.SameVector = 17
merge_number merge.OppositeBits = 18

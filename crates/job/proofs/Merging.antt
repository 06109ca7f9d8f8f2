-- What a merge makes of the lists.
use Rattle.std.proofs.Common.{◌≡◌, ℕ, zero, suc, ◌+◌, ◌<◌, Bool, cond, eqb, ltb, List, [], ◌∷◌, ◌++◌, map, length, get_or, take, drop, set, Ok, Err, Result, sym, refl, ap, ◌∙◌, arith}
use lib.ListN.{length-map}
use Rattle.std.specs.List.{remove}
use Rattle.std.proofs.lemmas.List.{get_or-map, map-set}
use Rattle.std.proofs.lemmas.List.Edits.{map_over_more}
use Rattle.std.proofs.lemmas.Bool.{and_from, lt-ltb, ne_eqb}
use Rattle.vectors.specs.Merging.{mergeable, union}
use Rattle.vectors.specs.Vectors.{Cells}
use Rattle.vectors.specs.Views.{cells_of}
use Rattle.vectors.specs.declared.vector.Vector.{Vector}
use Rattle.history.specs.Changing.{merging, renamed}
use Rattle.history.specs.Granting.{merges}
use Rattle.history.specs.Views.{View, vector_at}
use Rattle.history.specs.declared.mark.Mark.{Mark}
use Rattle.history.specs.declared.mark.Mark.TheVariants.{Open, Detected, Untestable}
use Rattle.history.specs.declared.refusal.MergeRefusal.{MergeRefusal}
use Rattle.history.specs.declared.refusal.MergeRefusal.TheVariants as merge
use Rattle.job.specs.Tables.{mark_of, taken_of}
use Rattle.job.specs.declared.shown.Marked.{Marked}
use Rattle.job.proofs.Tabled.{seen}

-- ---- answers

module _ (v : View) (i j : ℕ) where
  abbrev rest : Result (Unit {0}) MergeRefusal
  rest = cond (eqb i j) (Err merge.SameVector) (cond (mergeable (vector_at v i) (vector_at v j)) (Ok tt) (Err merge.OppositeBits))

  abbrev fit : Result (Unit {0}) MergeRefusal
  fit = cond (mergeable (vector_at v i) (vector_at v j)) (Ok tt) (Err merge.OppositeBits)

  module _ (ilt : i < length v.vectors) (jlt : j < length v.vectors) where
    listed : merges v i j ≡ rest
    listed = ap (λ (b : Bool). cond b rest (Err merge.NoSuchVector)) (and_from (ltb i (length v.vectors)) (ltb j (length v.vectors)) (lt-ltb i (length v.vectors) ilt) (lt-ltb j (length v.vectors) jlt))

    pub two_vectors : (i ≡ j → ⊥) → (b : Bool) → b ≡ mergeable (vector_at v i) (vector_at v j) → merges v i j ≡ cond b (Ok tt) (Err merge.OppositeBits)
    two_vectors ne b e = listed ∙ ap (λ (k : Bool). cond k (Err merge.SameVector) fit) (ne_eqb i j ne) ∙ ap (λ (k : Bool). cond k (Ok tt) (Err merge.OppositeBits)) (sym e)

-- ---- lists

removed_map : {X Y : Type 0} (g : X → Y) (xs : List X) (i : ℕ) → map g (remove xs i) ≡ remove (map g xs) i
removed_map g [] zero = refl
removed_map g [] (suc i) = refl
removed_map g (x ∷ xs) zero = refl
removed_map {Y = Y} g (x ∷ xs) (suc i) = ap (λ (ys : List Y). g x ∷ ys) (removed_map g xs i)

-- a mark that names no vector stays
pub names_none : (i j : ℕ) (m : Mark) → ((n : ℕ) → m ≡ Detected n → ⊥) → m ≡ renamed i j m
names_none i j Open h = refl
names_none i j (Detected n) h = absurd (h n refl)
names_none i j Untestable h = refl

-- one more mark is renamed
pub renamed_more : (g : Mark → Mark) (xs ys : List Marked) (i : ℕ) (s t : Marked) → i < length xs → map mark_of ys ≡ map g (take i (map mark_of xs)) ++ drop i (map mark_of xs) → s ≡ get_or ys i s → i < length ys → t.mark ≡ g s.mark
    → map mark_of (set ys i t) ≡ map g (take (i + 1) (map mark_of xs)) ++ drop (i + 1) (map mark_of xs)
renamed_more g xs ys i s t lt so is fits same =
    map-set mark_of ys i t ∙ ap (set (map mark_of ys) i) same
    ∙ map_over_more g (map mark_of xs) (map mark_of ys) i s.mark (omega (arith, lt, length-map xs mark_of)) so (ap mark_of is ∙ sym (get_or-map mark_of ys i s s.mark fits))

pub merged_view : (ss us : List Marked) (xs ys : List Vector) (i j : ℕ) (both : Vector) → map mark_of us ≡ map (renamed i j) (map mark_of ss) → map taken_of us ≡ map taken_of ss → ys ≡ remove (set xs i both) j
    → cells_of both ≡ union (vector_at (seen ss (map cells_of xs)) i) (vector_at (seen ss (map cells_of xs)) j) → seen us (map cells_of ys) ≡ merging (seen ss (map cells_of xs)) i j
merged_view ss us xs ys i j both m k p u =
    let q : map cells_of ys ≡ remove (set (map cells_of xs) i (union (vector_at (seen ss (map cells_of xs)) i) (vector_at (seen ss (map cells_of xs)) j))) j =
    ap (map cells_of) p ∙ removed_map cells_of (set xs i both) j ∙ ap (λ (zs : List Cells). remove zs j) (map-set cells_of xs i both ∙ ap (set (map cells_of xs) i) u) in
    λ n. record { marks = m n; taken = k n; vectors = q n }

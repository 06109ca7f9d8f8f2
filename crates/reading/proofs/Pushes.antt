-- What stands in a list, and what holds of each place of it, with one element more at the end.
use Rattle.std.proofs.Common.{◌≡◌, ℕ, zero, suc, ◌<◌, false, eqb, List, [], ◌∷◌, ◌++◌, length, get_or, sym, refl, ◌∙◌, subst, le_of_suc-le-suc, not-suc-le-zero, arith, length-append, below_more}
use Rattle.std.proofs.lemmas.List.{get_or_append_left, get_or_push}
use Rattle.std.proofs.lemmas.Bool.{or_parts, or_from, eq-eqb, ne_eqb, both_ways}
use Rattle.card.specs.Netlists.{Distinct}
use Rattle.reading.specs.Commands.{stands}

-- what does not stand in a list is at none of its places, and back
pub stands_not : (n : ℕ) (xs : List ℕ) → stands n xs ≡ false → (i : ℕ) → i < length xs → get_or xs i 0 ≡ n → ⊥
stands_not n [] e i h q = absurd (not-suc-le-zero h)
stands_not n (x ∷ xs) e zero h q = both_ways (eqb n x) (or_parts (eqb n x) (stands n xs) e).0 (eq-eqb n x (sym q))
stands_not n (x ∷ xs) e (suc i) h q = stands_not n xs (or_parts (eqb n x) (stands n xs) e).1 i (le_of_suc-le-suc h) q

pub not_stands : (n : ℕ) (xs : List ℕ) → ((i : ℕ) → i < length xs → get_or xs i 0 ≡ n → ⊥) → stands n xs ≡ false
not_stands n [] a = refl
not_stands n (x ∷ xs) a =
    or_from (eqb n x) (stands n xs) (ne_eqb n x (λ e. a 0 (omega arith) (sym e))) (not_stands n xs (λ i h q. a (suc i) (omega arith) q))

-- a property of each place and its element holds of one element more
pub each_push : {X : Type 0} (P : ℕ → X → Type 0) (xs : List X) (y : X) → ((i : ℕ) (d : X) → i < length xs → P i (get_or xs i d)) → P (length xs) y → (i : ℕ) (d : X) → i < length (xs ++ (y ∷ [])) → P i (get_or (xs ++ (y ∷ [])) i d)
each_push P xs y a p i d h =
    below_more (λ j. P j (get_or (xs ++ (y ∷ [])) j d)) (length xs)
    (λ j l. subst (P j) (sym (get_or_append_left xs (y ∷ []) d j l)) (a j d l))
    (subst (P (length xs)) (sym (get_or_push xs y d (length xs) refl)) p)
    i (simp length-append at h)

pub distinct_push : (xs : List ℕ) (y : ℕ) → Distinct xs → stands y xs ≡ false → Distinct (xs ++ (y ∷ []))
distinct_push xs y o m i j h l =
    below_more (λ t. i < t → get_or (xs ++ (y ∷ [])) i 0 ≡ get_or (xs ++ (y ∷ [])) t 0 → ⊥) (length xs)
    (λ t u it q. o i t it u (sym (get_or_append_left xs (y ∷ []) 0 i (omega arith)) ∙ q ∙ get_or_append_left xs (y ∷ []) 0 t u))
    (λ it q. stands_not y xs m i it (sym (get_or_append_left xs (y ∷ []) 0 i it) ∙ q ∙ get_or_push xs y 0 (length xs) refl))
    j (simp length-append at l) h

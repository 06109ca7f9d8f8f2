-- Lists that rise by a relation: each element stands before all that come later.
use Rattle.std.proofs.Common.{◌≡◌, ℕ, zero, suc, ◌<◌, Bool, List, [], ◌∷◌, ◌++◌, Some, filter, arith}
use Rattle.std.specs.List.{AllByRecursion as All, slice_get}
use Rattle.std.proofs.ByRecursion.{All-append, all_kept_by}
use Rattle.std.proofs.lemmas.Bool.{cond_both}
use Rattle.faults.proofs.Placed.{all_nth}

module _ {X : Type 0} (R : X → X → Type 0) where
  abbrev pub Rising : List X → Type 0
  Rising [] = Unit {0}
  Rising (x ∷ xs) = All (R x) xs × Rising xs

  pub rising_append : (xs ys : List X) → Rising xs → Rising ys → All (λ x. All (R x) ys) xs → Rising (xs ++ ys)
  rising_append [] ys a b h = b
  rising_append (x ∷ xs) ys a b h = (All-append (R x) xs ys a.0 h.0, rising_append xs ys a.1 b h.1)

  pub rising_kept : (p : X → Bool) (xs : List X) → Rising xs → Rising (filter p xs)
  rising_kept p [] a = tt
  rising_kept p (x ∷ xs) a =
      cond_both (p x) (x ∷ filter p xs) (filter p xs) Rising
      (λ e. (all_kept_by p (R x) xs a.0, rising_kept p xs a.1))
      (λ e. rising_kept p xs a.1)

  pub rising_at : (xs : List X) (i j : ℕ) (x y : X) → Rising xs → i < j → slice_get xs i ≡ Some x → slice_get xs j ≡ Some y → R x y
  rising_at [] i j x y a h p q = absurd (cc)
  rising_at (w ∷ xs) zero zero x y a h p q = absurd (omega arith)
  rising_at (w ∷ xs) zero (suc j) x y a h p q = let e : w ≡ x = cc in rw (← e) (all_nth (R w) xs j y a.0 q)
  rising_at (w ∷ xs) (suc i) zero x y a h p q = absurd (omega arith)
  rising_at (w ∷ xs) (suc i) (suc j) x y a h p q = rising_at xs i j x y a.1 (omega arith) p q

-- Lists of net numbers below a bound.
use Rattle.std.proofs.Common.{◌≡◌, ℕ, zero, suc, ◌<◌, ◌≤◌, true, ltb, List, [], ◌∷◌, ◌++◌, length, get_or, refl, le_of_suc-le-suc, not-suc-le-zero, arith}
use Rattle.std.proofs.lemmas.Bool.{and_parts, and_from, ltb-true, lt-ltb}
use Rattle.card.specs.Netlists.{all_below}

pub below_head : (n x : ℕ) (xs : List ℕ) → all_below n (x ∷ xs) ≡ true → x < n
below_head n x xs e = ltb-true x n (and_parts (ltb x n) (all_below n xs) e).0

pub below_tail : (n x : ℕ) (xs : List ℕ) → all_below n (x ∷ xs) ≡ true → all_below n xs ≡ true
below_tail n x xs e = (and_parts (ltb x n) (all_below n xs) e).1

pub below_at : (n : ℕ) (xs : List ℕ) (i d : ℕ) → all_below n xs ≡ true → i < length xs → get_or xs i d < n
below_at n [] i d e h = absurd (not-suc-le-zero h)
below_at n (x ∷ xs) zero d e h = below_head n x xs e
below_at n (x ∷ xs) (suc i) d e h = below_at n xs i d (below_tail n x xs e) (le_of_suc-le-suc h)

-- a greater bound
pub below_weaken : (n m : ℕ) (xs : List ℕ) → n ≤ m → all_below n xs ≡ true → all_below m xs ≡ true
below_weaken n m [] h e = refl
below_weaken n m (x ∷ xs) h e =
    let l = below_head n x xs e in
    and_from (ltb x m) (all_below m xs) (lt-ltb x m (omega arith)) (below_weaken n m xs h (below_tail n x xs e))

pub below_push : (n : ℕ) (xs : List ℕ) (y : ℕ) → all_below n xs ≡ true → y < n → all_below n (xs ++ (y ∷ [])) ≡ true
below_push n [] y e h = and_from (ltb y n) true (lt-ltb y n h) refl
below_push n (x ∷ xs) y e h =
    let p = and_parts (ltb x n) (all_below n xs) e in
    and_from (ltb x n) (all_below n (xs ++ (y ∷ []))) p.0 (below_push n xs y p.1 h)

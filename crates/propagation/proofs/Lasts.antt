-- The last place where a literal stands, among the first n.
use Rattle.std.proofs.Common.{◌≡◌, ℕ, zero, suc, ◌-◌, ◌<◌, ◌≤◌, cond, ◌≢◌, List, get_or, ℤ, pos, sym, refl, ap, ◌∙◌, subst, not-suc-le-zero, arith, eq-eqb, ne_eqb}
use native.Mathlib.Decide.{ℕ_discrete}
use Rattle.propagation.specs.Occurrences.{key, last_before}

pub last_same : (row : List ℤ) (k n : ℕ) → key (get_or row n (pos 0)) ≡ k → last_before row k (suc n) ≡ suc n
unfolding last_before
last_same row k n e = ap (λ b. cond b (suc n) (last_before row k n)) (eq-eqb (key (get_or row n (pos 0))) k e)

pub last_other : (row : List ℤ) (k n : ℕ) → key (get_or row n (pos 0)) ≢ k → last_before row k (suc n) ≡ last_before row k n
unfolding last_before
last_other row k n e = ap (λ b. cond b (suc n) (last_before row k n)) (ne_eqb (key (get_or row n (pos 0))) k e)

pub last_none : (row : List ℤ) (k : ℕ) → last_before row k 0 ≡ 0
unfolding last_before
last_none row k = refl

-- by cases of the latest place
last_cases : (row : List ℤ) (k n : ℕ) (P : ℕ → Type 0) → (key (get_or row n (pos 0)) ≡ k → P (suc n)) → (key (get_or row n (pos 0)) ≢ k → P (last_before row k n)) → P (last_before row k (suc n))
last_cases row k n P s o = go (ℕ_discrete (key (get_or row n (pos 0))) k) where
  go : Dec (key (get_or row n (pos 0)) ≡ k) → P (last_before row k (suc n))
  go (yes p) = subst P (sym (last_same row k n p)) (s p)
  go (no p) = subst P (sym (last_other row k n p)) (o p)

pub last_le : (row : List ℤ) (k n : ℕ) → last_before row k n ≤ n
last_le row k zero = rw (last_none row k) (omega arith)
last_le row k (suc n) = last_cases row k n (λ x. x ≤ suc n) (λ p. omega arith) (λ p. omega (arith, last_le row k n))

pub last_stands : (row : List ℤ) (k n : ℕ) → 0 < last_before row k n → key (get_or row (last_before row k n - 1) (pos 0)) ≡ k
last_stands row k zero h = let e = last_none row k in absurd (omega (arith, e))
last_stands row k (suc n) h =
    last_cases row k n (λ x. 0 < x → key (get_or row (x - 1) (pos 0)) ≡ k)
    (λ p g. let e : suc n - 1 ≡ n = omega arith in rw e p)
    (λ p g. last_stands row k n g) h

pub last_over : (row : List ℤ) (k n q : ℕ) → q < n → key (get_or row q (pos 0)) ≡ k → q < last_before row k n
last_over row k zero q h e = absurd (not-suc-le-zero h)
last_over row k (suc n) q h e =
    last_cases row k n (λ x. q < x) (λ p. h)
    (λ p. go p (ℕ_discrete q n) (λ g. last_over row k n q g e))
  where
    go : key (get_or row n (pos 0)) ≢ k → Dec (q ≡ n) → (q < n → q < last_before row k n) → q < last_before row k n
    go p (yes f) rest = absurd (p (ap (λ i. key (get_or row i (pos 0))) (sym f) ∙ e))
    go p (no f) rest = rest (omega (arith, f))

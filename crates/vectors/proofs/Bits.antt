-- The bits of a number one by one: of `and` and `or`, of a shifted number, past the highest, and numbers with the same bits.
use Rattle.std.proofs.Common.{◌≡◌, ℕ, zero, suc, ◌+◌, ◌-◌, ◌*◌, ◌/◌, ◌%◌, ◌^◌, ◌<◌, ◌≤◌, true, false, ◌&&◌, ◌||◌, eqb, ltb, ◌⊎◌, sym, refl, ap, ◌∙◌, inl, inr, ⊎_elim, mul_assoc, div-one, arith, pow_pos, pow-add, shr-shr}
use native.Mathlib.Nat.{zero-div, div-eq_of_lt}
use lib.Arith.{bin_ind}
use lib.Bits.{bit_and, bit_or, and_shr, or_shr, and_mod, or_mod, shifted_even}
use lib.Pow.{shl-shr, split}
use Rattle.std.proofs.lemmas.Nat.{mod_below, div-add-mod'}
use Rattle.std.proofs.lemmas.Bool.{cases_lt, eq-eqb, le-ltb, lt-ltb, ne_eqb}
use Rattle.vectors.specs.Vectors.{bit_at}

-- the lowest bit
pub bit_lowest : (n : ℕ) → bit_at n 0 ≡ eqb (n % 2) 1
bit_lowest n = ap (λ (x : ℕ). eqb (x % 2) 1) (div-one n)

-- bit j + i of a number is bit i of the number shifted down by j
pub bit_add : (n j i : ℕ) → bit_at n (j + i) ≡ bit_at (n / 2 ^ j) i
bit_add n j i = ap (λ (x : ℕ). eqb (x % 2) 1) (sym (shr-shr n j i))

pub bit_suc : (n j : ℕ) → bit_at n (suc j) ≡ bit_at (n / 2) j
bit_suc n j = ap (bit_at n) (omega arith) ∙ bit_add n 1 j

-- a digit is 0 or 1
digit : (n : ℕ) → (n % 2 ≡ 0) ⊎ (n % 2 ≡ 1)
digit n = two (n % 2) (mod_below n 2 (omega arith))
  where
    two : (d : ℕ) → d < 2 → (d ≡ 0) ⊎ (d ≡ 1)
    two zero h = inl refl
    two (suc zero) h = inr refl
    two (suc (suc d)) h = absurd (omega arith)

-- ---- `and` and `or`

and_digit : (a b : ℕ) → eqb (bit_and a b % 2) 1 ≡ (eqb (a % 2) 1 && eqb (b % 2) 1)
and_digit a b = ap (λ (x : ℕ). eqb x 1) (and_mod a b 1) ∙ at (a % 2) (b % 2) (digit a) (digit b)
  where
    at : (x y : ℕ) → (x ≡ 0) ⊎ (x ≡ 1) → (y ≡ 0) ⊎ (y ≡ 1) → eqb (bit_and x y) 1 ≡ (eqb x 1 && eqb y 1)
    at x y (inl p) (inl q) = simp (p, q)
    at x y (inl p) (inr q) = simp (p, q)
    at x y (inr p) (inl q) = simp (p, q)
    at x y (inr p) (inr q) = simp (p, q)

or_digit : (a b : ℕ) → eqb (bit_or a b % 2) 1 ≡ (eqb (a % 2) 1 || eqb (b % 2) 1)
or_digit a b = ap (λ (x : ℕ). eqb x 1) (or_mod a b 1) ∙ at (a % 2) (b % 2) (digit a) (digit b)
  where
    at : (x y : ℕ) → (x ≡ 0) ⊎ (x ≡ 1) → (y ≡ 0) ⊎ (y ≡ 1) → eqb (bit_or x y) 1 ≡ (eqb x 1 || eqb y 1)
    at x y (inl p) (inl q) = simp (p, q)
    at x y (inl p) (inr q) = simp (p, q)
    at x y (inr p) (inl q) = simp (p, q)
    at x y (inr p) (inr q) = simp (p, q)

pub bit_and_lem : (a b j : ℕ) → bit_at (bit_and a b) j ≡ (bit_at a j && bit_at b j)
bit_and_lem a b j = ap (λ (x : ℕ). eqb (x % 2) 1) (and_shr a b j) ∙ and_digit (a / 2 ^ j) (b / 2 ^ j)

pub bit_or_lem : (a b j : ℕ) → bit_at (bit_or a b) j ≡ (bit_at a j || bit_at b j)
bit_or_lem a b j = ap (λ (x : ℕ). eqb (x % 2) 1) (or_shr a b j) ∙ or_digit (a / 2 ^ j) (b / 2 ^ j)

-- ---- no bits, and a number shifted up

pub bit_of_zero : (j : ℕ) → bit_at 0 j ≡ false
bit_of_zero j = ap (λ (x : ℕ). eqb (x % 2) 1) (zero-div (2 ^ j))

-- a number below 2 ^ k has no bit from k on
pub bit_past : (n k j : ℕ) → n < 2 ^ k → k ≤ j → bit_at n j ≡ false
bit_past n k j h l = ap (bit_at n) (omega arith) ∙ bit_add n k (j - k) ∙ ap (λ (x : ℕ). bit_at x (j - k)) (div-eq_of_lt h) ∙ bit_of_zero (j - k)

-- bit j + i of a number shifted up by j is bit i of the number
pub bit_shifted : (a j i : ℕ) → bit_at (a * 2 ^ j) (j + i) ≡ bit_at a i
bit_shifted a j i = bit_add (a * 2 ^ j) j i ∙ ap (λ (x : ℕ). bit_at x i) (shl-shr a j)

pub bit_shifted_at : (a j : ℕ) → bit_at (a * 2 ^ j) j ≡ bit_at a 0
bit_shifted_at a j = ap (bit_at (a * 2 ^ j)) (omega arith) ∙ bit_shifted a j 0

-- below j a number shifted up by j has no bit
pub bit_shifted_below : (a j i : ℕ) → i < j → bit_at (a * 2 ^ j) i ≡ false
bit_shifted_below a j i h =
    let d : ℕ = j - i - 1 in
    let e : 2 ^ j ≡ 2 ^ suc d * 2 ^ i = ap (λ (x : ℕ). 2 ^ x) (omega arith) ∙ pow-add 2 (suc d) i in
    ap (λ (x : ℕ). bit_at (a * x) i) e
    ∙ ap (λ (x : ℕ). bit_at x i) (sym (mul_assoc a (2 ^ suc d) (2 ^ i)))
    ∙ bit_shifted_at (a * 2 ^ suc d) i
    ∙ bit_lowest (a * 2 ^ suc d)
    ∙ ap (λ (x : ℕ). eqb x 1) (shifted_even a d)

-- ---- numbers with the same bits are equal

-- the digit from the test
digit_from : (a b : ℕ) → eqb (a % 2) 1 ≡ eqb (b % 2) 1 → a % 2 ≡ b % 2
digit_from a b e = at (a % 2) (b % 2) (digit a) (digit b) e
  where
    at : (x y : ℕ) → (x ≡ 0) ⊎ (x ≡ 1) → (y ≡ 0) ⊎ (y ≡ 1) → eqb x 1 ≡ eqb y 1 → x ≡ y
    at x y (inl p) (inl q) f = cc
    at x y (inl p) (inr q) f = cc
    at x y (inr p) (inl q) f = cc
    at x y (inr p) (inr q) f = cc

pub zero_from_bits : (n : ℕ) → ((j : ℕ) → bit_at n j ≡ false) → n ≡ 0
zero_from_bits = bin_ind (λ n. ((j : ℕ) → bit_at n j ≡ false) → n ≡ 0) (λ _. refl) (λ n ih h.
    let hi : n / 2 ≡ 0 = ih (λ j. sym (bit_suc n j) ∙ h (suc j)) in
    let lo : n % 2 ≡ 0 = digit_from n 0 (sym (bit_lowest n) ∙ h 0) in
    omega (arith, div-add-mod' n 2))

pub same_bits : (a b : ℕ) → ((j : ℕ) → bit_at a j ≡ bit_at b j) → a ≡ b
same_bits = bin_ind (λ a. (b : ℕ) → ((j : ℕ) → bit_at a j ≡ bit_at b j) → a ≡ b)
    (λ b h. sym (zero_from_bits b (λ j. sym (h j) ∙ bit_of_zero j)))
    (λ a ih b h.
    let hi : a / 2 ≡ b / 2 = ih (b / 2) (λ j. sym (bit_suc a j) ∙ h (suc j) ∙ bit_suc b j) in
    let lo : a % 2 ≡ b % 2 = digit_from a b (sym (bit_lowest a) ∙ h 0 ∙ bit_lowest b) in
    omega (arith, div-add-mod' a 2, div-add-mod' b 2))

-- a number that a shift down by k leaves nothing of is below 2 ^ k
pub below_from_shift : (n k : ℕ) → n / 2 ^ k ≡ 0 → n < 2 ^ k
below_from_shift n k z =
    let e : n % 2 ^ k ≡ n = sym (ap (λ (x : ℕ). x * 2 ^ k + n % 2 ^ k) z ∙ omega arith) ∙ split n k in
    omega (arith, e, mod_below n (2 ^ k) (pow_pos k))

-- a number with no bit from k on is below 2 ^ k
pub below_from_bits : (n k : ℕ) → ((j : ℕ) → k ≤ j → bit_at n j ≡ false) → n < 2 ^ k
below_from_bits n k h = below_from_shift n k (zero_from_bits (n / 2 ^ k) (λ j. sym (bit_add n k j) ∙ h (k + j) (omega arith)))

-- a number below a power is below every higher one
pub below_past : (n k m : ℕ) → n < 2 ^ k → k ≤ m → n < 2 ^ m
below_past n k m l h = below_from_bits n m (λ j g. bit_past n k j l (omega arith))

-- the test whether a shift leaves something is the comparison with the power
pub below_by_shift : (n k : ℕ) → eqb (n / 2 ^ k) 0 ≡ ltb n (2 ^ k)
below_by_shift n k = ⊎_elim
    (λ h. eq-eqb (n / 2 ^ k) 0 (div-eq_of_lt h) ∙ sym (lt-ltb n (2 ^ k) h))
    (λ h. ne_eqb (n / 2 ^ k) 0 (λ z. omega (arith, below_from_shift n k z)) ∙ sym (le-ltb n (2 ^ k) h))
    (cases_lt n (2 ^ k))

pub below_wide : (n w k : ℕ) → n < 2 ^ w → w ≤ k → true ≡ ltb n (2 ^ k)
below_wide n w k l h = sym (lt-ltb n (2 ^ k) (below_past n w k l h))

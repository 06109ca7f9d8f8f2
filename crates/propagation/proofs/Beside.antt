-- A clause of at most three places with a false literal at one of them comes to what the two others come to.
use Rattle.std.proofs.Common.{◌≡◌, ℕ, zero, suc, ◌+◌, ◌-◌, ◌<◌, ◌≤◌, true, false, cond, List, [], ◌∷◌, length, get_or, take, drop, ℤ, pos, Some, sym, refl, ap, ◌∙◌, ap₂, le_of_suc-le-suc, not-suc-le-zero, arith, length-drop, length-take, get_or-drop, get_or-take, le-ltb, lt-ltb, eq-eqb, ne_eqb, le-leb}
use native.Mathlib.Decide.{dec_lt}
use borrow.Author.Tests.{lt-leb}
use Rattle.std.proofs.lemmas.List.{get_or_past, get_or_default}
use Rattle.solving.specs.Settings.{Setting, worth, value}
use Rattle.solving.specs.declared.state.State.TheVariants.{Broken as broken}
use Rattle.solving.specs.States.{joined, state_of}
use Rattle.propagation.specs.Occurrences.{never, literal_at, first_other, second_other}

abbrev without : List ℤ → ℕ → List ℤ
without [] i = []
without (x ∷ c) zero = c
without (x ∷ c) (suc i) = x ∷ without c i

-- a false literal can be left out
state_without : (v : Setting) (c : List ℤ) (i : ℕ) → i < length c → value v (get_or c i (pos 0)) ≡ Some false → state_of v (without c i) ≡ state_of v c
state_without v [] i h e = absurd (not-suc-le-zero h)
state_without v (x ∷ c) zero h e = sym (ap (λ o. joined o x (state_of v c)) e)
state_without v (x ∷ c) (suc i) h e = ap (joined (value v x) x) (state_without v c i (le_of_suc-le-suc h) e)

without_length : (c : List ℤ) (i : ℕ) → i < length c → suc (length (without c i)) ≡ length c
without_length [] i h = absurd (not-suc-le-zero h)
without_length (x ∷ c) zero h = refl
without_length (x ∷ c) (suc i) h = ap suc (without_length c i (le_of_suc-le-suc h))

never_false : (v : Setting) → length v ≤ 560 → value v never ≡ Some false
never_false v h = ap (λ o. worth o true) (get_or_past v 32766 (Some false) (omega arith))

-- and one that is never true can be put in
padded : (v : Setting) (d : List ℤ) → length v ≤ 560 → length d ≤ 2 → state_of v (get_or d 0 never ∷ get_or d 1 never ∷ []) ≡ state_of v d
padded v [] h l = ap (λ o. joined o never (joined o never broken)) (never_false v h)
padded v (x ∷ []) h l = ap (λ o. joined (value v x) x (joined o never broken)) (never_false v h)
padded v (x ∷ y ∷ []) h l = refl
padded v (x ∷ y ∷ z ∷ d) h l = absurd (omega arith)

-- what stands first and second without a place
first_zero : (c : List ℤ) → get_or (without c 0) 0 never ≡ get_or c 1 never
first_zero [] = refl
first_zero (x ∷ c) = refl

second_zero : (c : List ℤ) → get_or (without c 0) 1 never ≡ get_or c 2 never
second_zero [] = refl
second_zero (x ∷ c) = refl

first_suc : (c : List ℤ) (i : ℕ) → get_or (without c (suc i)) 0 never ≡ get_or c 0 never
first_suc [] i = refl
first_suc (x ∷ c) i = refl

second_one : (c : List ℤ) → get_or (without c 1) 1 never ≡ get_or c 2 never
second_one [] = refl
second_one (x ∷ []) = refl
second_one (x ∷ y ∷ c) = refl

second_more : (c : List ℤ) (i : ℕ) → get_or (without c (suc (suc i))) 1 never ≡ get_or c 1 never
second_more [] i = refl
second_more (x ∷ []) i = refl
second_more (x ∷ y ∷ c) i = refl

module _ (v : Setting) (row : List ℤ) (from to p : ℕ) (starts : from ≤ p) (stops : p < to) (inside : to ≤ length row) where
  abbrev clause : List ℤ
  clause = take (to - from) (drop from row)

  long : length clause ≡ to - from
  long = length-take (to - from) (drop from row) ∙ omega (arith, length-drop from row)

  -- a place of the clause in the row
  at_place : (j q : ℕ) → q ≡ from + j → get_or clause j never ≡ literal_at row to q
  at_place j q e = go (dec_lt q to) where
    go : Dec (q < to) → get_or clause j never ≡ literal_at row to q
    go (yes l) =
        let a : j < to - from = omega (arith, e, l) in
        let b : j < length clause = omega (arith, a, long) in
        let g : get_or row (from + j) (pos 0) ≡ get_or row q (pos 0) = ap (λ n. get_or row n (pos 0)) (sym e) in
        get_or_default clause j never (pos 0) b ∙ get_or-take (to - from) (drop from row) j (pos 0) a ∙ get_or-drop from row j (pos 0) ∙ g ∙ sym (ap (λ b. cond b (get_or row q (pos 0)) never) (lt-ltb q to l))
    go (no l) = get_or_past clause j never (omega (arith, long, e, l)) ∙ sym (ap (λ b. cond b (get_or row q (pos 0)) never) (le-ltb q to (omega (arith, l))))

  pair : (i : ℕ) → p ≡ from + i → (get_or (without clause i) 0 never ≡ literal_at row to (first_other from p)) × (get_or (without clause i) 1 never ≡ literal_at row to (second_other from p))
  pair zero e = (
    first_zero clause ∙ at_place 1 (first_other from p) (ap (λ b. cond b (from + 1) from) (eq-eqb p from (omega arith))),
    second_zero clause ∙ at_place 2 (second_other from p) (ap (λ b. cond b (from + 2) (from + 1)) (le-leb p (from + 1) (omega arith))),
  )
  pair (suc zero) e = (
    first_suc clause 0 ∙ at_place 0 (first_other from p) (ap (λ b. cond b (from + 1) from) (ne_eqb p from (λ f. omega arith)) ∙ omega arith),
    second_one clause ∙ at_place 2 (second_other from p) (ap (λ b. cond b (from + 2) (from + 1)) (le-leb p (from + 1) (omega arith))),
  )
  pair (suc (suc i)) e = (
    first_suc clause (suc i) ∙ at_place 0 (first_other from p) (ap (λ b. cond b (from + 1) from) (ne_eqb p from (λ f. omega arith)) ∙ omega arith),
    second_more clause i ∙ at_place 1 (second_other from p) (ap (λ b. cond b (from + 2) (from + 1)) (lt-leb p (from + 1) (omega arith))),
  )

  pub beside : to ≤ from + 3 → length v ≤ 560 → value v (get_or row p (pos 0)) ≡ Some false → state_of v (literal_at row to (first_other from p) ∷ literal_at row to (second_other from p) ∷ []) ≡ state_of v clause
  beside short few e =
      let i : ℕ = p - from in
      let ei : p ≡ from + i = omega arith in
      let q = pair i ei in
      let b : i < length clause = omega (arith, long) in
      let a : i < to - from = omega arith in
      let l : get_or clause i (pos 0) ≡ get_or row p (pos 0) = get_or-take (to - from) (drop from row) i (pos 0) a ∙ get_or-drop from row i (pos 0) ∙ ap (λ n. get_or row n (pos 0)) (sym ei) in
      sym (ap₂ (λ (x y : ℤ). state_of v (x ∷ y ∷ [])) q.0 q.1)
      ∙ padded v (without clause i) few (omega (arith, without_length clause i b, long))
      ∙ state_without v clause i b (ap (value v) l ∙ e)

-- Clauses in a row: the places of each, and which clause a place lies in.
use Rattle.std.proofs.Common.{◌≡◌, ℕ, zero, suc, ◌+◌, ◌-◌, ◌<◌, ◌≤◌, List, [], ◌∷◌, length, get_or, take, drop, ℤ, pos, sym, refl, ap, ◌∙◌, le_of_suc-le-suc, not-suc-le-zero, arith, length-drop, length-take, get_or-drop, get_or-take}
use native.Mathlib.Decide.{dec_lt}
use Rattle.solving.specs.Orders.{Stands, first, next}
use Rattle.propagation.specs.Scanning.{clauses_from, Ends}
use Rattle.propagation.specs.Occurrences.{start_of}
use Rattle.propagation.proofs.Scanned.{ends_le}

pub clauses_length : (row : List ℤ) (from : ℕ) (ends : List ℕ) → length (clauses_from row from ends) ≡ length ends
unfolding clauses_from
clauses_length row from [] = refl
clauses_length row from (e ∷ ends) = ap suc (clauses_length row e ends)

-- a clause by its number
pub clause_part : (row : List ℤ) (from : ℕ) (ends : List ℕ) (c : ℕ) → c < length ends → get_or (clauses_from row from ends) c [] ≡ take (get_or ends c 0 - get_or (from ∷ ends) c 0) (drop (get_or (from ∷ ends) c 0) row)
unfolding clauses_from
clause_part row from [] c h = absurd (not-suc-le-zero h)
clause_part row from (e ∷ ends) zero h = refl
clause_part row from (e ∷ ends) (suc c) h = clause_part row e ends c (le_of_suc-le-suc h)

pub clause_ends : (row : List ℤ) (from : ℕ) (ends : List ℕ) (c : ℕ) → Ends row from ends → c < length ends → (get_or (from ∷ ends) c 0 ≤ get_or ends c 0) × (get_or ends c 0 ≤ length row)
clause_ends row from [] c en h = absurd (not-suc-le-zero h)
clause_ends row from (e ∷ ends) zero en h = (en.0, ends_le row e ends en.1)
clause_ends row from (e ∷ ends) (suc c) en h = clause_ends row e ends c en.1 (le_of_suc-le-suc h)

-- the clauses from one on
pub clauses_drop : (row : List ℤ) (from : ℕ) (ends : List ℕ) (c : ℕ) → c ≤ length ends → drop c (clauses_from row from ends) ≡ clauses_from row (get_or (from ∷ ends) c 0) (drop c ends)
unfolding clauses_from
clauses_drop row from ends zero h = refl
clauses_drop row from [] (suc c) h = absurd (not-suc-le-zero h)
clauses_drop row from (e ∷ ends) (suc c) h = clauses_drop row e ends c (le_of_suc-le-suc h)

pub ends_drop : (row : List ℤ) (from : ℕ) (ends : List ℕ) (c : ℕ) → c ≤ length ends → Ends row from ends → Ends row (get_or (from ∷ ends) c 0) (drop c ends)
ends_drop row from ends zero h en = en
ends_drop row from [] (suc c) h en = absurd (not-suc-le-zero h)
ends_drop row from (e ∷ ends) (suc c) h en = ends_drop row e ends c (le_of_suc-le-suc h) en.1

-- the clause of a place
pub record Owner (ends : List ℕ) (from p : ℕ) : Type 0 where
  pub clause : ℕ
  pub known : clause < length ends
  pub starts : get_or (from ∷ ends) clause 0 ≤ p
  pub stops : p < get_or ends clause 0

pub owner : (row : List ℤ) (from : ℕ) (ends : List ℕ) (p : ℕ) → Ends row from ends → from ≤ p → p < length row → Owner ends from p
owner row from [] p en h g = absurd (omega (arith, en))
owner row from (e ∷ ends) p en h g = go (dec_lt p e) (λ l. owner row e ends p en.1 l g) where
  go : Dec (p < e) → (e ≤ p → Owner ends e p) → Owner (e ∷ ends) from p
  go (yes l) later = record { clause = zero; known = omega arith; starts = h; stops = l }
  go (no l) later =
      let o = later (omega (arith, l)) in
      record { clause = suc o.clause; known = omega (arith, o.known); starts = o.starts; stops = o.stops }

-- a clause of the list stands in it
pub stands_at : (cs : List (List ℤ)) (c : ℕ) → c < length cs → Stands (get_or cs c []) cs
stands_at [] c h = absurd (not-suc-le-zero h)
stands_at (d ∷ cs) zero h = first
stands_at (d ∷ cs) (suc c) h = next (stands_at cs c (le_of_suc-le-suc h))

module _ (row : List ℤ) (ends : List ℕ) (en : Ends row 0 ends) where
  pub clause_at : (c : ℕ) → c < length (clauses_from row 0 ends) → get_or (clauses_from row 0 ends) c [] ≡ take (get_or ends c 0 - start_of ends c) (drop (start_of ends c) row)
  clause_at c h = clause_part row 0 ends c (omega (arith, clauses_length row 0 ends))

  clause_length : (c : ℕ) → c < length (clauses_from row 0 ends) → length (get_or (clauses_from row 0 ends) c []) ≡ get_or ends c 0 - start_of ends c
  clause_length c h =
      let g = clause_ends row 0 ends c en (omega (arith, clauses_length row 0 ends)) in
      ap length (clause_at c h) ∙ simp (length-take, length-drop) (omega (arith, g.0, g.1))

  -- a literal of a clause by its place in the row
  pub place_inside : (c i : ℕ) → c < length (clauses_from row 0 ends) → i < length (get_or (clauses_from row 0 ends) c []) → (start_of ends c + i < get_or ends c 0) × (start_of ends c + i < length row)
  place_inside c i h g =
      let l = clause_length c h in
      let e = clause_ends row 0 ends c en (omega (arith, clauses_length row 0 ends)) in
      (omega (arith, l, g), omega (arith, l, g, e.0, e.1))

  pub place_literal : (c i : ℕ) → c < length (clauses_from row 0 ends) → i < length (get_or (clauses_from row 0 ends) c []) → get_or row (start_of ends c + i) (pos 0) ≡ get_or (get_or (clauses_from row 0 ends) c []) i (pos 0)
  place_literal c i h g =
      let l = clause_length c h in
      let q : i < get_or ends c 0 - start_of ends c = omega (arith, l, g) in
      sym (ap (λ (x : List ℤ). get_or x i (pos 0)) (clause_at c h) ∙ get_or-take (get_or ends c 0 - start_of ends c) (drop (start_of ends c) row) i (pos 0) q ∙ get_or-drop (start_of ends c) row i (pos 0))

start_over : (row : List ℤ) (from : ℕ) (ends : List ℕ) (c : ℕ) → Ends row from ends → c ≤ length ends → from ≤ get_or (from ∷ ends) c 0
start_over row from ends zero en h = omega arith
start_over row from [] (suc c) en h = absurd (not-suc-le-zero h)
start_over row from (e ∷ ends) (suc c) en h = let g = start_over row e ends c en.1 (le_of_suc-le-suc h) in omega (arith, g, en.0)

-- ends rise: what lies in an earlier clause lies before the start of a later one
pub ends_before : (row : List ℤ) (from : ℕ) (ends : List ℕ) (d c : ℕ) → Ends row from ends → d < c → c ≤ length ends → get_or ends d 0 ≤ get_or (from ∷ ends) c 0
ends_before row from ends d zero en h g = absurd (not-suc-le-zero h)
ends_before row from [] d (suc c) en h g = absurd (not-suc-le-zero g)
ends_before row from (e ∷ ends) zero (suc c) en h g = start_over row e ends c en.1 (le_of_suc-le-suc g)
ends_before row from (e ∷ ends) (suc d) (suc c) en h g = ends_before row e ends d c en.1 (le_of_suc-le-suc h) (le_of_suc-le-suc g)

pub ends_last : (row : List ℤ) (from : ℕ) (ends : List ℕ) → Ends row from ends → get_or (from ∷ ends) (length ends) 0 ≡ length row
ends_last row from [] en = en
ends_last row from (e ∷ ends) en = ends_last row e ends en.1

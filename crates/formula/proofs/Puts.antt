-- One row of the table as the code gives it: the literal of a code, the codes of a clause one by one, the clauses of the row.
use Rattle.std.proofs.Common.{◌≡◌, ℕ, zero, suc, pred, ◌+◌, ◌-◌, ◌<◌, Bool, true, false, cond, List, [], ◌∷◌, ◌++◌, map, length, get_or, drop, ℤ, pos, negsuc, sym, refl, ap, ◌∙◌, arith}
use mathlib.Core.Bool.{false≢true}
use lib.IntN.{nat_abs}
use lib.Signed.{lt_z}
use Rattle.std.proofs.lemmas.List.{at_drop_more, map-append}
use Rattle.std.proofs.lemmas.Bool.{and_from, and_parts, ltb-false}
use Rattle.solving.specs.Literals.{all_in_range, in_range, place}
use Rattle.solving.specs.Models.{Model, appendable, longer}
use Rattle.formula.specs.Posing.{given}
use Rattle.formula.specs.Rows.{clauses_in, literal_of, over, with_clause, with_code, written}
use Rattle.formula.proofs.Renamed.{in_table}

-- several clauses more
pub given_given : (m : Model) (cs ds : List (List ℤ)) → given (given m cs) ds ≡ given m (cs ++ ds)
given_given m [] ds = refl
given_given m (c ∷ cs) ds = given_given (cond (appendable m c) (longer m c) m) cs ds

-- the literal of a code
pub code_place : (code : ℤ) → nat_abs code - 1 ≡ place code
code_place (pos zero) = refl
code_place (pos (suc n)) = omega arith
code_place (negsuc n) = omega arith

pub code_literal : (v : ℕ) (vs : List ℕ) (code : ℤ) (b : Bool) (x : ℕ) → in_range v code ≡ true → lt_z (pos 0) code ≡ b → x ≡ get_or vs (place code) 0 → cond b (pos x) (negsuc (pred x)) ≡ literal_of vs code
code_literal v vs (pos zero) b x r h e = absurd (false≢true r)
code_literal v vs (pos (suc n)) true x r h e = ap pos e
code_literal v vs (pos (suc n)) false x r h e = absurd (let f = ltb-false 0 (suc n) h in omega arith)
code_literal v vs (negsuc n) true x r h e = absurd (false≢true h)
code_literal v vs (negsuc n) false x r h e = ap (λ y. negsuc (pred y)) e

-- a code that stands in a clause whose codes name variables names one
code_front : (v : ℕ) (code : ℤ) (codes : List ℤ) → all_in_range v (with_code code codes) ≡ true → (all_in_range v (with_code code []) ≡ true) × (all_in_range v codes ≡ true)
code_front v (pos zero) codes e = (refl, e)
code_front v (pos (suc n)) codes e = let p = and_parts _ _ e in (and_from _ true p.0 refl, p.1)
code_front v (negsuc n) codes e = let p = and_parts _ _ e in (and_from _ true p.0 refl, p.1)

pub code_in_range : (v : ℕ) (codes : List ℤ) (i : ℕ) → all_in_range v (written codes) ≡ true → i < length codes → all_in_range v (with_code (get_or codes i (pos 0)) []) ≡ true
code_in_range v [] i e l = absurd (omega arith)
code_in_range v (c ∷ codes) zero e l = (code_front v c (written codes) e).0
code_in_range v (c ∷ codes) (suc i) e l = code_in_range v codes i (code_front v c (written codes) e).1 (omega arith)

pub alone_in_range : (v : ℕ) (code : ℤ) → all_in_range v (with_code code []) ≡ true → (code ≡ pos 0 → ⊥) → in_range v code ≡ true
alone_in_range v (pos zero) e h = absurd (h refl)
alone_in_range v (pos (suc n)) e h = (and_parts _ _ e).0
alone_in_range v (negsuc n) e h = (and_parts _ _ e).0

-- the clauses of a row, one more at a time
with_clause_append : (ls : List ℤ) (cs : List (List ℤ)) → with_clause ls cs ≡ with_clause ls [] ++ cs
with_clause_append [] cs = refl
with_clause_append (l ∷ ls) cs = refl

pub row_more : (m after : Model) (vs : List ℕ) (row : List (List ℤ)) (i : ℕ) → i < length row → after ≡ given m (over vs (with_clause (written (get_or row i [])) []))
    → given after (over vs (clauses_in (drop (i + 1) row))) ≡ given m (over vs (clauses_in (drop i row)))
row_more m after vs row i l h =
    let c = with_clause (written (get_or row i [])) [] in
    let rest = clauses_in (drop (i + 1) row) in
    let step : over vs (clauses_in (drop i row)) ≡ over vs c ++ over vs rest = at_drop_more (λ xs. over vs (clauses_in xs)) row i [] l ∙ ap (over vs) (with_clause_append (written (get_or row i [])) rest) ∙ map-append (map (literal_of vs)) c rest in
    ap (λ x. given x (over vs rest)) h ∙ given_given m (over vs c) (over vs rest) ∙ ap (given m) (sym step)

-- a clause that stands in a row whose codes name variables does so too
clause_head : (v : ℕ) (ls : List ℤ) (cs : List (List ℤ)) → in_table v (with_clause ls cs) ≡ true → (all_in_range v ls ≡ true) × (in_table v cs ≡ true)
clause_head v [] cs e = (refl, e)
clause_head v (l ∷ ls) cs e = and_parts _ _ e

pub row_in_range : (v : ℕ) (row : List (List ℤ)) (i : ℕ) → in_table v (clauses_in row) ≡ true → i < length row → all_in_range v (written (get_or row i [])) ≡ true
row_in_range v [] i e l = absurd (omega arith)
row_in_range v (codes ∷ row) zero e l = (clause_head v (written codes) (clauses_in row) e).0
row_in_range v (codes ∷ row) (suc i) e l = row_in_range v row i (clause_head v (written codes) (clauses_in row) e).1 (omega arith)

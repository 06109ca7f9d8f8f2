-- The row of literals: what appending a clause adds to the clauses, the places that they use, and the range of literals.
use Rattle.std.proofs.Common.{◌≡◌, ℕ, ◌+◌, ◌-◌, ◌≤◌, Bool, true, false, cond, ◌&&◌, leb, List, [], ◌∷◌, ◌++◌, length, take, drop, ℤ, None, sym, refl, ap, ◌∙◌, ap₂, arith, length-drop, length-take, eq-eqb, eqb-true, le-leb, leb-true}
use mathlib.Core.Bool.{false≢true}
use Rattle.std.proofs.lemmas.List.{take_all, drop_at, drop-append-le, take-append-le}
use Rattle.solving.specs.Literals.{places}
use Rattle.solving.specs.Models.{Model, begun, startable}
use Rattle.propagation.specs.Scanning.{clauses_from, Ends, ends_well}
use Rattle.propagation.proofs.Scanned.{ends_le}

and_left : (a b : Bool) → (a && b) ≡ true → a ≡ true
and_left true b e = refl
and_left false b e = absurd (false≢true e)

and_right : (a b : Bool) → (a && b) ≡ true → b ≡ true
and_right true b e = e
and_right false b e = absurd (false≢true e)

pub ends_of : (row : List ℤ) (n from : ℕ) (ends : List ℕ) → n ≡ length row → ends_well n from ends ≡ true → Ends row from ends
ends_of row n from [] l e = eqb-true from n e ∙ l
ends_of row n from (x ∷ ends) l e = (leb-true from x (and_left (leb from x) (ends_well n x ends) e), ends_of row n x ends l (and_right (leb from x) (ends_well n x ends) e))

pub ends_as : (row other : List ℤ) (ends others : List ℕ) → row ≡ other → ends ≡ others → Ends other 0 others → Ends row 0 ends
ends_as row other ends others p q h = rw (p, q) h

pub ends_more : (n m from : ℕ) (ends : List ℕ) → n ≤ m → ends_well n from ends ≡ true → ends_well m from (ends ++ (m ∷ [])) ≡ true
ends_more n m from [] h e = let f = eqb-true from n e in ap₂ ◌&&◌ (le-leb from m (omega arith)) (eq-eqb m m refl)
ends_more n m from (x ∷ ends) h e = ap₂ ◌&&◌ (and_left (leb from x) (ends_well n x ends) e) (ends_more n m x ends h (and_right (leb from x) (ends_well n x ends) e))

-- what stands between two places of a row stands there in a longer one
part_kept : (row c : List ℤ) (from e : ℕ) → from ≤ e → e ≤ length row → take (e - from) (drop from (row ++ c)) ≡ take (e - from) (drop from row)
part_kept row c from e h g =
    ap (take (e - from)) (drop-append-le from row c (omega arith)) ∙ take-append-le (e - from) (drop from row) c (simp length-drop (omega arith))

pub clauses_more : (row c : List ℤ) (from m : ℕ) (ends : List ℕ) → m ≡ length row + length c → Ends row from ends → clauses_from (row ++ c) from (ends ++ (m ∷ [])) ≡ clauses_from row from ends ++ (c ∷ [])
unfolding clauses_from
clauses_more row c from m [] l h =
    ap (λ (x : List ℤ). x ∷ []) (ap (take (m - from)) (drop_at row c from (sym h)) ∙ take_all (m - from) c (omega arith))
clauses_more row c from m (e ∷ ends) l h =
    ap₂ (λ (x : List ℤ) (xs : List (List ℤ)). x ∷ xs) (part_kept row c from e h.0 (ends_le row e ends h.1)) (clauses_more row c e m ends l h.1)

-- a clause uses its literals and the place of its end
pub places_of : (row : List ℤ) (from : ℕ) (ends : List ℕ) → Ends row from ends → places (clauses_from row from ends) + from ≡ length row + length ends
unfolding clauses_from
places_of row from [] h = omega arith
places_of row from (e ∷ ends) h =
    let g = ends_le row e ends h.1 in
    let l : length (take (e - from) (drop from row)) ≡ e - from = simp (length-take, length-drop) (omega (arith, h.0)) in
    let r = places_of row e ends h.1 in
    omega (arith, h.0)

-- a store without clauses, and the places of one with them
pub clauses_none : (row : List ℤ) (ends : List ℕ) → ends ≡ [] → clauses_from row 0 ends ≡ []
unfolding clauses_from
clauses_none row ends e = ap (clauses_from row 0) e

pub model_none : (v k : ℕ) (row : List ℤ) (ends : List ℕ) → ends ≡ [] → ◌≡◌ {A = Model} (record { variables = v; leading = k; clauses = clauses_from row 0 ends; reading = None }) (begun v k)
model_none v k row ends e = ap (λ (cs : List (List ℤ)). record { variables = v; leading = k; clauses = cs; reading = None }) (clauses_none row ends e)

pub places_used : (row : List ℤ) (n k : ℕ) (ends : List ℕ) → n ≡ length row → k ≡ length ends → ends_well n 0 ends ≡ true → places (clauses_from row 0 ends) ≡ n + k
places_used row n k ends l m e = let h = places_of row 0 ends (ends_of row n 0 ends l e) in omega arith

pub if_true : {A : Type 0} (b : Bool) (x y : A) → b ≡ true → x ≡ cond b x y
if_true b x y e = sym (ap (λ z. cond z x y) e)

pub if_false : {A : Type 0} (b : Bool) (x y : A) → b ≡ false → y ≡ cond b x y
if_false b x y e = sym (ap (λ z. cond z x y) e)

pub start_leads : (v k : ℕ) → startable v k ≡ true → k ≤ v
start_leads v k e = leb-true k v (and_left (leb k v) (leb v 560) (and_right (leb 1 k && leb k 32) (leb k v && leb v 560) e))

pub start_some : (v k : ℕ) → startable v k ≡ true → 1 ≤ k
start_some v k e = leb-true 1 k (and_left (leb 1 k) (leb k 32) (and_left (leb 1 k && leb k 32) (leb k v && leb v 560) e))

-- The scan against the first clause that is false throughout or unit, and what it says of the clauses.
use Rattle.std.proofs.Common.{◌≡◌, ℕ, zero, suc, ◌+◌, ◌-◌, ◌<◌, ◌≤◌, Bool, true, false, List, [], ◌∷◌, length, get_or, take, drop, ℤ, pos, Some, None, Ok, Err, Option, sym, refl, ap, ◌∙◌, le_of_suc-le-suc, not-suc-le-zero, add-one, arith, drop_of_length-le, drop-cons}
use Rattle.solving.specs.Settings.{Setting, at, value, made, open_in}
use Rattle.solving.specs.declared.state.State.{State}
use Rattle.solving.specs.declared.state.State.TheVariants.{Broken as broken, Lone as unit, Other as other}
use Rattle.solving.specs.States.{joined, state_of}
use Rattle.solving.specs.Literals.{place}
use Rattle.solving.specs.Closing.{or_unit, or_broken, first_unit, violated}
use Rattle.propagation.specs.Scanning.{Scan, or_later, foremost, clauses_from, Ends}
use Rattle.propagation.proofs.Parts.{combined}
use Rattle.solving.proofs.Closed.{first_open, value_open, made_fewer}

pub combined_joined : (s : State) (o : Option Bool) (l : ℤ) (r : State) → combined s (joined o l r) ≡ combined (joined o l s) r
combined_joined broken (Some true) l r = refl
combined_joined (unit k) (Some true) l r = refl
combined_joined other (Some true) l r = refl
combined_joined s (Some false) l r = refl
combined_joined broken None l broken = refl
combined_joined broken None l (unit m) = refl
combined_joined broken None l other = refl
combined_joined (unit k) None l broken = refl
combined_joined (unit k) None l (unit m) = refl
combined_joined (unit k) None l other = refl
combined_joined other None l r = refl

pub combined_end : (s : State) → combined s broken ≡ s
combined_end broken = refl
combined_end (unit l) = refl
combined_end other = refl

-- one more literal of the clause
pub scan_more : (v : Setting) (c : List ℤ) (i : ℕ) (s whole : State) → i < length c → combined s (state_of v (drop i c)) ≡ whole → combined (joined (value v (get_or c i (pos 0))) (get_or c i (pos 0)) s) (state_of v (drop (i + 1) c)) ≡ whole
scan_more v c i s whole h q =
    let p : drop i c ≡ get_or c i (pos 0) ∷ drop (i + 1) c = rw (add-one, drop-cons c i (pos 0)) in
    sym (combined_joined s (value v (get_or c i (pos 0))) (get_or c i (pos 0)) (state_of v (drop (i + 1) c))) ∙ ap (λ xs. combined s (state_of v xs)) (sym p) ∙ q

pub scan_done : (v : Setting) (c : List ℤ) (i : ℕ) (s whole : State) → length c ≤ i → combined s (state_of v (drop i c)) ≡ whole → s ≡ whole
scan_done v c i s whole h q = sym (combined_end s) ∙ ap (λ xs. combined s (state_of v xs)) (sym (drop_of_length-le c h)) ∙ q

-- what the scan says of the clauses
broken_lone : {n k : ℕ} {l : ℤ} → ◌≡◌ {A = Scan} (Err (record { clause = n })) (Ok (Some (k, l))) → ⊥
broken_lone {n} {k} {l} e = let z : ◌≡◌ {A = ℕ} 0 1 = cc in omega arith

nothing_lone : {k : ℕ} {l : ℤ} → ◌≡◌ {A = Scan} (Ok None) (Ok (Some (k, l))) → ⊥
nothing_lone {k} {l} e = let z : ◌≡◌ {A = ℕ} 0 1 = cc in omega arith

nothing_broken : {n : ℕ} → ◌≡◌ {A = Scan} (Ok None) (Err (record { clause = n })) → ⊥
nothing_broken {n} e = let z : ◌≡◌ {A = ℕ} 0 1 = cc in omega arith

-- a number and a literal are the ones that a scan names
number_in : Scan → ℕ
number_in (Ok (Some p)) = p.0
number_in (Ok None) = 0
number_in (Err v) = 0

literal_in : Scan → ℤ
literal_in (Ok (Some p)) = p.1
literal_in (Ok None) = pos 0
literal_in (Err v) = pos 0

first_of : (a : Setting) (n k : ℕ) (cs : List (List ℤ)) (l : ℤ) → foremost a n cs ≡ Ok (Some (k, l)) → first_unit a cs ≡ Some l
unfolding foremost literal_in
first_of a n k [] l e = absurd (nothing_lone e)
first_of a n k (c ∷ cs) l e = go (state_of a c) e (first_of a (suc n) k cs l) where
  go : (s : State) → or_later n s (foremost a (suc n) cs) ≡ Ok (Some (k, l)) → (foremost a (suc n) cs ≡ Ok (Some (k, l)) → first_unit a cs ≡ Some l) → or_unit s (first_unit a cs) ≡ Some l
  go broken e r = absurd (broken_lone e)
  go (unit m) e r = ap Some (ap literal_in e)
  go other e r = r e

pub broken_of : (a : Setting) (n k : ℕ) (cs : List (List ℤ)) → foremost a n cs ≡ Err (record { clause = k }) → violated a cs ≡ true
unfolding foremost
broken_of a n k [] e = absurd (nothing_broken e)
broken_of a n k (c ∷ cs) e = go (state_of a c) e (broken_of a (suc n) k cs) where
  go : (s : State) → or_later n s (foremost a (suc n) cs) ≡ Err (record { clause = k }) → (foremost a (suc n) cs ≡ Err (record { clause = k }) → violated a cs ≡ true) → or_broken s (violated a cs) ≡ true
  go broken e r = refl
  go (unit m) e r = absurd (broken_lone (sym e))
  go other e r = r e

-- the literal that the scan names is open
pub scan_open : (a : Setting) (n k : ℕ) (cs : List (List ℤ)) (l : ℤ) → foremost a n cs ≡ Ok (Some (k, l)) → at a (place l) ≡ None
scan_open a n k cs l e = value_open a l (first_open a l cs (first_of a n k cs l e))

pub scan_falls : (a : Setting) (n k : ℕ) (cs : List (List ℤ)) (l : ℤ) → foremost a n cs ≡ Ok (Some (k, l)) → suc (open_in (length (made a l)) (made a l)) ≡ open_in (length a) a
scan_falls a n k cs l e = made_fewer a l cs (first_of a n k cs l e)

-- the clauses before the one that the scan names are at rest, and so are all where it names none
pub record Named (a : Setting) (n k : ℕ) (cs : List (List ℤ)) (l : ℤ) : Type 0 where
  pub past : ℕ
  pub number : k ≡ n + past
  pub inside : past < length cs
  pub rests : (j : ℕ) → j < past → state_of a (get_or cs j []) ≡ other
  pub lone : state_of a (get_or cs past []) ≡ unit l

pub scan_lone : (a : Setting) (n k : ℕ) (cs : List (List ℤ)) (l : ℤ) → foremost a n cs ≡ Ok (Some (k, l)) → Named a n k cs l
unfolding foremost literal_in number_in
scan_lone a n k [] l e = absurd (nothing_lone e)
scan_lone a n k (c ∷ cs) l e = go (state_of a c) refl e (scan_lone a (suc n) k cs l) where
  go : (s : State) → state_of a c ≡ s → or_later n s (foremost a (suc n) cs) ≡ Ok (Some (k, l)) → (foremost a (suc n) cs ≡ Ok (Some (k, l)) → Named a (suc n) k cs l) → Named a n k (c ∷ cs) l
  go broken es e r = absurd (broken_lone e)
  go (unit m) es e r =
      let f : m ≡ l = ap literal_in e in
      let g : n ≡ k = ap number_in e in
      record { past = zero; number = omega (arith, g); inside = omega arith; rests = λ j h. absurd (not-suc-le-zero h); lone = es ∙ ap unit f }
  go other es e r =
      let q = r e in
      record {
        past = suc q.past;
        number = omega (arith, q.number);
        inside = omega (arith, q.inside);
        rests = λ j h. earlier es q.past q.rests j h;
        lone = q.lone;
      }
    where
      earlier : state_of a c ≡ other → (p : ℕ) → ((j : ℕ) → j < p → state_of a (get_or cs j []) ≡ other) → (j : ℕ) → j < suc p → state_of a (get_or (c ∷ cs) j []) ≡ other
      earlier es p h zero g = es
      earlier es p h (suc j) g = h j (le_of_suc-le-suc g)

pub scan_nothing : (a : Setting) (n : ℕ) (cs : List (List ℤ)) → foremost a n cs ≡ Ok None → (j : ℕ) → j < length cs → state_of a (get_or cs j []) ≡ other
unfolding foremost
scan_nothing a n [] e j h = absurd (not-suc-le-zero h)
scan_nothing a n (c ∷ cs) e j h = go (state_of a c) refl e (scan_nothing a (suc n) cs) j h where
  go : (s : State) → state_of a c ≡ s → or_later n s (foremost a (suc n) cs) ≡ Ok None → (foremost a (suc n) cs ≡ Ok None → (j : ℕ) → j < length cs → state_of a (get_or cs j []) ≡ other) → (j : ℕ) → j < suc (length cs) → state_of a (get_or (c ∷ cs) j []) ≡ other
  go broken es e r j h = absurd (nothing_broken (sym e))
  go (unit m) es e r j h = absurd (nothing_lone (sym e))
  go other es e r zero h = es
  go other es e r (suc j) h = r e j (le_of_suc-le-suc h)

-- the outer loop: one more clause
pub ends_le : (row : List ℤ) (from : ℕ) (ends : List ℕ) → Ends row from ends → from ≤ length row
ends_le row from [] h = omega arith
ends_le row from (e ∷ ends) h = let g = ends_le row e ends h.1 in omega arith

pub ends_clause : (row : List ℤ) (from c : ℕ) (ends : List ℕ) → c < length ends → Ends row from (drop c ends) → (from ≤ get_or ends c 0) × Ends row (get_or ends c 0) (drop (c + 1) ends)
ends_clause row from c ends h e =
    let p = drop-cons ends c 0 h in
    rw add-one (rw p at e)

cons_clause : (v : Setting) (row : List ℤ) (from n e : ℕ) (ends : List ℕ) → foremost v n (clauses_from row from (e ∷ ends)) ≡ or_later n (state_of v (take (e - from) (drop from row))) (foremost v (suc n) (clauses_from row e ends))
unfolding foremost clauses_from
cons_clause v row from n e ends = refl

pub scan_clause : (v : Setting) (row : List ℤ) (from c : ℕ) (ends : List ℕ) → c < length ends → foremost v c (clauses_from row from (drop c ends)) ≡ or_later c (state_of v (take (get_or ends c 0 - from) (drop from row))) (foremost v (c + 1) (clauses_from row (get_or ends c 0) (drop (c + 1) ends)))
scan_clause v row from c ends h = rw (add-one, drop-cons ends c 0 h) (cons_clause v row from c (get_or ends c 0) (drop (suc c) ends))

pub scan_end : (v : Setting) (row : List ℤ) (from n c : ℕ) (ends : List ℕ) → length ends ≤ c → foremost v n (clauses_from row from (drop c ends)) ≡ Ok None
unfolding foremost clauses_from
scan_end v row from n c ends h = rw (drop_of_length-le ends h)

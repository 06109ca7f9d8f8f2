-- What is pending, step by step: at the start of a search, after a decision, while one literal is followed up, and at the end.
use Rattle.std.proofs.Common.{◌≡◌, ◌≢◌, ℕ, zero, suc, ◌+◌, ◌-◌, ◌*◌, ◌<◌, ◌≤◌, Bool, true, false, cond, not, ◌⊎◌, List, [], ◌∷◌, ◌++◌, length, get_or, take, drop, ℤ, pos, Some, None, Ok, Err, Option, sym, refl, ap, ◌∙◌, subst, ap₂, inl, inr, true≢false, le_of_suc-le-suc, not-suc-le-zero, arith, length-append, length-drop, length-set, get_or-set_same}
use mathlib.Core.Bool.{false≢true}
use native.Mathlib.Decide.{dec_lt, ℕ_discrete}
use lib.Seq.{drop-append-le}
use Rattle.std.proofs.lemmas.List.{get_or_append_left, get_or_push, get_or-drop, drop_more}
use Rattle.solving.specs.Literals.{place, wants}
use Rattle.solving.specs.Settings.{Setting, at, worth, value, made}
use Rattle.solving.specs.declared.state.State.{State}
use Rattle.solving.specs.declared.state.State.TheVariants.{Broken as broken, Lone as unit, Other as other}
use Rattle.solving.specs.States.{joined, state_of}
use Rattle.solving.specs.Closing.{or_broken, or_unit, violated, first_unit}
use Rattle.solving.specs.Orders.{Reaches}
use Rattle.solving.proofs.Places.{set_grows, open_inside, value_kept, some_inj, none_some}
use Rattle.solving.proofs.Closed.{whole_head, still_head, unit_kept, unit_open, value_open}
use Rattle.propagation.specs.Scanning.{foremost, clauses_from}
use Rattle.propagation.specs.Occurrences.{key, against, last_before, start_of, nowhere, Listed}
use Rattle.propagation.specs.declared.occurrence.Occurrence.{Occurrence}
use Rattle.propagation.specs.Trails.{Grown}
use Rattle.propagation.specs.Following.{AtRest, Met, Inside, Pending, Pressed, rests, breaks, forces, PassedOver}
use Rattle.propagation.proofs.Visits.{Looked, Left, Visiting}
use Rattle.propagation.proofs.Weighed.{rest_made}
use Rattle.propagation.proofs.Trailing.{grown_more, grown_longer}
use Rattle.propagation.proofs.Reached.{reach_more}
use Rattle.propagation.proofs.Scanned.{Named, scan_lone, scan_nothing, broken_of}
use Rattle.propagation.proofs.Beside.{beside}
use Rattle.propagation.proofs.Lasts.{last_le, last_stands, last_over}
use Rattle.propagation.proofs.Rows.{clauses_length, clause_at, clause_ends, place_inside, place_literal, owner, stands_at}

-- the literal of a unit clause, made true, brings it to rest
beq_same : (b : Bool) → mathlib.Core.Bool.beq b b ≡ true
beq_same true = refl
beq_same false = refl

pub unit_place : (v : Setting) (m : ℤ) (c : List ℤ) → state_of v c ≡ unit m → at v (place m) ≡ None
unit_place v m c e = value_open v m (unit_open v m c e)

made_true : (v : Setting) (m : ℤ) → at v (place m) ≡ None → value (made v m) m ≡ Some true
made_true v m o = ap (λ x. worth x (wants m)) (get_or-set_same v (place m) (Some (wants m)) (Some false) (open_inside v (place m) o)) ∙ ap Some (beq_same (wants m))

pub unit_rest : (v : Setting) (m : ℤ) (c : List ℤ) → state_of v c ≡ unit m → AtRest (made v m) c
unit_rest v m c e =
    let o = unit_place v m c e in
    unit_kept v (made v m) m c (set_grows v (place m) (wants m) o) e ∙ ap (λ x. joined x m broken) (made_true v m o)

-- a longer front
pub met_more : (c front more : List ℤ) → Met c front → Met c (front ++ more)
met_more c front more m = record {
  at = m.at;
  inside = m.inside;
  by = m.by;
  among = simp length-append (omega (arith, m.among));
  negated = m.negated ∙ ap against (sym (get_or_append_left front more (pos 0) m.by m.among));
}

met_last : (c front : List ℤ) (l : ℤ) (i : ℕ) → i < length c → key (get_or c i (pos 0)) ≡ against l → Met c (front ++ (l ∷ []))
met_last c front l i h e = record {
  at = i;
  inside = h;
  by = length front;
  among = simp length-append (omega arith);
  negated = e ∙ ap against (sym (get_or_push front l (pos 0) (length front) refl));
}

pub inside_more : (v : Setting) (front : List ℤ) (l : ℤ) → Inside v front → at v (place l) ≡ None → Inside (made v l) (front ++ (l ∷ []))
inside_more v front l h o i k = go (ℕ_discrete i (length front)) where
  g : place l < length v
  g = open_inside v (place l) o

  len : length (made v l) ≡ length v
  len = length-set v (place l) (Some (wants l))

  go : Dec (i ≡ length front) → (place (get_or (front ++ (l ∷ [])) i (pos 0)) < length (made v l)) × (value (made v l) (get_or (front ++ (l ∷ [])) i (pos 0)) ≡ Some true)
  go (yes e) = let q : get_or (front ++ (l ∷ [])) i (pos 0) ≡ l = get_or_push front l (pos 0) i (sym e) in rw q (omega (arith, g, len), made_true v l o)
  go (no e) =
      let n = length-append front (l ∷ []) in
      let b : i < length front = omega (arith, k, e, n) in
      let q : get_or (front ++ (l ∷ [])) i (pos 0) ≡ get_or front i (pos 0) = get_or_append_left front (l ∷ []) (pos 0) i b in
      rw q (omega (arith, (h i b).0, len), value_kept v (made v l) (get_or front i (pos 0)) true (set_grows v (place l) (wants l) o) (h i b).1)

-- a clause at rest, or met, after a literal is made true
pub rest_more : (v : Setting) (front c : List ℤ) (l : ℤ) → place l < length v → AtRest v c → AtRest (made v l) c ⊎ Met c (front ++ (l ∷ []))
rest_more v front c l h e = go (rest_made v l c h e) where
  go : AtRest (made v l) c ⊎ ((i : ℕ) × (i < length c) × (key (get_or c i (pos 0)) ≡ against l)) → AtRest (made v l) c ⊎ Met c (front ++ (l ∷ []))
  go (inl r) = inl r
  go (inr q) = inr (met_last c front l q.0 q.1 q.2)

either_more : (v : Setting) (front c : List ℤ) (l : ℤ) → place l < length v → AtRest v c ⊎ Met c front → AtRest (made v l) c ⊎ Met c (front ++ (l ∷ []))
either_more v front c l h (inl e) = rest_more v front c l h e
either_more v front c l h (inr m) = inr (met_more c front (l ∷ []) m)

-- nothing false throughout and nothing unit: every clause is at rest, and the other way round
rest_state : (s : State) → (s ≡ broken → ⊥) → ((l : ℤ) → s ≡ unit l → ⊥) → s ≡ other
rest_state broken p q = absurd (p refl)
rest_state (unit l) p q = absurd (q l refl)
rest_state other p q = refl

pub closed_rest : (v : Setting) (cs : List (List ℤ)) (c : ℕ) → violated v cs ≡ false → first_unit v cs ≡ None → c < length cs → AtRest v (get_or cs c [])
closed_rest v [] c e f h = absurd (not-suc-le-zero h)
closed_rest v (d ∷ cs) zero e f h = rest_state (state_of v d) (whole_head (state_of v d) (violated v cs) e).0 (still_head (state_of v d) (first_unit v cs) f).0
closed_rest v (d ∷ cs) (suc c) e f h = closed_rest v cs c (whole_head (state_of v d) (violated v cs) e).1 (still_head (state_of v d) (first_unit v cs) f).1 (le_of_suc-le-suc h)

pub rest_whole : (v : Setting) (cs : List (List ℤ)) → ((c : ℕ) → c < length cs → AtRest v (get_or cs c [])) → violated v cs ≡ false
rest_whole v [] h = refl
rest_whole v (d ∷ cs) h = ap (λ s. or_broken s (violated v cs)) (h zero (omega arith)) ∙ rest_whole v cs (λ c k. h (suc c) (omega arith))

pub rest_still : (v : Setting) (cs : List (List ℤ)) → ((c : ℕ) → c < length cs → AtRest v (get_or cs c [])) → first_unit v cs ≡ None
rest_still v [] h = refl
rest_still v (d ∷ cs) h = ap (λ s. or_unit s (first_unit v cs)) (h zero (omega arith)) ∙ rest_still v cs (λ c k. h (suc c) (omega arith))

-- a clause false throughout violates the list
pub broken_violates : (v : Setting) (cs : List (List ℤ)) (c : ℕ) → c < length cs → state_of v (get_or cs c []) ≡ broken → violated v cs ≡ true
broken_violates v [] c h e = absurd (not-suc-le-zero h)
broken_violates v (d ∷ cs) zero h e = ap (λ s. or_broken s (violated v cs)) e
broken_violates v (d ∷ cs) (suc c) h e = go (state_of v d) (broken_violates v cs c (le_of_suc-le-suc h) e) where
  go : (s : State) → violated v cs ≡ true → or_broken s (violated v cs) ≡ true
  go broken p = refl
  go (unit l) p = p
  go other p = p

-- with nothing to follow up all is at rest
pub pending_end : (cs : List (List ℤ)) (v : Setting) (front : List ℤ) → Pending cs v front → length front ≡ 0 → (c : ℕ) → c < length cs → AtRest v (get_or cs c [])
pending_end cs v front p e c h = go (p.met c h) where
  go : AtRest v (get_or cs c []) ⊎ Met (get_or cs c []) front → AtRest v (get_or cs c [])
  go (inl r) = r
  go (inr m) = absurd (omega (arith, e, m.among))

-- at rest, and one literal made true: it alone is to be followed up
pub pending_made : (cs : List (List ℤ)) (v : Setting) (l : ℤ) → violated v cs ≡ false → first_unit v cs ≡ None → at v (place l) ≡ None → Pending cs (made v l) (l ∷ [])
pending_made cs v l e f o = record {
  inside = inside_more v [] l (λ i k. absurd (not-suc-le-zero k)) o;
  met = λ c k. rest_more v [] (get_or cs c []) l (open_inside v (place l) o) (closed_rest v cs c e f k);
}

pub pending_as : (cs : List (List ℤ)) (v w : Setting) (s t : List ℤ) → v ≡ w → s ≡ t → Pending cs v s → Pending cs w t
pending_as cs v w s t e f p = subst (λ (x : Setting). Pending cs x t) e (subst (λ (x : List ℤ). Pending cs v x) f p)

-- the number of a negation is no wider than twice the variables
against_le : (l : ℤ) → against l ≤ place l * 2 + 1
against_le l = go (wants l) where
  go : (b : Bool) → place l * 2 + cond b 0 1 ≤ place l * 2 + 1
  go true = omega arith
  go false = omega arith

pub front_wide : (cs : List (List ℤ)) (v : Setting) (t : List ℤ) (f w : ℕ) → Pending cs v (drop f t) → f < length t → length v + length v ≤ w → against (get_or t f (pos 0)) < w
front_wide cs v t f w p h g =
    let d = drop_more t f (pos 0) h in
    let i : place (get_or t f (pos 0)) < length v = subst (λ (x : List ℤ). place (get_or x 0 (pos 0)) < length v) d (p.inside 0 (simp length-drop (omega arith))).0 in
    omega (arith, i, against_le (get_or t f (pos 0)), g)

-- where a literal is true, the one with its negation's number is false
value_against : (v : Setting) (l x : ℤ) → value v l ≡ Some true → key x ≡ against l → value v x ≡ Some false
value_against v l x e h = go (wants x) (wants l) refl refl where
  turned : (p : place x ≡ place l) (o : Option Bool) (a b : Bool) → at v (place l) ≡ o → wants x ≡ a → wants l ≡ b → a ≡ not b → worth o b ≡ Some true → value v x ≡ Some false
  turned p None a b eo ex el n w = absurd (none_some w)
  turned p (Some true) true true eo ex el n w = absurd (true≢false n)
  turned p (Some true) false true eo ex el n w = rw (p, eo, ex)
  turned p (Some true) a false eo ex el n w = absurd (false≢true (some_inj w))
  turned p (Some false) a true eo ex el n w = absurd (false≢true (some_inj w))
  turned p (Some false) true false eo ex el n w = rw (p, eo, ex)
  turned p (Some false) false false eo ex el n w = absurd (false≢true n)

  go : (a b : Bool) → wants x ≡ a → wants l ≡ b → value v x ≡ Some false
  go true true ex el = let k : place x * 2 + 1 ≡ place l * 2 + 0 = rw (ex, el) at h in absurd (omega (arith, k))
  go false false ex el = let k : place x * 2 + 0 ≡ place l * 2 + 1 = rw (ex, el) at h in absurd (omega (arith, k))
  go true false ex el =
      let k : place x * 2 + 1 ≡ place l * 2 + 1 = rw (ex, el) at h in
      turned (omega (arith, k)) (at v (place l)) true false refl ex el refl (rw el at e)
  go false true ex el =
      let k : place x * 2 + 0 ≡ place l * 2 + 0 = rw (ex, el) at h in
      turned (omega (arith, k)) (at v (place l)) false true refl ex el refl (rw el at e)

-- looking at every clause for the first time
pub look_none : (cs : List (List ℤ)) (v : Setting) (front : List ℤ) → length front ≡ 0 → Looked cs 0 v front
look_none cs v front e = record { inside = λ i h. absurd (omega (arith, h, e)); met = λ c h. absurd (not-suc-le-zero h) }

drop_at_rest : (v : Setting) (cs : List (List ℤ)) (n c i : ℕ) → c ≡ n + i → AtRest v (get_or (drop n cs) i []) → AtRest v (get_or cs c [])
drop_at_rest v cs n c i e r = ap (λ j. state_of v (get_or cs j [])) e ∙ sym (ap (state_of v) (get_or-drop n cs i [])) ∙ r

pub look_end : (cs : List (List ℤ)) (n : ℕ) (v : Setting) (front : List ℤ) → Looked cs n v front → foremost v n (drop n cs) ≡ Ok None → Pending cs v front
look_end cs n v front k e = record { inside = k.inside; met = λ c h. go c h (dec_lt c n) } where
  go : (c : ℕ) → c < length cs → Dec (c < n) → AtRest v (get_or cs c []) ⊎ Met (get_or cs c []) front
  go c h (yes l) = k.met c l h
  go c h (no l) = inl (drop_at_rest v cs n c (c - n) (omega (arith, l)) (scan_nothing v n (drop n cs) e (c - n) (simp length-drop (omega (arith, l, h)))))

pub record Made (cs : List (List ℤ)) (k : ℕ) (v : Setting) (l : ℤ) (front : List ℤ) : Type 0 where
  pub known : k < length cs
  pub unit : state_of v (get_or cs k []) ≡ unit l
  pub looked : Looked cs (k + 1) (made v l) (front ++ (l ∷ []))

pub look_unit : (cs : List (List ℤ)) (n k : ℕ) (v : Setting) (front : List ℤ) (l : ℤ) → Looked cs n v front → foremost v n (drop n cs) ≡ Ok (Some (k, l)) → Made cs k v l front
look_unit cs n k v front l q e = record {
  known = omega (arith, ld, m.inside, m.number);
  unit = u;
  looked = record { inside = inside_more v front l q.inside o; met = λ c h g. outer c g (ℕ_discrete c k) (dec_lt c n) (omega (arith, h)) };
}
  where
    m : Named v n k (drop n cs) l
    m = scan_lone v n k (drop n cs) l e

    ld : length (drop n cs) ≡ length cs - n
    ld = length-drop n cs

    u : state_of v (get_or cs k []) ≡ unit l
    u = ap (λ j. state_of v (get_or cs j [])) m.number ∙ sym (ap (state_of v) (get_or-drop n cs m.past [])) ∙ m.lone

    o : at v (place l) ≡ None
    o = unit_place v l (get_or cs k []) u

    i : place l < length v
    i = open_inside v (place l) o

    outer : (c : ℕ) → c < length cs → Dec (c ≡ k) → Dec (c < n) → c ≤ k → AtRest (made v l) (get_or cs c []) ⊎ Met (get_or cs c []) (front ++ (l ∷ []))
    outer c g (yes f) _ h = inl (ap (λ j. state_of (made v l) (get_or cs j [])) f ∙ unit_rest v l (get_or cs k []) u)
    outer c g (no f) (yes b) h = either_more v front (get_or cs c []) l i (q.met c b g)
    outer c g (no f) (no b) h = rest_more v front (get_or cs c []) l i (drop_at_rest v cs n c (c - n) (omega (arith, b)) (m.rests (c - n) (omega (arith, b, f, h, m.number))))

pub violated_drop : (v : Setting) (cs : List (List ℤ)) (n : ℕ) → violated v (drop n cs) ≡ true → violated v cs ≡ true
violated_drop v cs zero e = e
violated_drop v [] (suc n) e = e
violated_drop v (c ∷ cs) (suc n) e = go (state_of v c) (violated_drop v cs n e) where
  go : (s : State) → violated v cs ≡ true → or_broken s (violated v cs) ≡ true
  go broken p = refl
  go (unit l) p = p
  go other p = p

pub look_broken : (cs : List (List ℤ)) (n k : ℕ) (v : Setting) → foremost v n (drop n cs) ≡ Err (record { clause = k }) → violated v cs ≡ true
look_broken cs n k v e = violated_drop v cs n (broken_of v n k (drop n cs) e)

module _ (row : List ℤ) (ends lasts : List ℕ) (places : List Occurrence) (ls : Listed row ends lasts places) where
  -- a literal is taken from the front
  pub visit_start : (v : Setting) (t : List ℤ) (f k below : ℕ) → f < length t → k ≡ against (get_or t f (pos 0)) → k < length lasts → below ≡ get_or lasts k 0 → Pending (clauses_from row 0 ends) v (drop f t) → Visiting (clauses_from row 0 ends) row ends k below v (drop (f + 1) t)
  visit_start v t f k below h ek hk eb p = record {
    inside = λ i g. inner i g;
    fails = λ x e. value_against v (get_or t f (pos 0)) x top (e ∙ ek);
    stands = λ g. (omega (arith, b, last_le row k (length row)), ap (λ n. key (get_or row (n - 1) (pos 0))) b ∙ last_stands row k (length row) (omega (arith, b, g)));
    met = λ c g. go c g (p.met c g);
  }
    where
      cs : List (List ℤ)
      cs = clauses_from row 0 ends

      b : below ≡ last_before row k (length row)
      b = eb ∙ ls.headed k hk

      d : drop f t ≡ get_or t f (pos 0) ∷ drop (f + 1) t
      d = drop_more t f (pos 0) h

      top : value v (get_or t f (pos 0)) ≡ Some true
      top = subst (λ (x : List ℤ). value v (get_or x 0 (pos 0)) ≡ Some true) d (p.inside 0 (subst (λ (x : List ℤ). 0 < length x) (sym d) (omega arith))).1

      inner : (i : ℕ) → i < length (drop (f + 1) t) → (place (get_or (drop (f + 1) t) i (pos 0)) < length v) × (value v (get_or (drop (f + 1) t) i (pos 0)) ≡ Some true)
      inner i g = subst (λ (x : List ℤ). (place (get_or x (suc i) (pos 0)) < length v) × (value v (get_or x (suc i) (pos 0)) ≡ Some true)) d (p.inside (suc i) (subst (λ (x : List ℤ). suc i < length x) (sym d) (omega arith)))

      left : (c : ℕ) → c < length cs → (i : ℕ) → i < length (get_or cs c []) → key (get_or (get_or cs c []) i (pos 0)) ≡ k → Left cs ends c k below
      left c g i j e =
          let q = place_inside row ends ls.ended c i g j in
          let o = last_over row k (length row) (start_of ends c + i) q.1 (ap key (place_literal row ends ls.ended c i g j) ∙ e) in
          record { at = i; inside = j; same = e; under = omega (arith, b, o) }

      taken : (c : ℕ) → c < length cs → (m : Met (get_or cs c []) (get_or t f (pos 0) ∷ drop (f + 1) t)) → (n : ℕ) → m.by ≡ n → Met (get_or cs c []) (drop (f + 1) t) ⊎ Left cs ends c k below
      taken c g m zero e = inr (left c g m.at m.inside (m.negated ∙ ap (λ n. against (get_or (get_or t f (pos 0) ∷ drop (f + 1) t) n (pos 0))) e ∙ sym ek))
      taken c g m (suc n) e = inl (record { at = m.at; inside = m.inside; by = n; among = omega (arith, m.among, e); negated = m.negated ∙ ap (λ n. against (get_or (get_or t f (pos 0) ∷ drop (f + 1) t) n (pos 0))) e })

      go : (c : ℕ) → c < length cs → AtRest v (get_or cs c []) ⊎ Met (get_or cs c []) (drop f t) → AtRest v (get_or cs c []) ⊎ (Met (get_or cs c []) (drop (f + 1) t) ⊎ Left cs ends c k below)
      go c g (inl r) = inl r
      go c g (inr m) = let n = subst (λ (x : List ℤ). Met (get_or cs c []) x) d m in inr (taken c g n n.by refl)

  -- the clause that a place of the row lies in
  pub visited : (p : ℕ) → p < length row → (c : ℕ) × (c < length (clauses_from row 0 ends)) × (get_or (clauses_from row 0 ends) c [] ≡ take ((get_or places p nowhere).to - (get_or places p nowhere).from) (drop (get_or places p nowhere).from row)) × ((get_or places p nowhere).to ≤ length row)
  visited p h =
      let o = owner row 0 ends p ls.ended (omega arith) h in
      let s = ls.spanned o.clause p o.known o.starts o.stops in
      let g : o.clause < length (clauses_from row 0 ends) = omega (arith, clauses_length row 0 ends, o.known) in
      let e = clause_ends row 0 ends o.clause ls.ended o.known in
      (o.clause, g, clause_at row ends ls.ended o.clause g ∙ sym (rw (s.0, s.1)), omega (arith, s.1, e.1))

  module _ (k below p : ℕ) (v : Setting) (front : List ℤ) (eb : below ≡ p + 1) (w : Visiting (clauses_from row 0 ends) row ends k below v front) where
    pub here : (p < length row) × (key (get_or row p (pos 0)) ≡ k)
    here =
        let s = w.stands (omega (arith, eb)) in
        let e : below - 1 ≡ p = omega (arith, eb) in
        (omega (arith, s.0, eb), ap (λ n. key (get_or row n (pos 0))) (sym e) ∙ s.1)

    -- what is left at another place lies before this one
    passed : (wide : k < length lasts) (c : ℕ) → c < length (clauses_from row 0 ends) → (l : Left (clauses_from row 0 ends) ends c k below) → start_of ends c + l.at ≢ p → Left (clauses_from row 0 ends) ends c k (get_or places p nowhere).before
    passed wide c g l e =
        let j = ls.linked p here.0 (omega (arith, here.1, wide)) in
        let o = last_over row (key (get_or row p (pos 0))) p (start_of ends c + l.at) (omega (arith, e, l.under, eb)) (ap key (place_literal row ends ls.ended c l.at g l.inside) ∙ l.same ∙ sym here.1) in
        record { at = l.at; inside = l.inside; same = l.same; under = omega (arith, j, o) }

    -- a place of a clause names it
    spans : (c : ℕ) → c < length (clauses_from row 0 ends) → (l : Left (clauses_from row 0 ends) ends c k below) → start_of ends c + l.at ≡ p → ((get_or places p nowhere).from ≡ start_of ends c) × ((get_or places p nowhere).to ≡ get_or ends c 0)
    spans c g l e =
        let q = place_inside row ends ls.ended c l.at g l.inside in
        ls.spanned c p (omega (arith, clauses_length row 0 ends, g)) (omega (arith, e)) (omega (arith, e, q.0))

    -- the place is visited: what is left lies before it, or is its own clause
    shrunk : (wide : k < length lasts) (c : ℕ) → c < length (clauses_from row 0 ends) → Left (clauses_from row 0 ends) ends c k below → (get_or (clauses_from row 0 ends) c [] ≡ take ((get_or places p nowhere).to - (get_or places p nowhere).from) (drop (get_or places p nowhere).from row)) ⊎ Left (clauses_from row 0 ends) ends c k (get_or places p nowhere).before
    shrunk wide c g l = go (ℕ_discrete (start_of ends c + l.at) p) where
      go : Dec (start_of ends c + l.at ≡ p) → (get_or (clauses_from row 0 ends) c [] ≡ take ((get_or places p nowhere).to - (get_or places p nowhere).from) (drop (get_or places p nowhere).from row)) ⊎ Left (clauses_from row 0 ends) ends c k (get_or places p nowhere).before
      go (yes e) = let s = spans c g l e in inl (clause_at row ends ls.ended c g ∙ sym (rw (s.0, s.1)))
      go (no e) = inr (passed wide c g l e)

    stood : (wide : k < length lasts) → 0 < (get_or places p nowhere).before → ((get_or places p nowhere).before ≤ length row) × (key (get_or row ((get_or places p nowhere).before - 1) (pos 0)) ≡ k)
    stood wide g =
        let j = ls.linked p here.0 (omega (arith, here.1, wide)) in
        (omega (arith, j, last_le row (key (get_or row p (pos 0))) p, here.0), ap (λ n. key (get_or row (n - 1) (pos 0))) j ∙ last_stands row (key (get_or row p (pos 0))) p (omega (arith, j, g)) ∙ here.1)

    -- the literals beside the place say what its clause comes to
    pub visit_pair : length v ≤ 560 → (get_or places p nowhere).to ≤ (get_or places p nowhere).from + 3 → state_of v ((get_or places p nowhere).first ∷ (get_or places p nowhere).second ∷ []) ≡ state_of v (take ((get_or places p nowhere).to - (get_or places p nowhere).from) (drop (get_or places p nowhere).from row))
    visit_pair few short =
        let o = owner row 0 ends p ls.ended (omega arith) here.0 in
        let s = ls.spanned o.clause p o.known o.starts o.stops in
        let e = clause_ends row 0 ends o.clause ls.ended o.known in
        let q = ls.paired p here.0 in
        ap₂ (λ (x y : ℤ). state_of v (x ∷ y ∷ [])) q.0 q.1
        ∙ beside v row (get_or places p nowhere).from (get_or places p nowhere).to p (omega (arith, s.0, o.starts)) (omega (arith, s.1, o.stops)) (omega (arith, s.1, e.1)) short few (w.fails (get_or row p (pos 0)) here.1)

    pub visit_before : (wide : k < length lasts) → (get_or places p nowhere).before ≤ p
    visit_before wide =
        let j = ls.linked p here.0 (omega (arith, here.1, wide)) in
        omega (arith, j, last_le row (key (get_or row p (pos 0))) p)

    -- where the literal stands before it in the same clause, the place is passed over: the clause is left there
    pub visit_past : (wide : k < length lasts) → (get_or places p nowhere).from < (get_or places p nowhere).before → Visiting (clauses_from row 0 ends) row ends k (get_or places p nowhere).before v front
    visit_past wide h = record { inside = w.inside; fails = w.fails; stands = stood wide; met = λ c g. outer c g (w.met c g) } where
      moved : (c : ℕ) → c < length (clauses_from row 0 ends) → (l : Left (clauses_from row 0 ends) ends c k below) → start_of ends c + l.at ≡ p → Left (clauses_from row 0 ends) ends c k (get_or places p nowhere).before
      moved c g l e =
          let s = spans c g l e in
          let n : start_of ends c + ((get_or places p nowhere).before - 1 - start_of ends c) ≡ (get_or places p nowhere).before - 1 = omega (arith, s.0, h) in
          let i : (get_or places p nowhere).before - 1 - start_of ends c < length (get_or (clauses_from row 0 ends) c []) = omega (arith, l.inside, e, visit_before wide, s.0, h) in
          record {
            at = (get_or places p nowhere).before - 1 - start_of ends c;
            inside = i;
            same = ap key (sym (place_literal row ends ls.ended c _ g i) ∙ ap (λ m. get_or row m (pos 0)) n) ∙ (stood wide (omega (arith, h))).1;
            under = omega (arith, n, h);
          }

      inner : (c : ℕ) → c < length (clauses_from row 0 ends) → (l : Left (clauses_from row 0 ends) ends c k below) → Dec (start_of ends c + l.at ≡ p) → Left (clauses_from row 0 ends) ends c k (get_or places p nowhere).before
      inner c g l (yes e) = moved c g l e
      inner c g l (no e) = passed wide c g l e

      outer : (c : ℕ) → c < length (clauses_from row 0 ends) → AtRest v (get_or (clauses_from row 0 ends) c []) ⊎ (Met (get_or (clauses_from row 0 ends) c []) front ⊎ Left (clauses_from row 0 ends) ends c k below) → AtRest v (get_or (clauses_from row 0 ends) c []) ⊎ (Met (get_or (clauses_from row 0 ends) c []) front ⊎ Left (clauses_from row 0 ends) ends c k (get_or places p nowhere).before)
      outer c g (inl s) = inl s
      outer c g (inr (inl m)) = inr (inl m)
      outer c g (inr (inr l)) = inr (inr (inner c g l (ℕ_discrete (start_of ends c + l.at) p)))

    pub visit_rest : (wide : k < length lasts) → AtRest v (take ((get_or places p nowhere).to - (get_or places p nowhere).from) (drop (get_or places p nowhere).from row)) → Visiting (clauses_from row 0 ends) row ends k (get_or places p nowhere).before v front
    visit_rest wide r = record { inside = w.inside; fails = w.fails; stands = stood wide; met = λ c g. outer c g (w.met c g) } where
      inner : (c : ℕ) → (get_or (clauses_from row 0 ends) c [] ≡ take ((get_or places p nowhere).to - (get_or places p nowhere).from) (drop (get_or places p nowhere).from row)) ⊎ Left (clauses_from row 0 ends) ends c k (get_or places p nowhere).before → AtRest v (get_or (clauses_from row 0 ends) c []) ⊎ (Met (get_or (clauses_from row 0 ends) c []) front ⊎ Left (clauses_from row 0 ends) ends c k (get_or places p nowhere).before)
      inner c (inl e) = inl (ap (state_of v) e ∙ r)
      inner c (inr l) = inr (inr l)

      outer : (c : ℕ) → c < length (clauses_from row 0 ends) → AtRest v (get_or (clauses_from row 0 ends) c []) ⊎ (Met (get_or (clauses_from row 0 ends) c []) front ⊎ Left (clauses_from row 0 ends) ends c k below) → AtRest v (get_or (clauses_from row 0 ends) c []) ⊎ (Met (get_or (clauses_from row 0 ends) c []) front ⊎ Left (clauses_from row 0 ends) ends c k (get_or places p nowhere).before)
      outer c g (inl s) = inl s
      outer c g (inr (inl m)) = inr (inl m)
      outer c g (inr (inr l)) = inner c (shrunk wide c g l)

    pub visit_unit : (wide : k < length lasts) (m : ℤ) → state_of v (take ((get_or places p nowhere).to - (get_or places p nowhere).from) (drop (get_or places p nowhere).from row)) ≡ unit m → Visiting (clauses_from row 0 ends) row ends k (get_or places p nowhere).before (made v m) (front ++ (m ∷ []))
    visit_unit wide m u = record { inside = inside_more v front m w.inside o; fails = λ x e. value_kept v (made v m) x false (set_grows v (place m) (wants m) o) (w.fails x e); stands = stood wide; met = λ c g. outer c g (w.met c g) } where
      o : at v (place m) ≡ None
      o = unit_place v m _ u

      i : place m < length v
      i = open_inside v (place m) o

      lift : (c : ℕ) → AtRest (made v m) (get_or (clauses_from row 0 ends) c []) ⊎ Met (get_or (clauses_from row 0 ends) c []) (front ++ (m ∷ [])) → AtRest (made v m) (get_or (clauses_from row 0 ends) c []) ⊎ (Met (get_or (clauses_from row 0 ends) c []) (front ++ (m ∷ [])) ⊎ Left (clauses_from row 0 ends) ends c k (get_or places p nowhere).before)
      lift c (inl s) = inl s
      lift c (inr n) = inr (inl n)

      inner : (c : ℕ) → (get_or (clauses_from row 0 ends) c [] ≡ take ((get_or places p nowhere).to - (get_or places p nowhere).from) (drop (get_or places p nowhere).from row)) ⊎ Left (clauses_from row 0 ends) ends c k (get_or places p nowhere).before → AtRest (made v m) (get_or (clauses_from row 0 ends) c []) ⊎ (Met (get_or (clauses_from row 0 ends) c []) (front ++ (m ∷ [])) ⊎ Left (clauses_from row 0 ends) ends c k (get_or places p nowhere).before)
      inner c (inl e) = inl (ap (state_of (made v m)) e ∙ unit_rest v m _ u)
      inner c (inr l) = inr (inr l)

      outer : (c : ℕ) → c < length (clauses_from row 0 ends) → AtRest v (get_or (clauses_from row 0 ends) c []) ⊎ (Met (get_or (clauses_from row 0 ends) c []) front ⊎ Left (clauses_from row 0 ends) ends c k below) → AtRest (made v m) (get_or (clauses_from row 0 ends) c []) ⊎ (Met (get_or (clauses_from row 0 ends) c []) (front ++ (m ∷ [])) ⊎ Left (clauses_from row 0 ends) ends c k (get_or places p nowhere).before)
      outer c g (inl s) = lift c (rest_more v front (get_or (clauses_from row 0 ends) c []) m i s)
      outer c g (inr (inl n)) = inr (inl (met_more (get_or (clauses_from row 0 ends) c []) front (m ∷ []) n))
      outer c g (inr (inr l)) = inner c (shrunk wide c g l)

  -- all places of the literal are visited
  pub visit_end : (k below : ℕ) (v : Setting) (front : List ℤ) → below ≡ 0 → Visiting (clauses_from row 0 ends) row ends k below v front → Pending (clauses_from row 0 ends) v front
  visit_end k below v front e w = record { inside = w.inside; met = λ c g. go c (w.met c g) } where
    go : (c : ℕ) → AtRest v (get_or (clauses_from row 0 ends) c []) ⊎ (Met (get_or (clauses_from row 0 ends) c []) front ⊎ Left (clauses_from row 0 ends) ends c k below) → AtRest v (get_or (clauses_from row 0 ends) c []) ⊎ Met (get_or (clauses_from row 0 ends) c []) front
    go c (inl s) = inl s
    go c (inr (inl m)) = inr m
    go c (inr (inr l)) = absurd (omega (arith, e, l.under))

  -- one clause looked at, with what it did to the setting and the trail
  module _ (k below p f : ℕ) (a v w : Setting) (s t u : List ℤ) (r : Bool) (eb : below ≡ p + 1) (wide : k < length lasts)
      (vis : Visiting (clauses_from row 0 ends) row ends k below v (drop (f + 1) t)) (reach : Reaches (clauses_from row 0 ends) a v) (grown : Grown a v s t) (inside : f < length s)
      (pr : Pressed (take ((get_or places p nowhere).to - (get_or places p nowhere).from) (drop (get_or places p nowhere).from row)) v t r w u ⊎ PassedOver (get_or places p nowhere) v t r w u) where
    stands_here : (c : ℕ) × (c < length (clauses_from row 0 ends)) × (get_or (clauses_from row 0 ends) c [] ≡ take ((get_or places p nowhere).to - (get_or places p nowhere).from) (drop (get_or places p nowhere).from row)) × ((get_or places p nowhere).to ≤ length row)
    stands_here = visited p (here k below p v (drop (f + 1) t) eb vis).0

    pub visit_broken : r ≡ false → Reaches (clauses_from row 0 ends) a w × (violated w (clauses_from row 0 ends) ≡ true) × Grown a w s u
    visit_broken e = go pr where
      go : Pressed (take ((get_or places p nowhere).to - (get_or places p nowhere).from) (drop (get_or places p nowhere).from row)) v t r w u ⊎ PassedOver (get_or places p nowhere) v t r w u → Reaches (clauses_from row 0 ends) a w × (violated w (clauses_from row 0 ends) ≡ true) × Grown a w s u
      go (inr o) = absurd (true≢false (sym o.whole ∙ e))
      go (inl (rests x y z q)) = absurd (true≢false (sym x ∙ e))
      go (inl (forces l x y z q)) = absurd (true≢false (sym x ∙ e))
      go (inl (breaks x y z q)) =
          let b = broken_violates v (clauses_from row 0 ends) stands_here.0 stands_here.1 (ap (state_of v) stands_here.2 ∙ y) in (
            subst (λ (m : Setting). Reaches (clauses_from row 0 ends) a m) (sym z) reach,
            ap (λ (m : Setting). violated m (clauses_from row 0 ends)) z ∙ b,
            subst (λ (m : Setting). Grown a m s u) (sym z) (subst (λ (n : List ℤ). Grown a v s n) (sym q) grown),
          )

    pub visit_goes : r ≡ true → Visiting (clauses_from row 0 ends) row ends k (get_or places p nowhere).before w (drop (f + 1) u) × Reaches (clauses_from row 0 ends) a w × Grown a w s u
    visit_goes e = go pr where
      go : Pressed (take ((get_or places p nowhere).to - (get_or places p nowhere).from) (drop (get_or places p nowhere).from row)) v t r w u ⊎ PassedOver (get_or places p nowhere) v t r w u → Visiting (clauses_from row 0 ends) row ends k (get_or places p nowhere).before w (drop (f + 1) u) × Reaches (clauses_from row 0 ends) a w × Grown a w s u
      go (inr o) = rw (o.setting, o.trail) (visit_past k below p v (drop (f + 1) t) eb vis wide o.again, reach, grown)
      go (inl (breaks x y z q)) = absurd (false≢true (sym x ∙ e))
      go (inl (rests x y z q)) = rw (z, q) (visit_rest k below p v (drop (f + 1) t) eb vis wide y, reach, grown)
      go (inl (forces l x y z q)) =
          let o = unit_place v l _ y in
          let d : drop (f + 1) (t ++ (l ∷ [])) ≡ drop (f + 1) t ++ (l ∷ []) = drop-append-le (f + 1) t (l ∷ []) (omega (arith, inside, grown_longer a v s t grown)) in
          let h = visit_unit k below p v (drop (f + 1) t) eb vis wide l y in
          rw (z, q) (
            rw d h,
            reach_more (clauses_from row 0 ends) a v (get_or (clauses_from row 0 ends) stands_here.0 []) l reach (stands_at (clauses_from row 0 ends) stands_here.0 stands_here.1) (ap (state_of v) stands_here.2 ∙ y),
            grown_more a v s t l grown o,
          )

-- One lemma behind closure: where T has no clause false throughout and no unit clause, a setting within T stays within T.
use Rattle.std.proofs.Common.{◌≡◌, ℕ, zero, suc, ◌≤◌, Bool, true, false, cond, ◌&&◌, ◌||◌, List, [], ◌∷◌, length, get_or, ℤ, Some, None, Option, sym, refl, ap, ◌∙◌, true≢false, arith, length-set}
use mathlib.Core.Bool.{beq, false≢true}
use Rattle.solving.specs.Settings.{Setting, at, worth, value, made, open_in, Within, full}
use Rattle.solving.specs.Literals.{place, wants}
use Rattle.solving.specs.States.{State, broken, unit, other, joined, state_of}
use Rattle.solving.specs.Readings.{holds, satisfies}
use Rattle.solving.specs.Closing.{or_unit, first_unit, or_broken, violated, onward, units}
use Rattle.solving.proofs.Places.{none_some, some_inj, beq_true, value_kept, set_within, set_grows, open_inside, open_falls, full_at, within_refl, within_trans}

-- a clause that is false throughout stays so
broken_step : (a t : Setting) (l : ℤ) (c : List ℤ) → Within a t → (state_of a c ≡ broken → state_of t c ≡ broken) → (o : Option Bool) → value a l ≡ o → (s : State) → state_of a c ≡ s → joined o l s ≡ broken → joined (value t l) l (state_of t c) ≡ broken
broken_step a t l c w rest (Some true) eo s es h = absurd (cc)
broken_step a t l c w rest (Some false) eo s es h = rw (value_kept a t l false w eo) (rest (es ∙ h))
broken_step a t l c w rest None eo broken es h = absurd (cc)
broken_step a t l c w rest None eo (unit m) es h = absurd (cc)
broken_step a t l c w rest None eo other es h = absurd (cc)

pub broken_kept : (a t : Setting) (c : List ℤ) → Within a t → state_of a c ≡ broken → state_of t c ≡ broken
broken_kept a t [] w e = refl
broken_kept a t (l ∷ c) w e = broken_step a t l c w (broken_kept a t c w) (value a l) refl (state_of a c) refl e

-- the literal of a unit clause is open
open_step : (a : Setting) (l m : ℤ) (c : List ℤ) → (state_of a c ≡ unit l → value a l ≡ None) → (o : Option Bool) → value a m ≡ o → (s : State) → state_of a c ≡ s → joined o m s ≡ unit l → value a l ≡ None
open_step a l m c rest (Some true) eo s es h = absurd (cc)
open_step a l m c rest (Some false) eo s es h = rest (es ∙ h)
open_step a l m c rest None eo broken es h = let e : m ≡ l = cc in rw e at eo
open_step a l m c rest None eo (unit n) es h = absurd (cc)
open_step a l m c rest None eo other es h = absurd (cc)

pub unit_open : (a : Setting) (l : ℤ) (c : List ℤ) → state_of a c ≡ unit l → value a l ≡ None
unit_open a l [] e = absurd (cc)
unit_open a l (m ∷ c) e = open_step a l m c (unit_open a l c) (value a m) refl (state_of a c) refl e

-- in a larger setting a unit clause is what its literal is
unit_step : (a t : Setting) (l m : ℤ) (c : List ℤ) → Within a t → (state_of a c ≡ unit l → state_of t c ≡ joined (value t l) l broken) → (o : Option Bool) → value a m ≡ o → (s : State) → state_of a c ≡ s → joined o m s ≡ unit l → joined (value t m) m (state_of t c) ≡ joined (value t l) l broken
unit_step a t l m c w rest (Some true) eo s es h = absurd (cc)
unit_step a t l m c w rest (Some false) eo s es h = rw (value_kept a t m false w eo) (rest (es ∙ h))
unit_step a t l m c w rest None eo broken es h = let e : m ≡ l = cc in let f = broken_kept a t c w es in rw (e, f)
unit_step a t l m c w rest None eo (unit n) es h = absurd (cc)
unit_step a t l m c w rest None eo other es h = absurd (cc)

pub unit_kept : (a t : Setting) (l : ℤ) (c : List ℤ) → Within a t → state_of a c ≡ unit l → state_of t c ≡ joined (value t l) l broken
unit_kept a t l [] w e = absurd (cc)
unit_kept a t l (m ∷ c) w e = unit_step a t l m c w (unit_kept a t l c w) (value a m) refl (state_of a c) refl e

-- no clause false throughout and none unit
pub record Closed (cs : List (List ℤ)) (t : Setting) : Type 0 where
  pub whole : violated t cs ≡ false
  pub still : first_unit t cs ≡ None

pub whole_head : (s : State) (b : Bool) → or_broken s b ≡ false → (s ≡ broken → ⊥) × (b ≡ false)
whole_head broken b e = absurd (true≢false e)
whole_head (unit l) b e = (λ h. (cc), e)
whole_head other b e = (λ h. (cc), e)

pub still_head : (s : State) (o : Option ℤ) → or_unit s o ≡ None → ((l : ℤ) → s ≡ unit l → ⊥) × (o ≡ None)
still_head broken o e = (λ l h. (cc), e)
still_head (unit l) o e = absurd (cc)
still_head other o e = (λ l h. (cc), e)

pub true_left : (o : Option Bool) (l : ℤ) → (joined o l broken ≡ broken → ⊥) → ((m : ℤ) → joined o l broken ≡ unit m → ⊥) → o ≡ Some true
true_left None l p q = absurd (q l refl)
true_left (Some true) l p q = refl
true_left (Some false) l p q = absurd (p refl)

forced_step : (a t : Setting) (l : ℤ) (c : List ℤ) (cs : List (List ℤ)) → Within a t → Closed (c ∷ cs) t → (first_unit a cs ≡ Some l → value t l ≡ Some true) → (s : State) → state_of a c ≡ s → or_unit s (first_unit a cs) ≡ Some l → value t l ≡ Some true
forced_step a t l c cs w k rest broken es h = rest h
forced_step a t l c cs w k rest other es h = rest h
forced_step a t l c cs w k rest (unit m) es h =
    let e : m ≡ l = some_inj h in
    let u = unit_kept a t l c w (es ∙ ap unit e) in
    let p = whole_head (state_of t c) (violated t cs) k.whole in
    let q = still_head (state_of t c) (first_unit t cs) k.still in
    true_left (value t l) l (λ z. p.0 (u ∙ z)) (λ n z. q.0 n (u ∙ z))

pub closed_tail : (t : Setting) (c : List ℤ) (cs : List (List ℤ)) → Closed (c ∷ cs) t → Closed cs t
closed_tail t c cs k = record { whole = (whole_head (state_of t c) (violated t cs) k.whole).1; still = (still_head (state_of t c) (first_unit t cs) k.still).1 }

pub forced : (a t : Setting) (l : ℤ) (cs : List (List ℤ)) → Within a t → Closed cs t → first_unit a cs ≡ Some l → value t l ≡ Some true
forced a t l [] w k e = absurd (none_some e)
forced a t l (c ∷ cs) w k e = forced_step a t l c cs w k (forced a t l cs w (closed_tail t c cs k)) (state_of a c) refl e

first_step : (a : Setting) (l : ℤ) (c : List ℤ) (cs : List (List ℤ)) → (first_unit a cs ≡ Some l → value a l ≡ None) → (s : State) → state_of a c ≡ s → or_unit s (first_unit a cs) ≡ Some l → value a l ≡ None
first_step a l c cs rest broken es h = rest h
first_step a l c cs rest other es h = rest h
first_step a l c cs rest (unit m) es h = unit_open a l c (es ∙ ap unit (some_inj h))

pub first_open : (a : Setting) (l : ℤ) (cs : List (List ℤ)) → first_unit a cs ≡ Some l → value a l ≡ None
first_open a l [] e = absurd (none_some e)
first_open a l (c ∷ cs) e = first_step a l c cs (first_open a l cs) (state_of a c) refl e

pub value_open : (a : Setting) (l : ℤ) → value a l ≡ None → at a (place l) ≡ None
value_open a l = go (at a (place l)) where
  go : (o : Option Bool) → worth o (wants l) ≡ None → o ≡ None
  go None e = refl
  go (Some b) e = absurd (cc)

pub value_true : (a : Setting) (l : ℤ) → value a l ≡ Some true → at a (place l) ≡ Some (wants l)
value_true a l = go (at a (place l)) where
  go : (o : Option Bool) → worth o (wants l) ≡ Some true → o ≡ Some (wants l)
  go None e = absurd (none_some e)
  go (Some b) e = ap Some (beq_true b (wants l) (some_inj e))

-- a violated setting within t leaves t violated
violated_step : (a t : Setting) (c : List ℤ) (cs : List (List ℤ)) → Within a t → (violated a cs ≡ true → violated t cs ≡ true) → (s : State) → state_of a c ≡ s → or_broken s (violated a cs) ≡ true → (z : State) → state_of t c ≡ z → or_broken z (violated t cs) ≡ true
violated_step a t c cs w rest broken es h z ez = rw (sym ez ∙ broken_kept a t c w es)
violated_step a t c cs w rest (unit l) es h broken ez = refl
violated_step a t c cs w rest (unit l) es h (unit m) ez = rest h
violated_step a t c cs w rest (unit l) es h other ez = rest h
violated_step a t c cs w rest other es h broken ez = refl
violated_step a t c cs w rest other es h (unit m) ez = rest h
violated_step a t c cs w rest other es h other ez = rest h

pub violated_kept : (a t : Setting) (cs : List (List ℤ)) → Within a t → violated a cs ≡ true → violated t cs ≡ true
violated_kept a t [] w e = e
violated_kept a t (c ∷ cs) w e = violated_step a t c cs w (violated_kept a t cs w) (state_of a c) refl e (state_of t c) refl

pub not_violated : (a t : Setting) (cs : List (List ℤ)) → Within a t → violated t cs ≡ false → violated a cs ≡ false
not_violated a t cs w e = go (violated a cs) refl where
  go : (b : Bool) → violated a cs ≡ b → b ≡ false
  go false h = refl
  go true h = absurd (true≢false (sym (violated_kept a t cs w h) ∙ e))

-- closure stays within every closed setting above its start
units_step : (cs : List (List ℤ)) (n : ℕ) (a t : Setting) → Within a t → Closed cs t → ((b : Setting) → Within b t → Within (units cs n b) t) → (o : Option ℤ) → first_unit a cs ≡ o → Within (onward o a (λ l. units cs n (made a l))) t
units_step cs n a t w k rest None e = w
units_step cs n a t w k rest (Some l) e = rest (made a l) (set_within a t (place l) (wants l) w (value_true t l (forced a t l cs w k e)) (value_open a l (first_open a l cs e)))

pub units_within : (cs : List (List ℤ)) (n : ℕ) (a t : Setting) → Within a t → Closed cs t → Within (units cs n a) t
unfolding units
units_within cs zero a t w k = w
units_within cs (suc n) a t w k = units_step cs n a t w k (λ b v. units_within cs n b t v k) (first_unit a cs) refl

grow_step : (cs : List (List ℤ)) (n : ℕ) (a : Setting) → ((b : Setting) → Within b (units cs n b)) → (o : Option ℤ) → first_unit a cs ≡ o → Within a (onward o a (λ l. units cs n (made a l)))
grow_step cs n a rest None e = within_refl a
grow_step cs n a rest (Some l) e = within_trans a (made a l) (units cs n (made a l)) (set_grows a (place l) (wants l) (value_open a l (first_open a l cs e))) (rest (made a l))

pub units_grow : (cs : List (List ℤ)) (n : ℕ) (a : Setting) → Within a (units cs n a)
unfolding units
units_grow cs zero a = within_refl a
units_grow cs (suc n) a = grow_step cs n a (units_grow cs n) (first_unit a cs) refl

length_step : (cs : List (List ℤ)) (n : ℕ) (a : Setting) → ((b : Setting) → length (units cs n b) ≡ length b) → (o : Option ℤ) → length (onward o a (λ l. units cs n (made a l))) ≡ length a
length_step cs n a rest None = refl
length_step cs n a rest (Some l) = rest (made a l) ∙ length-set a (place l) (Some (wants l))

pub units_length : (cs : List (List ℤ)) (n : ℕ) (a : Setting) → length (units cs n a) ≡ length a
unfolding units
units_length cs zero a = refl
units_length cs (suc n) a = length_step cs n a (units_length cs n) (first_unit a cs)

-- with as many turns as there are open variables nothing unit is left
pub made_fewer : (a : Setting) (l : ℤ) (cs : List (List ℤ)) → first_unit a cs ≡ Some l → suc (open_in (length (made a l)) (made a l)) ≡ open_in (length a) a
made_fewer a l cs e =
    let o = value_open a l (first_open a l cs e) in
    rw (length-set a (place l) (Some (wants l))) (open_falls a (length a) (place l) (wants l) o (open_inside a (place l) o))

still_step : (cs : List (List ℤ)) (n : ℕ) (a : Setting) → open_in (length a) a ≤ suc n → ((b : Setting) → open_in (length b) b ≤ n → first_unit (units cs n b) cs ≡ None) → (o : Option ℤ) → first_unit a cs ≡ o → first_unit (onward o a (λ l. units cs n (made a l))) cs ≡ None
still_step cs n a h rest None e = e
still_step cs n a h rest (Some l) e = let f = made_fewer a l cs e in rest (made a l) (omega arith)

still_zero : (cs : List (List ℤ)) (a : Setting) → open_in (length a) a ≤ 0 → (o : Option ℤ) → first_unit a cs ≡ o → o ≡ None
still_zero cs a h None e = refl
still_zero cs a h (Some l) e = let f = made_fewer a l cs e in absurd (omega arith)

pub units_still : (cs : List (List ℤ)) (n : ℕ) (a : Setting) → open_in (length a) a ≤ n → first_unit (units cs n a) cs ≡ None
unfolding units
units_still cs zero a h = still_zero cs a h (first_unit a cs) refl
units_still cs (suc n) a h = still_step cs n a h (units_still cs n) (first_unit a cs) refl

pub open_most : (k : ℕ) (a : Setting) → open_in k a ≤ k
open_most zero a = omega arith
open_most (suc k) [] = omega arith
open_most (suc k) (None ∷ a) = let h = open_most k a in omega arith
open_most (suc k) (Some b ∷ a) = let h = open_most k a in omega arith

-- a satisfying reading is closed
state_full : (r : List Bool) (c : List ℤ) → state_of (full r) c ≡ cond (holds r c) other broken
state_full r [] = refl
state_full r (l ∷ c) = rw full_at (go (beq (get_or r (place l) false) (wants l)) (state_full r c)) where
  go : (b : Bool) → state_of (full r) c ≡ cond (holds r c) other broken → joined (Some b) l (state_of (full r) c) ≡ cond (b || holds r c) other broken
  go true e = refl
  go false e = e

whole_full : (r : List Bool) (cs : List (List ℤ)) → satisfies r cs ≡ true → violated (full r) cs ≡ false
whole_full r [] e = refl
whole_full r (c ∷ cs) e = rw state_full (go (holds r c) (whole_full r cs) e) where
  go : (b : Bool) → (satisfies r cs ≡ true → violated (full r) cs ≡ false) → (b && satisfies r cs) ≡ true → or_broken (cond b other broken) (violated (full r) cs) ≡ false
  go true rest h = rest h
  go false rest h = absurd (false≢true h)

still_full : (r : List Bool) (cs : List (List ℤ)) → first_unit (full r) cs ≡ None
still_full r [] = refl
still_full r (c ∷ cs) = rw state_full (go (holds r c) (still_full r cs)) where
  go : (b : Bool) → first_unit (full r) cs ≡ None → or_unit (cond b other broken) (first_unit (full r) cs) ≡ None
  go true e = e
  go false e = e

pub full_closed : (r : List Bool) (cs : List (List ℤ)) → satisfies r cs ≡ true → Closed cs (full r)
full_closed r cs e = record { whole = whole_full r cs e; still = still_full r cs }

pub whole_satisfies : (r : List Bool) (cs : List (List ℤ)) → violated (full r) cs ≡ false → satisfies r cs ≡ true
whole_satisfies r [] e = refl
whole_satisfies r (c ∷ cs) e = go (holds r c) (whole_satisfies r cs) (rw state_full at e) where
  go : (b : Bool) → (violated (full r) cs ≡ false → satisfies r cs ≡ true) → or_broken (cond b other broken) (violated (full r) cs) ≡ false → (b && satisfies r cs) ≡ true
  go true rest h = rest h
  go false rest h = absurd (true≢false h)

-- Unit steps in any order, one after another, and what their end says of closure.
use Rattle.std.proofs.Common.{◌≡◌, ℕ, zero, suc, Bool, true, false, List, [], ◌∷◌, length, ℤ, Some, None, Ok, Err, OnErr, is_ok, Option, Result, sym, refl, ap, ◌∙◌, true≢false}
use mathlib.Core.Bool.{false≢true}
use Rattle.solving.specs.Settings.{Setting, made}
use Rattle.solving.specs.declared.state.State.{State}
use Rattle.solving.specs.declared.state.State.TheVariants.{Broken as broken, Lone as unit, Other as other}
use Rattle.solving.specs.States.{state_of}
use Rattle.solving.specs.Closing.{or_unit, violated, onward, units, closure, first_unit}
use Rattle.solving.specs.Orders.{Stands, first, next, Reaches, stop, take}
use Rattle.solving.proofs.Places.{none_some, some_inj}
use Rattle.solving.proofs.Closures.{rests}
use Rattle.solving.proofs.Ordering.{any_order}
use Rattle.propagation.specs.Following.{Closes}

-- what holds of an error, where there is one
pub on_err : {T E P : Type 0} (r : Result T E) → OnErr r P → is_ok r ≡ false → P
on_err (Ok x) h e = absurd (true≢false e)
on_err (Err x) h e = h

pub reach_on : (cs : List (List ℤ)) (a b d : Setting) → Reaches cs a b → Reaches cs b d → Reaches cs a d
reach_on cs a b d stop s = s
reach_on cs a b d (take c l h e r) s = take c l h e (reach_on cs (made a l) b d r s)

pub reach_more : (cs : List (List ℤ)) (a b : Setting) (c : List ℤ) (l : ℤ) → Reaches cs a b → Stands c cs → state_of b c ≡ unit l → Reaches cs a (made b l)
reach_more cs a b c l r h e = reach_on cs a b (made b l) r (take c l h e stop)

pub closes_broken : (cs : List (List ℤ)) (a b : Setting) (r : Bool) → r ≡ false → Reaches cs a b → violated b cs ≡ true → Closes cs a b r
closes_broken cs a b false f r e = record { whole = (any_order cs a b r).broken e; closed = λ g. absurd (false≢true g) }
closes_broken cs a b true f r e = absurd (true≢false f)

pub closes_whole : (cs : List (List ℤ)) (a b : Setting) (r : Bool) → r ≡ true → Reaches cs a b → violated b cs ≡ false → first_unit b cs ≡ None → Closes cs a b r
closes_whole cs a b false f r e s = absurd (false≢true f)
closes_whole cs a b true f r e s = let q = (any_order cs a b r).whole s e in record { whole = sym (ap (λ (x : Setting). violated x cs) q) ∙ e; closed = λ g. q }

pub closes_on : (cs : List (List ℤ)) (a b d : Setting) (r : Bool) → Reaches cs a b → Reaches cs b d → (r ≡ false → violated d cs ≡ true) → Closes cs b d r → Closes cs a d r
closes_on cs a b d false p q f k = closes_broken cs a d false refl (reach_on cs a b d p q) (f refl)
closes_on cs a b d true p q f k =
    let e = k.closed refl in
    closes_whole cs a d true refl (reach_on cs a b d p q) (ap (λ (x : Setting). violated x cs) e ∙ k.whole) (ap (λ (x : Setting). first_unit x cs) e ∙ rests cs b)

-- closure itself goes by unit steps
first_stands : (a : Setting) (l : ℤ) (cs : List (List ℤ)) → first_unit a cs ≡ Some l → (c : List ℤ) × Stands c cs × (state_of a c ≡ unit l)
first_stands a l [] e = absurd (none_some e)
first_stands a l (c ∷ cs) e = go (state_of a c) refl e (first_stands a l cs) where
  go : (s : State) → state_of a c ≡ s → or_unit s (first_unit a cs) ≡ Some l → (first_unit a cs ≡ Some l → (d : List ℤ) × Stands d cs × (state_of a d ≡ unit l)) → (d : List ℤ) × Stands d (c ∷ cs) × (state_of a d ≡ unit l)
  go broken es h rest = let q = rest h in (q.0, next q.1, q.2)
  go other es h rest = let q = rest h in (q.0, next q.1, q.2)
  go (unit m) es h rest = (c, first, es ∙ ap unit (some_inj h))

units_reach : (cs : List (List ℤ)) (n : ℕ) (a : Setting) → Reaches cs a (units cs n a)
unfolding units
units_reach cs zero a = stop
units_reach cs (suc n) a = go (first_unit a cs) refl (units_reach cs n) where
  go : (o : Option ℤ) → first_unit a cs ≡ o → ((b : Setting) → Reaches cs b (units cs n b)) → Reaches cs a (onward o a (λ l. units cs n (made a l)))
  go None e rest = stop
  go (Some l) e rest = let q = first_stands a l cs e in take q.0 l q.1 q.2 (rest (made a l))

closure_reach : (cs : List (List ℤ)) (a : Setting) → Reaches cs a (closure cs a)
unfolding closure
closure_reach cs a = units_reach cs (length a) a

-- so closure from a setting that was reached ends as closure from the start
pub reached_violated : (cs : List (List ℤ)) (a b : Setting) → Reaches cs a b → violated (closure cs b) cs ≡ true → violated (closure cs a) cs ≡ true
reached_violated cs a b r e = (any_order cs a (closure cs b) (reach_on cs a b (closure cs b) r (closure_reach cs b))).broken e

pub reached_closure : (cs : List (List ℤ)) (a b : Setting) → Reaches cs a b → violated (closure cs b) cs ≡ false → closure cs b ≡ closure cs a
reached_closure cs a b r e = (any_order cs a (closure cs b) (reach_on cs a b (closure cs b) r (closure_reach cs b))).whole (rests cs b) e

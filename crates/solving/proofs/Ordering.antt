-- Closure ends the same in any order: whatever is reached stays within a closed setting, and two ends that lie within each other are one.
use Rattle.std.proofs.Common.{◌≡◌, Bool, true, false, List, length, ℤ, Some, None, Option, sym, refl, ◌∙◌, true≢false, length-set, ext_get_or}
use Rattle.solving.specs.Settings.{Setting, at, Within, made, value}
use Rattle.solving.specs.States.{state_of, unit}
use Rattle.solving.specs.Literals.{place, wants}
use Rattle.solving.specs.Closing.{violated, closure, first_unit}
use Rattle.solving.specs.Orders.{Stands, first, next, Reaches, stop, take, AnyOrder}
use Rattle.solving.proofs.Places.{set_within, set_grows, within_refl, within_trans}
use Rattle.solving.proofs.Closed.{Closed, closed_tail, whole_head, still_head, true_left, unit_kept, unit_open, value_open, value_true, violated_kept, not_violated}
use Rattle.solving.proofs.Closures.{closure_within, closure_grows, closure_length, closed_closure}

stands_forced : (a t : Setting) (c : List ℤ) (l : ℤ) {cs : List (List ℤ)} → Stands c cs → Within a t → Closed cs t → state_of a c ≡ unit l → value t l ≡ Some true
stands_forced a t c l (first {cs = cs}) w k e =
    let u = unit_kept a t l c w e in
    let p = whole_head (state_of t c) (violated t cs) k.whole in
    let q = still_head (state_of t c) (first_unit t cs) k.still in
    true_left (value t l) l (λ z. p.0 (u ∙ z)) (λ n z. q.0 n (u ∙ z))
stands_forced a t c l (next {d = d} {cs = cs} h) w k e = stands_forced a t c l h w (closed_tail t d cs k) e

reach_within : (cs : List (List ℤ)) (t : Setting) → Closed cs t → {a b : Setting} → Reaches cs a b → Within a t → Within b t
reach_within cs t k stop w = w
reach_within cs t k (take {a = a} c l h e r) w = reach_within cs t k r (set_within a t (place l) (wants l) w (value_true t l (stands_forced a t c l h w k e)) (value_open a l (unit_open a l c e)))

reach_grows : (cs : List (List ℤ)) {a b : Setting} → Reaches cs a b → Within a b
reach_grows cs (stop {a = a}) = within_refl a
reach_grows cs (take {a = a} {b = b} c l h e r) = within_trans a (made a l) b (set_grows a (place l) (wants l) (value_open a l (unit_open a l c e))) (reach_grows cs r)

reach_length : (cs : List (List ℤ)) {a b : Setting} → Reaches cs a b → length b ≡ length a
reach_length cs stop = refl
reach_length cs (take {a = a} c l h e r) = reach_length cs r ∙ length-set a (place l) (Some (wants l))

-- each within the other: the same
same_place : (x y : Option Bool) → ((b : Bool) → x ≡ Some b → y ≡ Some b) → ((b : Bool) → y ≡ Some b → x ≡ Some b) → x ≡ y
same_place None None p q = refl
same_place None (Some b) p q = q b refl
same_place (Some b) y p q = sym (p b refl)

pub same_setting : (a b : Setting) → length a ≡ length b → Within a b → Within b a → a ≡ b
same_setting a b l p q = ext_get_or (Some false) a b l (λ j h. same_place (at a j) (at b j) (p j) (q j))

pub any_order : AnyOrder
any_order cs a b r = record {
  broken = λ e. go e (violated (closure cs a) cs) refl;
  whole = λ s e.
      let k : Closed cs b = record { whole = e; still = s } in
      let w = closure_within cs a b (reach_grows cs r) k in
      let f = not_violated (closure cs a) b cs w e in
      let v = reach_within cs (closure cs a) (closed_closure cs a f) r (closure_grows cs a) in
      same_setting b (closure cs a) (reach_length cs r ∙ sym (closure_length cs a)) v w;
}
  where
    go : violated b cs ≡ true → (x : Bool) → violated (closure cs a) cs ≡ x → x ≡ true
    go e true f = refl
    go e false f = absurd (true≢false (sym (violated_kept b (closure cs a) cs (reach_within cs (closure cs a) (closed_closure cs a f) r (closure_grows cs a)) e) ∙ f))

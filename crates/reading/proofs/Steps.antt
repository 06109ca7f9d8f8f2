-- One step of a reading, from what decoding and judging answered.
use Rattle.std.proofs.Common.{◌≡◌, ℕ, zero, suc, ◌+◌, ◌-◌, ◌<◌, ◌≤◌, Bool, true, false, cond, ltb, ◌⊎◌, List, length, drop, Some, None, Ok, Err, Option, Result, sym, refl, ap, ◌∙◌, inl, inr, arith, length-drop}
use Rattle.std.proofs.lemmas.List.{drop-drop}
use Rattle.std.proofs.lemmas.Bool.{cond-true, cond-false, lt-ltb, le-ltb}
use Rattle.reading.specs.declared.command.Command.{Command}
use Rattle.reading.specs.declared.command.Command.TheVariants.{AddInput, AddGate, AddOutput, End}
use Rattle.reading.specs.declared.fault.CardFault.{CardFault}
use Rattle.reading.specs.declared.fault.CardFault.TheVariants.{Trailing}
use Rattle.reading.specs.Commands.{adds, size_of, late, overfull, undeclared, repeated, incomplete}
use Rattle.card.specs.Netlists.{Netlist}
use Rattle.reading.specs.Reading.{Next, more, done, bad, Stepped, accepted, command_at, decoded, fault_of, judged, onward, read_from, step_of}

-- a chain of tests that ends in None passed each of them
pub passed : {X : Type 0} (b : Bool) (x : X) (r : Option X) → cond b (Some x) r ≡ None → (b ≡ false) × (r ≡ None)
passed true x r e = absurd (cc)
passed false x r e = (refl, e)

-- a chain of tests that ends in a fault stopped at one of them
pub stopped : {X : Type 0} (b : Bool) (x y : X) (r : Option X) → cond b (Some x) r ≡ Some y → ((b ≡ true) × (x ≡ y)) ⊎ ((b ≡ false) × (r ≡ Some y))
stopped true x y r e = inl (refl, cc)
stopped false x y r e = inr (refl, e)

-- the rules that a command keeps
pub record Kept (d : Netlist) (c : Command) : Type 0 where
  pub not_late : late d c ≡ false
  pub not_overfull : overfull d c ≡ false
  pub all_declared : undeclared d c ≡ false
  pub not_repeated : repeated d c ≡ false
  pub not_incomplete : incomplete d c ≡ false

pub kept : (d : Netlist) (c : Command) (at : ℕ) → fault_of d c at ≡ None → Kept d c
kept d c at e =
    let p = passed (late d c) _ _ e in
    let q = passed (overfull d c) _ _ p.1 in
    let r = passed (undeclared d c) _ _ q.1 in
    let s = passed (repeated d c) _ _ r.1 in
    let t = passed (incomplete d c) _ _ s.1 in
    record { not_late = p.0; not_overfull = q.0; all_declared = r.0; not_repeated = s.0; not_incomplete = t.0 }

module _ (d : Netlist) (rest : List ℕ) (at : ℕ) where
  pub step_undecoded : (e : CardFault) → Err e ≡ command_at rest at → step_of d rest at ≡ bad e
  step_undecoded e p = sym (ap (decoded d rest at) p)

  pub step_broken : (c : Command) (e : CardFault) → Ok c ≡ command_at rest at → fault_of d c at ≡ Some e → step_of d rest at ≡ bad e
  step_broken c e p q = sym (ap (decoded d rest at) p) ∙ ap (judged d c rest at) q

  pub step_accepted : (c : Command) → Ok c ≡ command_at rest at → fault_of d c at ≡ None → step_of d rest at ≡ accepted d c rest at
  step_accepted c p q = sym (ap (decoded d rest at) p) ∙ ap (judged d c rest at) q

module _ (d : Netlist) (c : Command) (rest : List ℕ) (at : ℕ) where
  pub accepted_trailing : c ≡ End → 1 < length rest → accepted d c rest at ≡ bad (Trailing (at + 1))
  accepted_trailing e h = ap (λ x. accepted d x rest at) e ∙ cond-true (ltb 1 (length rest)) _ _ (lt-ltb 1 (length rest) h)

  pub accepted_end : c ≡ End → length rest ≤ 1 → accepted d c rest at ≡ done
  accepted_end e h = ap (λ x. accepted d x rest at) e ∙ cond-false (ltb 1 (length rest)) _ _ (le-ltb 1 (length rest) h)

pub accepted_more : (d : Netlist) (c : Command) (rest : List ℕ) (at : ℕ) (e : Netlist) (size : ℕ) → (c ≡ End → ⊥) → e ≡ adds d c → size ≡ size_of c → accepted d c rest at ≡ more e size
accepted_more d AddInput rest at e size n p q = cc
accepted_more d (AddGate g) rest at e size n p q = cc
accepted_more d (AddOutput o) rest at e size n p q = cc
accepted_more d End rest at e size n p q = absurd (n refl)

-- a reading of the rest, one step on
module _ (rest : List ℕ) (at : ℕ) (d : Netlist) where
  read_step : (n : ℕ) → length rest < n → (m : ℕ) × (n ≡ suc m) × (read_from n rest at d ≡ onward (λ e size. read_from m (drop size rest) (at + size) e) d (step_of d rest at))
  unfolding read_from
  read_step zero l = absurd (omega arith)
  read_step (suc m) l = (m, refl, refl)

  pub read_more : (n size : ℕ) (e : Netlist) → length rest < n → 1 ≤ size → size ≤ length rest → step_of d rest at ≡ more e size
      → (m : ℕ) × (length rest < m + size) × (read_from n rest at d ≡ read_from m (drop size rest) (at + size) e)
  read_more n size e l h k p =
      let r = read_step n l in
      let z = r.1 in
      (r.0, omega (arith, z), r.2 ∙ ap (onward (λ e size. read_from r.0 (drop size rest) (at + size) e) d) p)

  pub read_done : (n : ℕ) → length rest < n → step_of d rest at ≡ done → read_from n rest at d ≡ Ok d
  read_done n l p = let r = read_step n l in r.2 ∙ ap (onward (λ e size. read_from r.0 (drop size rest) (at + size) e) d) p

  pub read_bad : (n : ℕ) (e : CardFault) → length rest < n → step_of d rest at ≡ bad e → read_from n rest at d ≡ Err e
  read_bad n e l p = let r = read_step n l in r.2 ∙ ap (onward (λ e size. read_from r.0 (drop size rest) (at + size) e) d) p

pub stepped_some : (n : Next) (o : Option ℕ) (size : ℕ) (d e : Netlist) → o ≡ Some size → Stepped n (Ok o) d e → n ≡ more e size
stepped_some n (Some x) size d e p h = let f : x ≡ size = cc in h ∙ ap (more e) f
stepped_some n None size d e p h = absurd (cc)

pub stepped_none : (n : Next) (o : Option ℕ) (d e : Netlist) → ((size : ℕ) → o ≡ Some size → ⊥) → Stepped n (Ok o) d e → (n ≡ done) × (e ≡ d)
stepped_none n (Some x) d e p h = absurd (p x refl)
stepped_none n None d e p h = h

-- the reader's loop: `rest` is what is left of the bytes from the offset on
module _ (bs rest : List ℕ) (at : ℕ) (d : Netlist) (left : rest ≡ drop at bs) (whole : Result Netlist CardFault) where
  pub loop_more : (n size : ℕ) (e : Netlist) → at ≤ length bs → length (drop at bs) < n → whole ≡ read_from n (drop at bs) at d → 1 ≤ size → size ≤ length rest → step_of d rest at ≡ more e size
      → (at + size ≤ length bs) × ((m : ℕ) × (length (drop (at + size) bs) < m) × (whole ≡ read_from m (drop (at + size) bs) (at + size) e))
  loop_more n size e a l w h k p =
      let len : length rest ≡ length bs - at = ap length left ∙ length-drop at bs in
      let lft : length (drop at bs) ≡ length bs - at = length-drop at bs in
      let r = read_more (drop at bs) at d n size e l h (omega arith) (ap (λ x. step_of d x at) (sym left) ∙ p) in
      let dd = drop-drop size at bs in
      let end : length (drop (at + size) bs) ≡ length bs - (at + size) = length-drop (at + size) bs in
      let less = r.1 in
      (omega arith, (r.0, omega arith, w ∙ r.2 ∙ ap (λ x. read_from r.0 x (at + size) e) dd))

  pub loop_done : (n : ℕ) → length (drop at bs) < n → whole ≡ read_from n (drop at bs) at d → step_of d rest at ≡ done → whole ≡ Ok d
  loop_done n l w p = w ∙ read_done (drop at bs) at d n l (ap (λ x. step_of d x at) (sym left) ∙ p)

  pub loop_bad : (n : ℕ) (e : CardFault) → length (drop at bs) < n → whole ≡ read_from n (drop at bs) at d → step_of d rest at ≡ bad e → whole ≡ Err e
  loop_bad n e l w p = w ∙ read_bad (drop at bs) at d n e l (ap (λ x. step_of d x at) (sym left) ∙ p)

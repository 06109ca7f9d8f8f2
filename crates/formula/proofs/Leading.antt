-- Every fault formula is led: where closure ends unviolated, every link passes 'has a bit' on from its pins to its variable.
use Rattle.std.proofs.Common.{◌≡◌, ℕ, zero, suc, ◌-◌, ◌<◌, Bool, true, false, ◌⊎◌, List, [], ◌∷◌, ◌++◌, length, get_or, replicate, ℤ, Some, None, sym, refl, ap, ◌∙◌, inl, inr, arith}
use lib.ListN.{length-map}
use Rattle.std.proofs.lemmas.List.{get_or_append_left}
use Rattle.std.specs.List.{flat_map, AllByRecursion as All}
use Rattle.card.specs.Netlists.{Netlist, Lawful, nets}
use Rattle.signal.specs.declared.line.Stuck.{Stuck}
use Rattle.solving.specs.Closing.{closure, first_unit, or_broken, or_unit, violated}
use Rattle.solving.specs.Leading.{leads}
use Rattle.solving.specs.Settings.{Setting, at, full, open_in}
use Rattle.solving.specs.States.{state_of}
use Rattle.solving.proofs.Closed.{Closed, closed_tail, still_head, whole_head}
use Rattle.solving.proofs.Closures.{closed_closure, closure_grows}
use Rattle.solving.proofs.Places.{full_at, none_some}
use Rattle.formula.specs.Formulas.{differences, formula_of}
use Rattle.formula.specs.Links.{Link, clauses_of, links}
use Rattle.formula.specs.Meanings.{LedByInputs}
use Rattle.formula.specs.Variables.{variables}
use Rattle.formula.proofs.Known.{Step, known, known_at}
use Rattle.formula.proofs.Linked.{links_fitted}
use Rattle.formula.proofs.Parts.{all_both}
use Rattle.formula.proofs.Ruled.{Assigned, Fitted, link_led}

-- a closed setting is closed for each part of the clauses
broken_left : (a : Setting) (cs ds : List (List ℤ)) → violated a (cs ++ ds) ≡ false → violated a cs ≡ false
broken_left a [] ds h = refl
broken_left a (c ∷ cs) ds h = go (state_of a c) (broken_left a cs ds) h where
  go : (s : _) → (violated a (cs ++ ds) ≡ false → violated a cs ≡ false) → or_broken s (violated a (cs ++ ds)) ≡ false → or_broken s (violated a cs) ≡ false
  go s rest e = ap (or_broken s) (rest (whole_head s _ e).1 ∙ sym (whole_head s _ e).1) ∙ e

unit_left : (a : Setting) (cs ds : List (List ℤ)) → first_unit a (cs ++ ds) ≡ None → first_unit a cs ≡ None
unit_left a [] ds h = refl
unit_left a (c ∷ cs) ds h = go (state_of a c) (unit_left a cs ds) h where
  go : (s : _) → (first_unit a (cs ++ ds) ≡ None → first_unit a cs ≡ None) → or_unit s (first_unit a (cs ++ ds)) ≡ None → or_unit s (first_unit a cs) ≡ None
  go s rest e = ap (or_unit s) (rest (still_head s _ e).1 ∙ sym (still_head s _ e).1) ∙ e

closed_left : (a : Setting) (cs ds : List (List ℤ)) → Closed (cs ++ ds) a → Closed cs a
closed_left a cs ds k = record { whole = broken_left a cs ds k.whole; still = unit_left a cs ds k.still }

closed_right : (a : Setting) (cs ds : List (List ℤ)) → Closed (cs ++ ds) a → Closed ds a
closed_right a [] ds k = k
closed_right a (c ∷ cs) ds k = closed_right a cs ds (closed_tail a c (cs ++ ds) k)

closed_each : (a : Setting) (ls : List Link) → Closed (flat_map clauses_of ls) a → All (λ l. Closed (clauses_of l) a) ls
closed_each a [] k = tt
closed_each a (l ∷ ls) k = (closed_left a (clauses_of l) (flat_map clauses_of ls) k, closed_each a ls (closed_right a (clauses_of l) (flat_map clauses_of ls) k))

closed_links : (c : Netlist) (s : Stuck) (a : Setting) → Closed (formula_of c s) a → All (λ l. Closed (clauses_of l) a) (links c s)
unfolding formula_of
closed_links c s a k = closed_each a (links c s) (closed_left a (flat_map clauses_of (links c s)) (differences (nets c) 0 c.outputs ∷ []) k)

-- where every variable has a bit, none is open
none_open : (v : ℕ) (a : Setting) → ((i : ℕ) → i < v → Assigned a (suc i)) → open_in v a ≡ 0
none_open zero a h = refl
none_open (suc v) [] h = refl
none_open (suc v) (None ∷ a) h = absurd (none_some (h 0 (omega arith)).1)
none_open (suc v) (Some b ∷ a) h = let k = none_open v a (λ i l. h (suc i) (omega arith)) in omega arith

-- the leading variables are set from the start
lead_set : (v : ℕ) (bits : List Bool) (i : ℕ) → i < length bits → at (leads v bits) i ≡ Some (get_or bits i false)
lead_set v bits i l = get_or_append_left (full bits) (replicate (v - length bits) None) (Some false) i (omega (arith, length-map bits Some)) ∙ full_at bits i

pub led : (c : Netlist) (s : Stuck) → Lawful c → LedByInputs c s
led c s lawful bits fits = go (violated (closure (formula_of c s) (leads (variables c) bits)) (formula_of c s)) refl where
  go : (b : Bool) → violated (closure (formula_of c s) (leads (variables c) bits)) (formula_of c s) ≡ b
      → (violated (closure (formula_of c s) (leads (variables c) bits)) (formula_of c s) ≡ true) ⊎ (open_in (variables c) (closure (formula_of c s) (leads (variables c) bits)) ≡ 0)
  go true e = inl e
  go false e =
      let cs = formula_of c s in
      let t : Setting = closure cs (leads (variables c) bits) in
      let P : ℕ → Type 0 = Assigned t in
      let lead : ((i : ℕ) → i < c.inputs → P (suc i)) = λ i l. (get_or bits i false, closure_grows cs (leads (variables c) bits) i (get_or bits i false) (lead_set (variables c) bits i (omega arith))) in
      let steps : All (Step P) (links c s) = all_both Fitted (λ l. Closed (clauses_of l) t) (Step P) (λ l f k. link_led t l f k) (links c s) (links_fitted c s lawful) (closed_links c s t (closed_closure cs (leads (variables c) bits) e)) in
      inr (none_open (variables c) t (known_at P c (known P c s lawful lead steps)))

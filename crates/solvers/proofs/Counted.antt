-- Counting's loop: what the closure of one setting comes to, and what is left to try after each step.
use Rattle.std.proofs.Common.{◌≡◌, ℕ, ◌+◌, ◌^◌, ◌<◌, ◌≤◌, Bool, true, false, eqb, List, ◌∷◌, length, drop, ℤ, Some, None, sym, refl, ap, ◌∙◌, add-one, arith, drop_of_length-le, le-ltb, lt-ltb, eq-eqb, ne_eqb}
use Rattle.solving.specs.Settings.{Setting, open_in}
use Rattle.solving.specs.Closing.{violated, closure}
use Rattle.solving.specs.Leading.{leads}
use Rattle.solving.specs.Trials.{Answer, found, none, undecided, while, step, or_else}
use Rattle.solving.specs.Backtracking.{lowest_open, to_zero}
use Rattle.solving.specs.Counting.{settings, if_set, unless_violated, tried, try_each}
use Rattle.solving.specs.declared.verdict.Verdict.{Verdict}
use Rattle.solving.specs.declared.verdict.Verdict.TheVariants.{Found, None as Unsatisfiable, Undecided}
use Rattle.solving.proofs.Places.{open_some, open_inside}
use Rattle.solving.proofs.Costs.{lowest_law}
use Rattle.solving.proofs.Tallies.{settings_length}
use Rattle.solvers.specs.Numbering.{bits_of}
use Rattle.solvers.specs.Outcomes.{meant}
use Rattle.solvers.proofs.Numbered.{settings_from}

module _ (cs : List (List ℤ)) (v : ℕ) (bs : List Bool) (a b : Setting) (start : a ≡ leads v bs) where
  whole_tried : (s : ℕ) → violated (closure cs a) cs ≡ false → tried cs v bs s ≡ if_set (eqb (open_in v (closure cs a)) 0) (closure cs a) s
  whole_tried s w = sym (ap (λ (x : Setting). unless_violated (violated (closure cs x) cs) v (closure cs x) s) start) ∙ ap (λ x. unless_violated x v (closure cs a) s) w

  pub tried_violated : (s : ℕ) → violated (closure cs a) cs ≡ true → tried cs v bs s ≡ none s
  tried_violated s w = sym (ap (λ (x : Setting). unless_violated (violated (closure cs x) cs) v (closure cs x) s) start) ∙ ap (λ x. unless_violated x v (closure cs a) s) w

  pub tried_found : (s : ℕ) → violated (closure cs a) cs ≡ false → b ≡ closure cs a → length b ≡ v → lowest_open b ≡ None → tried cs v bs s ≡ found b s
  tried_found s w e l o =
      let z : open_in (length b) b ≡ 0 = lowest_law.0.ends b (ap to_zero o) in
      let y : open_in v (closure cs a) ≡ 0 = rw (sym e, sym l) z in
      whole_tried s w ∙ ap (λ x. if_set x (closure cs a) s) (eq-eqb (open_in v (closure cs a)) 0 y) ∙ ap (λ (x : Setting). found x s) (sym e)

  pub tried_open : (s j : ℕ) → violated (closure cs a) cs ≡ false → b ≡ closure cs a → length b ≡ v → lowest_open b ≡ Some j → tried cs v bs s ≡ undecided s
  tried_open s j w e l o =
      let p = lowest_law.0.opens b _ (ap to_zero o) in
      let q = open_some b (length b) j p (open_inside b j p) in
      let y : 0 < open_in v (closure cs a) = rw (sym e, sym l) q in
      whole_tried s w ∙ ap (λ x. if_set x (closure cs a) s) (ne_eqb (open_in v (closure cs a)) 0 (λ z. omega arith))

module _ (cs : List (List ℤ)) (v k budget : ℕ) where
  each_cons : (bs : List Bool) (rest : List (List Bool)) (s : ℕ) → try_each cs v budget (bs ∷ rest) s ≡ or_else (step budget s (tried cs v bs)) (try_each cs v budget rest)
  unfolding try_each
  each_cons bs rest s = refl

  each_from : (s : ℕ) → s < 2 ^ k → try_each cs v budget (drop s (settings k)) s ≡ or_else (step budget s (tried cs v (bits_of k s))) (try_each cs v budget (drop (s + 1) (settings k)))
  each_from s h = ap (λ (x : List (List Bool)). try_each cs v budget x s) (settings_from k s h) ∙ each_cons (bits_of k s) (drop (s + 1) (settings k)) s

  pub each_none : (s : ℕ) → 2 ^ k ≤ s → try_each cs v budget (drop s (settings k)) s ≡ none s
  unfolding try_each
  each_none s h = let l = settings_length k in ap (λ (x : List (List Bool)). try_each cs v budget x s) (drop_of_length-le (settings k) (omega arith))

  pub each_tired : (s : ℕ) → s < 2 ^ k → budget ≤ s → try_each cs v budget (drop s (settings k)) s ≡ undecided s
  each_tired s h g = each_from s h ∙ ap (λ x. or_else (while x s (tried cs v (bits_of k s))) (try_each cs v budget (drop (s + 1) (settings k)))) (le-ltb s budget g)

  pub each_next : (s : ℕ) (r : Verdict) (b : Setting) → s < 2 ^ k → s < budget → tried cs v (bits_of k s) (s + 1) ≡ meant r (s + 1) b → try_each cs v budget (drop s (settings k)) s ≡ or_else (meant r (s + 1) b) (try_each cs v budget (drop (s + 1) (settings k)))
  each_next s r b h g e =
      each_from s h
      ∙ ap (λ x. or_else (while x s (tried cs v (bits_of k s))) (try_each cs v budget (drop (s + 1) (settings k)))) (lt-ltb s budget g)
      ∙ ap (λ (x : Answer). or_else x (try_each cs v budget (drop (s + 1) (settings k)))) (ap (tried cs v (bits_of k s)) (sym (add-one s)) ∙ e)

-- as many variables, under another name
pub tried_as : (cs : List (List ℤ)) (u v : ℕ) (bs : List Bool) (s : ℕ) (answer : Answer) → u ≡ v → tried cs u bs s ≡ answer → tried cs v bs s ≡ answer
tried_as cs u v bs s answer e h = sym (ap (λ n. tried cs n bs s) e) ∙ h

-- an answer other than none ends the loop
pub settled : (r : Verdict) (s : ℕ) (b : Setting) (next : ℕ → Answer) → (r ≡ Unsatisfiable → ⊥) → or_else (meant r s b) next ≡ meant r s b
settled Found s b next h = refl
settled Unsatisfiable s b next h = absurd (h refl)
settled Undecided s b next h = refl

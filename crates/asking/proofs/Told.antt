-- What a solver's answer says of the fault whose formula it was given is true, for every solver that keeps its promises.
use Rattle.std.proofs.Common.{◌≡◌, ℕ, zero, suc, ◌≤◌, Bool, true, false, not, eqb, List, length, take, Some, None, Option, sym, ◌∙◌, subst, ⊎_elim, arith}
use Rattle.std.proofs.lemmas.List.{length-take-le}
use Rattle.std.proofs.lemmas.Bool.{and_cases, and_left, and_right, cond_both}
use Rattle.card.specs.Netlists.{Netlist, Lawful}
use Rattle.signal.specs.declared.line.Stuck.{Stuck}
use Rattle.vectors.specs.Freeing.{freed}
use Rattle.vectors.specs.Vectors.{Cells, InForm, bit_at}
use Rattle.vectors.proofs.Freed.{bit_without}
use Rattle.faults.specs.Catching.{ShownByEveryFilling, catches}
use Rattle.faults.specs.Showing.{Shows}
use Rattle.faults.specs.Thinning.{thinned}
use Rattle.faults.proofs.Caught.{catch_shown, shows_caught}
use Rattle.faults.proofs.Thinned.{thinned_catches}
use Rattle.solving.specs.Answers.{Says}
use Rattle.solving.specs.Models.{Model}
use Rattle.solving.specs.declared.verdict.Solved.{Solved}
use Rattle.solving.specs.declared.verdict.Verdict.{Verdict}
use Rattle.solving.specs.declared.verdict.Verdict.TheVariants.{Found, None as Unsatisfiable, Undecided}
use Rattle.formula.specs.Meanings.{FormulaLaws}
use Rattle.formula.specs.Posing.{holds_formula}
use Rattle.formula.proofs.Standing.{formula_stands}
use Rattle.asking.specs.Findings.{Asks, Finding, Tells, finding, fixing, shown, thinned_setting, unknown, untestable}
use Rattle.asking.proofs.Weighed.{fixing_all, fixing_filled, fixing_in_form}

-- ---- a vector in form stays so while cells are freed

freed_in_form : (k : ℕ) (v : Cells) (j : ℕ) → InForm k v → InForm k (freed v j)
freed_in_form k v j f = record {
  within = λ i le. bit_without v.care j i ∙ and_left (bit_at v.care i) (not (eqb i j)) (f.within i le);
  free_is_zero = λ i free. bit_without v.value j i ∙
      ⊎_elim
      (λ (e : bit_at v.care i ≡ false). and_left (bit_at v.value i) (not (eqb i j)) (f.free_is_zero i e))
      (λ (e : not (eqb i j) ≡ false). and_right (bit_at v.value i) (not (eqb i j)) e)
      (and_cases (bit_at v.care i) (not (eqb i j)) (sym (bit_without v.care j i) ∙ free));
}

thinned_in_form : (c : Netlist) (s : Stuck) (k : ℕ) (v : Cells) (n : ℕ) → InForm k v → InForm k (thinned c s v n)
thinned_in_form c s k v zero f = f
thinned_in_form c s k v (suc n) f =
    let w : Cells = thinned c s v n in
    let g : InForm k w = thinned_in_form c s k v n f in
    cond_both (catches c s (freed w n)) (freed w n) w (InForm k) (λ e. freed_in_form k w n g) (λ e. g)

-- ---- the three verdicts

module _ (c : Netlist) (s : Stuck) (lawful : Lawful c) where
  laws : FormulaLaws c s
  laws = formula_stands c s lawful

  found_tells : (budget : ℕ) (r : List Bool) → Says (holds_formula c s) budget Found (Some r) → Tells c s budget (shown (thinned_setting c s r))
  found_tells budget r (long, sat) =
      let k : ℕ = c.inputs in
      let bits : List Bool = take k r in
      let fits : k ≤ length r = omega (arith, laws.fits.inputs_are_variables, long) in
      let is : length bits ≡ k = length-take-le k r fits in
      let shows : Shows c s bits = laws.means.a_satisfying_reading_begins_with_a_showing_setting r long sat in
      let caught : catches c s (fixing bits) ≡ true = shows_caught c s (fixing bits) bits lawful
      (λ j h. fixing_all bits j (omega (arith, is, h)))
      (record { one_for_each = is; agrees = λ j h t. (fixing_filled bits).agrees j (omega (arith, is, h)) t })
      shows in
      let still : catches c s (thinned_setting c s r) ≡ true = thinned_catches c s (fixing bits) k caught in
      let told : ShownByEveryFilling c s (thinned_setting c s r) = catch_shown c s (thinned_setting c s r) still in
      let form : InForm k (thinned_setting c s r) = thinned_in_form c s k (fixing bits) k (subst (λ (n : ℕ). InForm n (fixing bits)) is (fixing_in_form bits)) in
      record {
        every_filling_of_a_shown_vector_shows_the_fault = λ v e. let is : thinned_setting c s r ≡ v = cc in subst (ShownByEveryFilling c s) is told;
        a_shown_vector_catches_the_fault = λ v e. let is : thinned_setting c s r ≡ v = cc in subst (λ (x : Cells). catches c s x ≡ true) is still;
        a_shown_vector_is_in_form = λ v e. let is : thinned_setting c s r ≡ v = cc in subst (InForm k) is form;
        untestable_means_no_setting_shows = λ e. absurd (cc);
        enough_steps_settle = λ h e. cc;
      }

  none_tells : (budget : ℕ) → Says (holds_formula c s) budget Unsatisfiable None → Tells c s budget untestable
  none_tells budget never = record {
    every_filling_of_a_shown_vector_shows_the_fault = λ v e. absurd (cc);
    a_shown_vector_catches_the_fault = λ v e. absurd (cc);
    a_shown_vector_is_in_form = λ v e. absurd (cc);
    untestable_means_no_setting_shows = λ e bits shows.
        let (r, extends) = laws.means.a_showing_setting_extends bits shows in
        never r extends.one_for_each_variable extends.satisfies_the_formula;
    enough_steps_settle = λ h e. cc;
  }

  unknown_tells : (budget : ℕ) → Says (holds_formula c s) budget Undecided None → Tells c s budget unknown
  unknown_tells budget settles = record {
    every_filling_of_a_shown_vector_shows_the_fault = λ v e. absurd (cc);
    a_shown_vector_catches_the_fault = λ v e. absurd (cc);
    a_shown_vector_is_in_form = λ v e. absurd (cc);
    untestable_means_no_setting_shows = λ e. absurd (cc);
    enough_steps_settle = λ h e. settles laws.led h;
  }

  verdict_tells : (budget : ℕ) (v : Verdict) (r : Option (List Bool)) → Says (holds_formula c s) budget v r → Tells c s budget (finding c s v r)
  verdict_tells budget Found None says = absurd says
  verdict_tells budget Found (Some r) says = found_tells budget r says
  verdict_tells budget Unsatisfiable None says = none_tells budget says
  verdict_tells budget Unsatisfiable (Some r) says = absurd says
  verdict_tells budget Undecided None says = unknown_tells budget says
  verdict_tells budget Undecided (Some r) says = absurd says

  pub asks_tells : (budget : ℕ) (solved : Solved) (found : Finding) (n : Model) → Asks c s budget solved found n → Tells c s budget found
  asks_tells budget solved found n asks =
      subst (Tells c s budget) (sym asks.says) (verdict_tells budget solved.verdict n.reading asks.answers.says)

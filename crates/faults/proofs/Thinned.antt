-- A thinned vector still catches what it caught, no cell that it still fixes can be freed, and the vector that it came from extends it.
use Rattle.std.proofs.Common.{◌≡◌, ℕ, zero, suc, ◌+◌, ◌<◌, ◌≤◌, true, sym, ap, ◌∙◌, subst, ⊎_elim, add-one, arith}
use Rattle.std.proofs.lemmas.Bool.{both_ways, cases_Bool, cases_lt, cond_both, cond-true}
use Rattle.card.specs.Netlists.{Netlist}
use Rattle.signal.specs.declared.line.Stuck.{Stuck}
use Rattle.vectors.specs.Extending.{Extends}
use Rattle.vectors.specs.Freeing.{freed}
use Rattle.vectors.specs.Vectors.{Cells, bit_at}
use Rattle.vectors.proofs.Extended.{extends_freed, extends_on, extends_self, freed_extends, freed_free}
use Rattle.faults.specs.Catching.{catches}
use Rattle.faults.specs.Thinning.{NoneToFree, thinned, tried}
use Rattle.faults.proofs.Refined.{catches_more}

module _ (c : Netlist) (s : Stuck) (v : Cells) where
  pub thinned_more : (w u : Cells) (n : ℕ) → w ≡ thinned c s v n → u ≡ tried c s w n → u ≡ thinned c s v (n + 1)
  thinned_more w u n e f = f ∙ ap (λ (x : Cells). tried c s x n) e ∙ sym (ap (thinned c s v) (add-one n))

  pub thinned_catches : (n : ℕ) → catches c s v ≡ true → catches c s (thinned c s v n) ≡ true
  thinned_catches zero t = t
  thinned_catches (suc n) t =
      let w : Cells = thinned c s v n in
      cond_both (catches c s (freed w n)) (freed w n) w (λ x. catches c s x ≡ true) (λ e. e) (λ e. thinned_catches n t)

  -- each stage extends those after it
  pub thinned_extended : (m n : ℕ) → m ≤ n → Extends (thinned c s v m) (thinned c s v n)
  thinned_extended m zero h = let e : 0 ≡ m = omega arith in subst (λ (i : ℕ). Extends (thinned c s v i) v) e (extends_self v)
  thinned_extended m (suc n) h =
      let w : Cells = thinned c s v n in
      let step : Extends w (tried c s w n) = cond_both (catches c s (freed w n)) (freed w n) w (Extends w) (λ e. extends_freed w n) (λ e. extends_self w) in
      ⊎_elim
      (λ l. extends_on (thinned c s v m) w (tried c s w n) (thinned_extended m n (omega arith)) step)
      (λ l. let e : suc n ≡ m = omega arith in subst (λ (i : ℕ). Extends (thinned c s v i) (tried c s w n)) e (extends_self (tried c s w n)))
      (cases_lt m (suc n))

  -- the trial of a cell that is still fixed had failed, and with fewer cells fixed it fails again
  fails : (j k : ℕ) → j < k → bit_at (thinned c s v k).care j ≡ true → catches c s (freed (thinned c s v k) j) ≡ true → ⊥
  fails j k h t g =
      let w : Cells = thinned c s v j in
      let u : Cells = thinned c s v k in
      let caught : catches c s (freed w j) ≡ true = catches_more c s (freed w j) (freed u j) (freed_extends w u j (thinned_extended j k (omega arith))) g in
      let stays : tried c s w j ≡ freed w j = cond-true (catches c s (freed w j)) (freed w j) w caught in
      let fixed : bit_at (tried c s w j).care j ≡ true = (thinned_extended (suc j) k h).fixes j t in
      both_ways (bit_at (freed w j).care j) (freed_free w j) (sym (ap (λ (x : Cells). bit_at x.care j) stays) ∙ fixed)

  pub thinned_least : NoneToFree c s (thinned c s v c.inputs)
  thinned_least j h t = ⊎_elim
      (λ g. absurd (fails j c.inputs h t g))
      (λ g. g)
      (cases_Bool (catches c s (freed (thinned c s v c.inputs) j)))

-- The loop that reads a setting from the last input to the first.
use Rattle.std.proofs.Common.{◌≡◌, ℕ, ◌+◌, ◌-◌, ◌*◌, ◌^◌, ◌<◌, ◌≤◌, Bool, true, false, cond, List, length, get_or, take, drop, replicate, Some, sym, ap, ◌∙◌, subst, arith, pow-add}
use Rattle.std.proofs.lemmas.List.{drop_all, get_or-take, length-take-le}
use Rattle.vectors.specs.Vectors.{InForm, holding}
use Rattle.vectors.proofs.Bits.{below_past}
use Rattle.solving.specs.Models.{Model}
use Rattle.asking.specs.Findings.{fixing}
use Rattle.asking.specs.Weights.{weighed}
use Rattle.asking.proofs.Weighed.{all_below_lem, all_more, fixing_is, in_form_below, weighed_more}

-- the inputs from j on are weighed
pub record Weighing (m : Model) (inputs j care value : ℕ) : Type 0 where
  pub all_fixed : care ≡ weighed (replicate (inputs - j) true)
  pub below : value < 2 ^ (inputs - j)
  pub bits : (reading : List Bool) → m.reading ≡ Some reading → length reading ≡ m.variables → inputs ≤ length reading → value ≡ weighed (drop j (take inputs reading))

pub weighing_none : (m : Model) (inputs : ℕ) → Weighing m inputs inputs 0 0
weighing_none m inputs =
    let z : inputs - inputs ≡ 0 = omega arith in
    record {
      all_fixed = ap (λ (n : ℕ). weighed (replicate n true)) (sym z);
      below = subst (λ (n : ℕ). 0 < 2 ^ n) (sym z) (omega arith);
      bits = λ reading e long fits. let short = length-take-le inputs reading fits in ap weighed (sym (drop_all inputs (take inputs reading) (omega arith)));
    }

doubled : (x n b : ℕ) → b ≤ 1 → x < 2 ^ n → 2 * x + b < 2 ^ (n + 1)
doubled x n b le lt = omega (arith, pow-add 2 n 1)

one : (b : Bool) → cond b 1 0 ≤ 1
one true = omega arith
one false = omega arith

module _ (m : Model) (inputs i j care value : ℕ) (next : j ≡ i + 1) (within : j ≤ inputs) (so : Weighing m inputs j care value) where
  more : inputs - i ≡ (inputs - j) + 1
  more = omega (arith, next, within)

  pub care_more : 2 * care + 1 < 2 ^ (inputs - i)
  care_more = subst (λ (n : ℕ). 2 * care + 1 < 2 ^ n) (sym more) (doubled care (inputs - j) 1 (omega arith) (subst (λ (n : ℕ). n < 2 ^ (inputs - j)) (sym so.all_fixed) (all_below_lem (inputs - j))))

  pub value_more : (b : Bool) → 2 * value + cond b 1 0 < 2 ^ (inputs - i)
  value_more b = subst (λ (n : ℕ). 2 * value + cond b 1 0 < 2 ^ n) (sym more) (doubled value (inputs - j) (cond b 1 0) (one b) so.below)

  pub care_fits : inputs ≤ 32 → 2 * care + 1 < 2 ^ 32
  care_fits le = below_past (2 * care + 1) (inputs - i) 32 care_more (omega (arith, le))

  pub value_fits : inputs ≤ 32 → (b : Bool) → 2 * value + cond b 1 0 < 2 ^ 32
  value_fits le b = below_past (2 * value + cond b 1 0) (inputs - i) 32 (value_more b) (omega (arith, le))

  pub weighing_more : (b : Bool)
      → ((reading : List Bool) → m.reading ≡ Some reading → 1 ≤ i + 1 → i + 1 ≤ m.variables → b ≡ get_or reading ((i + 1) - 1) false)
      → Weighing m inputs i (2 * care + 1) (2 * value + cond b 1 0)
  weighing_more b told = record {
    all_fixed = ap (λ (x : ℕ). 2 * x + 1) so.all_fixed ∙ sym (all_more (inputs - i) (inputs - j) more);
    below = value_more b;
    bits = λ reading e long fits.
        let short : length (take inputs reading) ≡ inputs = length-take-le inputs reading fits in
        let lt : i < length (take inputs reading) = omega (arith, short, next, within) in
        let at : (i + 1) - 1 ≡ i = omega arith in
        let is : b ≡ get_or (take inputs reading) i false =
        told reading e (omega arith) (omega (arith, long, fits, next, within)) ∙ ap (λ (n : ℕ). get_or reading n false) at ∙ sym (get_or-take inputs reading i false (omega (arith, next, within))) in
        let here = weighed_more (take inputs reading) i lt in
        let old : value ≡ weighed (drop (i + 1) (take inputs reading)) = so.bits reading e long fits ∙ ap (λ (n : ℕ). weighed (drop n (take inputs reading))) next in
        let w : ◌≡◌ {A = ℕ} (cond b 1 0) (cond (get_or (take inputs reading) i false) 1 0) = ap (λ (x : Bool). cond x 1 0) is in
        omega (arith, here, old, w);
  }

module _ (m : Model) (inputs j care value : ℕ) (over : j ≤ 0) (so : Weighing m inputs j care value) where
  whole : inputs - j ≡ inputs
  whole = omega (arith, over)

  pub weighing_in_form : InForm inputs (holding care value)
  weighing_in_form =
      let f : InForm inputs (holding (weighed (replicate inputs true)) value) = in_form_below inputs value (subst (λ (n : ℕ). value < 2 ^ n) whole so.below) in
      subst (λ (n : ℕ). InForm inputs (holding n value)) (sym (so.all_fixed ∙ ap (λ (n : ℕ). weighed (replicate n true)) whole)) f

  pub weighing_all : (reading : List Bool) → m.reading ≡ Some reading → length reading ≡ m.variables → inputs ≤ length reading → holding care value ≡ fixing (take inputs reading)
  weighing_all reading e long fits =
      let short : length (take inputs reading) ≡ inputs = length-take-le inputs reading fits in
      let n : inputs - j ≡ length (take inputs reading) = omega (arith, short, over) in
      let z : j ≡ 0 = omega (arith, over) in
      fixing_is (take inputs reading) care value (so.all_fixed ∙ ap (λ (k : ℕ). weighed (replicate k true)) n)
      (so.bits reading e long fits ∙ ap (λ (k : ℕ). weighed (drop k (take inputs reading))) z)

-- The lowest open variable as the first place of a setting that holds nothing.
use Rattle.std.proofs.Common.{◌≡◌, ℕ, ◌<◌, Bool, true, false, length, get_or, Some, None, Option, sym, refl, arith, true≢false}
use mathlib.Core.Bool.{false≢true}
use Rattle.std.specs.Prelude.{is_none}
use Rattle.solving.specs.Settings.{Setting}
use Rattle.solving.specs.Backtracking.{lowest_open}
use Rattle.solving.proofs.Costs.{lowest_at, lowest_no}

holds_none : (x : Option Bool) → is_none x ≡ true → x ≡ None
holds_none None e = refl
holds_none (Some b) e = absurd (false≢true e)

holds_some : (x : Option Bool) → is_none x ≡ false → x ≡ None → ⊥
holds_some None e h = true≢false e
holds_some (Some b) e h = cc

pub first_open : (a : Setting) (r : Option ℕ) → ((i : ℕ) → r ≡ Some i → (i < length a) × (is_none (get_or a i None) ≡ true) × ((k : ℕ) → k < i → is_none (get_or a k None) ≡ false)) → (r ≡ None → (k : ℕ) → k < length a → is_none (get_or a k None) ≡ false) → r ≡ lowest_open a
first_open a None s n = sym (lowest_no a (length a) (omega arith) (λ k i e h. holds_some (get_or a k None) (n refl k i) e))
first_open a (Some j) s n =
    let p = s j refl in
    sym (lowest_at a j (λ k h e. holds_some (get_or a k None) (p.2 k h) e) (holds_none (get_or a j None) p.1) p.0)

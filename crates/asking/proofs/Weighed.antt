-- The bits of a weighed list, and the vector that fixes every input of a setting.
use Rattle.std.proofs.Common.{◌≡◌, ℕ, zero, suc, ◌+◌, ◌*◌, ◌/◌, ◌%◌, ◌^◌, ◌<◌, ◌≤◌, Bool, true, false, cond, eqb, List, [], ◌∷◌, map, length, get_or, drop, replicate, sym, refl, ap, ◌∙◌, subst, ⊎_elim, arith}
use lib.ListN.{length-replicate}
use Rattle.std.proofs.lemmas.List.{drop_more, get_or-map, get_or-replicate, get_or_past}
use Rattle.std.proofs.lemmas.Bool.{both_ways, cases_lt}
use Rattle.std.proofs.lemmas.Simd.{splat_is_map}
use Rattle.vectors.specs.Vectors.{Fills, InForm, bit_at, holding}
use Rattle.vectors.proofs.Bits.{below_from_bits, bit_lowest, bit_of_zero, bit_past, bit_suc}
use Rattle.faults.specs.Catching.{AllFixed}
use Rattle.asking.specs.Findings.{fixing}
use Rattle.asking.specs.Weights.{weighed}

lowest : (b : Bool) (n : ℕ) → eqb ((cond b 1 0 + 2 * n) % 2) 1 ≡ b
lowest true n = let e : (1 + 2 * n) % 2 ≡ 1 = omega arith in ap (λ (x : ℕ). eqb x 1) e
lowest false n = let e : (0 + 2 * n) % 2 ≡ 0 = omega arith in ap (λ (x : ℕ). eqb x 1) e

rest : (b : Bool) (n : ℕ) → (cond b 1 0 + 2 * n) / 2 ≡ n
rest true n = omega arith
rest false n = omega arith

pub bit_weighed : (bits : List Bool) (j : ℕ) → bit_at (weighed bits) j ≡ get_or bits j false
bit_weighed [] j = bit_of_zero j
bit_weighed (b ∷ bits) zero = bit_lowest (weighed (b ∷ bits)) ∙ lowest b (weighed bits)
bit_weighed (b ∷ bits) (suc j) = bit_suc (weighed (b ∷ bits)) j ∙ ap (λ (n : ℕ). bit_at n j) (rest b (weighed bits)) ∙ bit_weighed bits j

pub weighed_below : (bits : List Bool) → weighed bits < 2 ^ length bits
weighed_below bits = below_from_bits (weighed bits) (length bits) (λ j h. bit_weighed bits j ∙ get_or_past bits j false h)

-- ---- all ones

-- one more
pub all_more : (n m : ℕ) → n ≡ m + 1 → weighed (replicate n true) ≡ 2 * weighed (replicate m true) + 1
all_more n m e =
    let s : n ≡ suc m = omega arith in
    ap (λ (k : ℕ). weighed (replicate k true)) s ∙ omega arith

pub all_below_lem : (n : ℕ) → weighed (replicate n true) < 2 ^ n
all_below_lem n = subst (λ (k : ℕ). weighed (replicate n true) < 2 ^ k) (length-replicate n true) (weighed_below (replicate n true))

-- whatever is below the power has its bits among all ones
pub in_form_below : (n value : ℕ) → value < 2 ^ n → InForm n (holding (weighed (replicate n true)) value)
in_form_below n value h = record {
  within = λ j le. bit_past (weighed (replicate n true)) n j (all_below_lem n) le;
  free_is_zero = λ j free.
      ⊎_elim
      (λ (lt : j < n). absurd (both_ways (bit_at (weighed (replicate n true)) j) free (bit_weighed (replicate n true) j ∙ get_or-replicate n j true false lt)))
      (λ (le : n ≤ j). bit_past value n j h le)
      (cases_lt j n);
}

-- ---- the vector of a setting

module _ (bits : List Bool) where
  pub fixing_all : AllFixed (length bits) (fixing bits)
  fixing_all j h = bit_weighed (map (λ _. true) bits) j ∙ get_or-map (λ (_ : Bool). true) bits j false false h

  pub fixing_filled : Fills (length bits) (fixing bits) bits
  fixing_filled = record { one_for_each = refl; agrees = λ j h t. sym (bit_weighed bits j) }

  pub fixing_in_form : InForm (length bits) (fixing bits)
  fixing_in_form = subst (λ (ys : List Bool). InForm (length bits) (holding (weighed ys) (weighed bits))) (splat_is_map bits (length bits) true refl) (in_form_below (length bits) (weighed bits) (weighed_below bits))

  pub fixing_is : (care value : ℕ) → care ≡ weighed (replicate (length bits) true) → value ≡ weighed bits → holding care value ≡ fixing bits
  fixing_is care value e f = λ i. holding ((e ∙ ap weighed (splat_is_map bits (length bits) true refl)) i) (f i)

-- one more bit in front
pub weighed_more : (bits : List Bool) (i : ℕ) → i < length bits → weighed (drop i bits) ≡ cond (get_or bits i false) 1 0 + 2 * weighed (drop (i + 1) bits)
weighed_more bits i h = ap weighed (drop_more bits i false h)

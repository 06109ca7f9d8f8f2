-- Vectors that extend others: itself, onward, and with a cell of either or both made free.
use Rattle.std.proofs.Common.{◌≡◌, ℕ, Bool, true, false, not, ◌&&◌, eqb, sym, refl, ◌∙◌}
use Rattle.std.proofs.lemmas.Bool.{and_from, and_parts, and_right, eq-eqb, false≢true}
use Rattle.vectors.specs.Extending.{Extends}
use Rattle.vectors.specs.Freeing.{freed}
use Rattle.vectors.specs.Vectors.{Cells, bit_at}
use Rattle.vectors.proofs.Freed.{bit_without}

pub extends_self : (v : Cells) → Extends v v
extends_self v = record { fixes = λ j t. t; same_bit = λ j t. refl }

pub extends_on : (u v w : Cells) → Extends u v → Extends v w → Extends u w
extends_on u v w a b = record { fixes = λ j t. a.fixes j (b.fixes j t); same_bit = λ j t. a.same_bit j (b.fixes j t) ∙ b.same_bit j t }

both : (x z : Bool) → (x && not z) ≡ true → (y : Bool) → (y && not z) ≡ y
both x false e true = refl
both x true e true = absurd (false≢true (sym (and_right x false refl) ∙ e))
both x z e false = refl

module _ (w : Cells) (i j : ℕ) (t : bit_at (freed w i).care j ≡ true) where
  pub still_fixed : bit_at w.care j ≡ true
  still_fixed = (and_parts (bit_at w.care j) (not (eqb j i)) (sym (bit_without w.care i j) ∙ t)).0

  other_cell : not (eqb j i) ≡ true
  other_cell = (and_parts (bit_at w.care j) (not (eqb j i)) (sym (bit_without w.care i j) ∙ t)).1

  still_value : (v : Cells) → bit_at (freed v i).value j ≡ bit_at v.value j
  still_value v = bit_without v.value i j ∙ both (bit_at w.care j) (eqb j i) (sym (bit_without w.care i j) ∙ t) (bit_at v.value j)

pub extends_freed : (v : Cells) (i : ℕ) → Extends v (freed v i)
extends_freed v i = record { fixes = λ j t. still_fixed v i j t; same_bit = λ j t. sym (still_value v i j t v) }

-- the same cell freed in both
pub freed_extends : (v w : Cells) (i : ℕ) → Extends v w → Extends (freed v i) (freed w i)
freed_extends v w i a = record {
  fixes = λ j t. bit_without v.care i j ∙ and_from (bit_at v.care j) (not (eqb j i)) (a.fixes j (still_fixed w i j t)) (other_cell w i j t);
  same_bit = λ j t. still_value w i j t v ∙ a.same_bit j (still_fixed w i j t) ∙ sym (still_value w i j t w);
}

-- a freed cell is free
pub freed_free : (v : Cells) (i : ℕ) → bit_at (freed v i).care i ≡ false
freed_free v i = bit_without v.care i i ∙ at (bit_at v.care i) (eqb i i) (eq-eqb i i refl)
  where
    at : (x z : Bool) → z ≡ true → (x && not z) ≡ false
    at x true e = and_right x false refl
    at x false e = absurd (false≢true e)

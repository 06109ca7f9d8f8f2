-- The two comparisons of numbers decide whether a vector is in form; vectors in form with the same cells are the same.
use Rattle.std.proofs.Common.{◌≡◌, ℕ, ◌^◌, ◌<◌, Bool, true, false, ◌&&◌, eqb, ltb, List, get_or, Decides, sym, refl, ap, ◌∙◌, ap₂, ⊎_elim, arith}
use lib.Bits.{bit_and}
use Rattle.signal.specs.declared.ternary.Ternary.{Ternary}
use Rattle.signal.specs.declared.ternary.Ternary.TheVariants.{Low, High, X}
use Rattle.std.proofs.lemmas.Bool.{and_parts, and_from, and_right, ltb-true, lt-ltb, eqb-true, eq-eqb, cases_lt}
use Rattle.std.proofs.lemmas.Bool.Decides.{Decides-at}
use Rattle.vectors.specs.Vectors.{Cells, bit_at, cell_at, cell_of, holding, start, InForm, in_form}
use Rattle.vectors.proofs.Fillings.{cells_at}
use Rattle.vectors.proofs.Bits.{bit_and_lem, bit_past, same_bits, below_from_bits}

absorbs : (x y : Bool) → (y ≡ false → x ≡ false) → (x && y) ≡ x
absorbs true true h = refl
absorbs true false h = sym (h refl)
absorbs false y h = refl

-- no bit without care, by one operation on numbers and bit by bit
pub zero_where_free : (c b j : ℕ) → bit_and b c ≡ b → bit_at c j ≡ false → bit_at b j ≡ false
zero_where_free c b j e h = sym (ap (λ (x : ℕ). bit_at x j) e) ∙ bit_and_lem b c j ∙ and_right (bit_at b j) (bit_at c j) h

pub free_from_bits : (c b : ℕ) → ((j : ℕ) → bit_at c j ≡ false → bit_at b j ≡ false) → bit_and b c ≡ b
free_from_bits c b h = same_bits (bit_and b c) b (λ j. bit_and_lem b c j ∙ absorbs (bit_at b j) (bit_at c j) (h j))

pub in_form_from : (k c b : ℕ) → c < 2 ^ k → bit_and b c ≡ b → InForm k (holding c b)
in_form_from k c b l e = record { within = λ j h. bit_past c k j l h; free_is_zero = λ j h. zero_where_free c b j e h }

-- the test by numbers decides what is meant bit by bit
pub decides_in_form : (k c b : ℕ) → Decides (in_form k c b) (InForm k (holding c b))
decides_in_form k c b = (
  λ t. let p = and_parts (ltb c (2 ^ k)) (eqb (bit_and b c) b) t in in_form_from k c b (ltb-true c (2 ^ k) p.0) (eqb-true (bit_and b c) b p.1),
  λ f. and_from (ltb c (2 ^ k)) (eqb (bit_and b c) b) (lt-ltb c (2 ^ k) (below_from_bits c k f.within)) (eq-eqb (bit_and b c) b (free_from_bits c b f.free_is_zero)),
)

pub judges : (k c b : ℕ) (r : Bool) → r ≡ in_form k c b → Decides r (InForm k (holding c b))
judges k c b r e = Decides-at r (in_form k c b) e (decides_in_form k c b)

-- ---- the numbers of a vector in form are those of its cells

is_fixed : Ternary → Bool
is_fixed Low = true
is_fixed High = true
is_fixed X = false

is_high : Ternary → Bool
is_high Low = false
is_high High = true
is_high X = false

fixed_of_cell : (x y : Bool) → is_fixed (cell_of x y) ≡ x
unfolding is_fixed
fixed_of_cell false y = refl
fixed_of_cell true false = refl
fixed_of_cell true true = refl

high_of_cell : (x y : Bool) → (x ≡ false → y ≡ false) → is_high (cell_of x y) ≡ y
unfolding is_high
high_of_cell false y h = sym (h refl)
high_of_cell true false h = refl
high_of_cell true true h = refl

-- two vectors in form with the same cells are the same
pub same_from_cells : (k : ℕ) (v w : Cells) → InForm k v → InForm k w → start k v ≡ start k w → v ≡ w
same_from_cells k v w f g e =
    ap₂ holding
    (same_bits v.care w.care (λ j. ⊎_elim
    (λ h. sym (fixed_of_cell (bit_at v.care j) (bit_at v.value j)) ∙ ap is_fixed (cell j h) ∙ fixed_of_cell (bit_at w.care j) (bit_at w.value j))
    (λ h. f.within j h ∙ sym (g.within j h)) (cases_lt j k)))
    (same_bits v.value w.value (λ j. ⊎_elim
    (λ h. sym (high_of_cell (bit_at v.care j) (bit_at v.value j) (f.free_is_zero j)) ∙ ap is_high (cell j h) ∙ high_of_cell (bit_at w.care j) (bit_at w.value j) (g.free_is_zero j))
    (λ h. f.free_is_zero j (f.within j h) ∙ sym (g.free_is_zero j (g.within j h))) (cases_lt j k)))
  where
    cell : (j : ℕ) → j < k → cell_at v j ≡ cell_at w j
    cell j h = sym (cells_at v 0 k j j (omega arith) h) ∙ ap (λ (xs : List Ternary). get_or xs j X) e ∙ cells_at w 0 k j j (omega arith) h

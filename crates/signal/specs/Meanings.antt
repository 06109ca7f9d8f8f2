-- What each function means at bits, by how many of its pins are 1.
-- This is what the definition of a gate's answer is held to, apart from how that definition joins the pins.
use Rattle.std.specs.Prelude.{◌≡◌, ℕ, suc, ◌%◌, ◌≤◌, Bool, true, false, not, ◌↔◌, List, [], ◌∷◌, length}
use Rattle.card.specs.declared.function.Function.{Function}
use Rattle.card.specs.declared.function.Function.TheVariants.{Ida, And2, Or2, Xor2, Inva, Nand2, Nor2, Xnor2, Zero, One}
use Rattle.signal.specs.Operations.{bit_operations}
use Rattle.signal.specs.Gates.{truth}

-- how many of the bits are 1
abbrev pub ones : List Bool → ℕ
ones [] = 0
ones (true ∷ bits) = suc (ones bits)
ones (false ∷ bits) = ones bits

-- the function answers the opposite of another
abbrev pub Negates : Function → Function → Type 0
Negates f g = (bits : List Bool) → truth bit_operations f bits ≡ not (truth bit_operations g bits)

pub record BitMeaning : Type 0 where
  pub ida_is_the_pin : (b : Bool) → truth bit_operations Ida (b ∷ []) ≡ b
  pub and_where_every_pin_is_one : (bits : List Bool) → (truth bit_operations And2 bits ≡ true) ↔ (ones bits ≡ length bits)
  pub or_where_some_pin_is_one : (bits : List Bool) → (truth bit_operations Or2 bits ≡ true) ↔ (1 ≤ ones bits)
  pub xor_where_the_ones_are_odd : (bits : List Bool) → (truth bit_operations Xor2 bits ≡ true) ↔ (ones bits % 2 ≡ 1)
  pub inva_negates_ida : Negates Inva Ida
  pub nand_negates_and : Negates Nand2 And2
  pub nor_negates_or : Negates Nor2 Or2
  pub xnor_negates_xor : Negates Xnor2 Xor2
  pub zero_never : (bits : List Bool) → truth bit_operations Zero bits ≡ false
  pub one_always : (bits : List Bool) → truth bit_operations One bits ≡ true

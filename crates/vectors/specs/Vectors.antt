-- Test vectors: a cell 0, 1 or X for each input, held by two numbers, and the settings that fill a vector.
-- Bit j of `care` is 1 where input j is fixed; bit j of `value` is its bit there, and 0 where the input is free.
use Rattle.std.specs.Prelude.{◌≡◌, ℕ, zero, suc, ◌/◌, ◌%◌, ◌^◌, ◌<◌, ◌≤◌, Bool, true, false, ◌&&◌, List, [], ◌∷◌, length, ◌==◌, bit_and, nat_lt, slice_index_or}
use Rattle.signal.specs.declared.ternary.Ternary.{Ternary}
use Rattle.signal.specs.declared.ternary.Ternary.TheVariants.{Low, High, X}
use Rattle.vectors.specs.Allowed.{AllowedBy}

-- bit j of a number
abbrev pub bit_at : ℕ → ℕ → Bool
bit_at n j = (n / 2 ^ j) % 2 == 1

pub record Cells : Type 0 where
  pub care : ℕ
  pub value : ℕ

abbrev pub holding : ℕ → ℕ → Cells
holding c b = record { care = c; value = b }

-- the cell of an input that is fixed or free, and of its bit
abbrev pub cell_of : Bool → Bool → Ternary
cell_of false b = X
cell_of true false = Low
cell_of true true = High

-- the cell of input j; past the highest fixed input every cell is X
abbrev pub cell_at : Cells → ℕ → Ternary
cell_at v j = cell_of (bit_at v.care j) (bit_at v.value j)

-- the cells of n inputs, from input j
abbrev pub cells_from : Cells → ℕ → ℕ → List Ternary
cells_from v j zero = []
cells_from v j (suc n) = cell_at v j ∷ cells_from v (suc j) n

-- the cells of inputs 0 .. k - 1: what the nets of the inputs start with
abbrev pub start : ℕ → Cells → List Ternary
start k v = cells_from v 0 k

-- bits j .. j + n - 1 of a number
abbrev pub bits_from : ℕ → ℕ → ℕ → List Bool
bits_from b j zero = []
bits_from b j (suc n) = bit_at b j ∷ bits_from b (suc j) n

-- a setting has one bit for each of k inputs, and agrees with every fixed cell
pub record Fills (k : ℕ) (v : Cells) (bits : List Bool) : Type 0 where
  pub one_for_each : length bits ≡ k
  pub agrees : (j : ℕ) → j < k → bit_at v.care j ≡ true → slice_index_or bits j false ≡ bit_at v.value j

-- no input from k on is fixed, and no free input has a bit
pub record InForm (k : ℕ) (v : Cells) : Type 0 where
  pub within : (j : ℕ) → k ≤ j → bit_at v.care j ≡ false
  pub free_is_zero : (j : ℕ) → bit_at v.care j ≡ false → bit_at v.value j ≡ false

-- the same by two comparisons of numbers
abbrev pub in_form : ℕ → ℕ → ℕ → Bool
in_form k c b = nat_lt c (2 ^ k) && bit_and b c == b

-- the settings that fill the vector are those that the cells allow, and no others
abbrev pub FilledByTheAllowed : ℕ → Cells → List Ternary → Type 0
FilledByTheAllowed k v cells = (bits : List Bool) → (Fills k v bits → AllowedBy cells bits) × (AllowedBy cells bits → Fills k v bits)

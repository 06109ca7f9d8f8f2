-- A row of cells as characters: one of `0`, `1` and `X` for each input, from input 0.
use Rattle.std.specs.Prelude.{ℕ, Bool, true, ◌&&◌, ◌||◌, List, [], ◌∷◌, map, length, ◌==◌, nat_le}
use Rattle.signal.specs.declared.ternary.Ternary.{Ternary}
use Rattle.signal.specs.declared.ternary.Ternary.TheVariants.{Low, High, X}
use Rattle.vectors.specs.Vectors.{Cells, start}

-- the character of a cell
abbrev pub character_of : Ternary → ℕ
character_of Low = 48
character_of High = 49
character_of X = 88

abbrev pub is_character : ℕ → Bool
is_character b = b == 48 || (b == 49 || b == 88)

-- every byte is the character of a cell
abbrev pub all_characters : List ℕ → Bool
all_characters [] = true
all_characters (b ∷ bs) = is_character b && all_characters bs

-- one character for each of at most 32 inputs
abbrev pub is_row : ℕ → List ℕ → Bool
is_row k bs = length bs == k && (nat_le k 32 && all_characters bs)

-- the row that a vector is printed as
abbrev pub printed : ℕ → Cells → List ℕ
printed k v = map character_of (start k v)

-- 1 for a fixed cell
abbrev pub fixed_bit : Ternary → ℕ
fixed_bit Low = 1
fixed_bit High = 1
fixed_bit X = 0

-- the bit of a cell, 0 for a free one
abbrev pub level_bit : Ternary → ℕ
level_bit Low = 0
level_bit High = 1
level_bit X = 0

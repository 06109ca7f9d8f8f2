-- Two vectors merged into one that has the fixed cells of both.
-- They can be merged unless some input is fixed to opposite bits.
use Rattle.std.specs.Prelude.{◌≡◌, ℕ, Bool, true, ◌↔◌, List, ◌==◌, bit_and, bit_or, bit_xor}
use Rattle.vectors.specs.Vectors.{Cells, Fills, bit_at, holding}

-- some input is fixed to opposite bits
pub record Opposed (v w : Cells) : Type 0 where
  pub input : ℕ
  pub fixed_in_one : bit_at v.care input ≡ true
  pub fixed_in_other : bit_at w.care input ≡ true
  pub opposite : bit_at v.value input ≡ bit_at w.value input → ⊥

-- whether no input is fixed to opposite bits: no bit stands in both care numbers and in just one of the values
abbrev pub mergeable : Cells → Cells → Bool
mergeable v w = bit_and (bit_and v.care w.care) (bit_xor v.value w.value) == 0

-- the fixed cells of both
abbrev pub union : Cells → Cells → Cells
union v w = holding (bit_or v.care w.care) (bit_or v.value w.value)

-- the settings that fill the merged vector are those that fill both
abbrev pub FilledByBoth : Cells → Cells → Cells → Type 0
FilledByBoth v w u = (k : ℕ) (bits : List Bool) → Fills k u bits ↔ (Fills k v bits × Fills k w bits)

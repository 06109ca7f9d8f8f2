-- One vector extends another if it fixes every cell that the other fixes, to the same bit, and perhaps more.
use Rattle.std.specs.Prelude.{◌≡◌, ℕ, true}
use Rattle.vectors.specs.Vectors.{Cells, bit_at}

-- v extends w
pub record Extends (v w : Cells) : Type 0 where
  pub fixes : (j : ℕ) → bit_at w.care j ≡ true → bit_at v.care j ≡ true
  pub same_bit : (j : ℕ) → bit_at w.care j ≡ true → bit_at v.value j ≡ bit_at w.value j

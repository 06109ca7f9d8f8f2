-- A formula is led if, from each setting of exactly the leading variables, closure ends violated or sets every variable.
use Rattle.std.specs.Prelude.{◌≡◌, ℕ, ◌+◌, ◌-◌, ◌^◌, Bool, true, ◌⊎◌, List, ◌++◌, length, replicate, ℤ, None}
use Rattle.solving.specs.Settings.{Setting, full, open_in}
use Rattle.solving.specs.Closing.{violated, closure}

-- the first variables set, the others open
abbrev pub leads : ℕ → List Bool → Setting
leads v bs = full bs ++ replicate (v - length bs) None

abbrev pub Led : List (List ℤ) → ℕ → ℕ → Type 0
Led cs v k = (bs : List Bool) → length bs ≡ k → (violated (closure cs (leads v bs)) cs ≡ true) ⊎ (open_in v (closure cs (leads v bs)) ≡ 0)

-- the steps that settle a led formula of k leading variables
abbrev pub enough : ℕ → ℕ
enough k = 2 ^ (k + 1) - 2

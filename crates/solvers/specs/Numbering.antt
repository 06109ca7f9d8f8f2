-- The settings of the leading variables by number: the first variable has the highest bit.
use Rattle.std.specs.Prelude.{ℕ, zero, suc, ◌-◌, ◌^◌, Bool, cond, List, [], ◌∷◌, Some, nat_le, slice_set}
use Rattle.solving.specs.Settings.{Setting}

-- the k bits of a number
abbrev pub bits_of : ℕ → ℕ → List Bool
bits_of zero n = []
bits_of (suc k) n = nat_le (2 ^ k) n ∷ bits_of k (cond (nat_le (2 ^ k) n) (n - 2 ^ k) n)

-- bits put into a setting from a place on
abbrev pub written : Setting → ℕ → List Bool → Setting
written a j [] = a
written a j (b ∷ bs) = written (slice_set a j (Some b)) (suc j) bs

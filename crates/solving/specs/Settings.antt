-- A setting gives some variables a bit; the others are open.
-- Past its end a variable reads as 0 and is never open, so no law needs a literal to be in range.
use Rattle.std.specs.Prelude.{◌≡◌, ℕ, zero, suc, ◌+◌, Bool, false, List, [], ◌∷◌, map, ℤ, Some, None, Option, slice_index_or, slice_set}
use Rattle.std.specs.Bool.{beq}
use Rattle.solving.specs.Literals.{place, wants}

-- for each variable in order its bit, or none where it is open
abbrev pub Setting : Type 0
Setting = List (Option Bool)

abbrev pub at : Setting → ℕ → Option Bool
at a j = slice_index_or a j (Some false)

abbrev pub worth : Option Bool → Bool → Option Bool
worth None w = None
worth (Some b) w = Some (beq b w)

-- open, or whether the literal is true
abbrev pub value : Setting → ℤ → Option Bool
value a l = worth (at a (place l)) (wants l)

-- the literal is made true
abbrev pub made : Setting → ℤ → Setting
made a l = slice_set a (place l) (Some (wants l))

abbrev pub open_one : Option Bool → ℕ
open_one None = 1
open_one (Some b) = 0

-- how many of the first k variables are open
abbrev pub open_in : ℕ → Setting → ℕ
open_in zero a = 0
open_in (suc k) [] = 0
open_in (suc k) (x ∷ a) = open_one x + open_in k a

-- b keeps all that a sets
abbrev pub Within : Setting → Setting → Type 0
Within a b = (j : ℕ) (x : Bool) → at a j ≡ Some x → at b j ≡ Some x

-- the setting that a reading is
abbrev pub full : List Bool → Setting
full r = map Some r

abbrev pub bit_of : Option Bool → Bool
bit_of None = false
bit_of (Some b) = b

-- the bits of a setting; one that is open counts as 0
abbrev pub reading_of : Setting → List Bool
reading_of a = map bit_of a

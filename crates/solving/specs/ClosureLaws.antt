-- The laws of closure.
use Rattle.std.specs.Prelude.{◌≡◌, Bool, false, List, length, ℤ, None}
use Rattle.solving.specs.Readings.{Satisfies}
use Rattle.solving.specs.Settings.{Setting, open_in, Within, full, reading_of}
use Rattle.solving.specs.Closing.{violated, closure, first_unit}

-- closure keeps every satisfying reading that its start allows, and is then not violated
abbrev pub Keeps : Type 0
Keeps = (cs : List (List ℤ)) (a : Setting) (r : List Bool) → Within a (full r) → Satisfies r cs → Within (closure cs a) (full r) × (violated (closure cs a) cs ≡ false)

-- a setting of every variable with no clause false throughout satisfies every clause
abbrev pub Settles : Type 0
Settles = (cs : List (List ℤ)) (a : Setting) → violated a cs ≡ false → open_in (length a) a ≡ 0 → Satisfies (reading_of a) cs

-- it ends with no unit clause left
abbrev pub Rests : Type 0
Rests = (cs : List (List ℤ)) (a : Setting) → first_unit (closure cs a) cs ≡ None

-- a larger start ends larger or violated
abbrev pub Monotone : Type 0
Monotone = (cs : List (List ℤ)) (a b : Setting) → Within a b → violated (closure cs b) cs ≡ false → Within (closure cs a) (closure cs b) × (violated (closure cs a) cs ≡ false)

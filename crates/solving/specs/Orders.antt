-- Closure in any order: at each turn any unit clause of the list may be taken.
use Rattle.std.specs.Prelude.{◌≡◌, true, false, List, ◌∷◌, ℤ, None}
use Rattle.solving.specs.Settings.{Setting, made}
use Rattle.solving.specs.States.{state_of, unit}
use Rattle.solving.specs.Closing.{violated, closure, first_unit}

pub data Stands (c : List ℤ) : List (List ℤ) → Type 0 where
  first : {cs : List (List ℤ)} → Stands c (c ∷ cs)
  next : {d : List ℤ} {cs : List (List ℤ)} → Stands c cs → Stands c (d ∷ cs)

pub data Reaches (cs : List (List ℤ)) : Setting → Setting → Type 0 where
  stop : {a : Setting} → Reaches cs a a
  take : {a b : Setting} (c : List ℤ) (l : ℤ) → Stands c cs → state_of a c ≡ unit l → Reaches cs (made a l) b → Reaches cs a b

-- a violation on the way is one at the end of closure; and where nothing unit and no violation is left, the end is that of closure
pub record Orderless (cs : List (List ℤ)) (a b : Setting) : Type 0 where
  pub broken : violated b cs ≡ true → violated (closure cs a) cs ≡ true
  pub whole : first_unit b cs ≡ None → violated b cs ≡ false → b ≡ closure cs a

abbrev pub AnyOrder : Type 0
AnyOrder = (cs : List (List ℤ)) (a b : Setting) → Reaches cs a b → Orderless cs a b

-- Closure: as long as some clause has one open place and every other place false, the first such clause has its literal made true.
-- It ends violated if some clause is then false in every place.
use Rattle.std.specs.Prelude.{ℕ, zero, suc, Bool, true, false, List, [], ◌∷◌, length, ℤ, Some, None, Option}
use Rattle.solving.specs.Settings.{Setting, made}
use Rattle.solving.specs.States.{State, broken, unit, other, state_of}

abbrev pub or_unit : State → Option ℤ → Option ℤ
or_unit broken later = later
or_unit (unit l) later = Some l
or_unit other later = later

-- the open literal of the first unit clause
abbrev pub first_unit : Setting → List (List ℤ) → Option ℤ
first_unit a [] = None
first_unit a (c ∷ cs) = or_unit (state_of a c) (first_unit a cs)

abbrev pub or_broken : State → Bool → Bool
or_broken broken later = true
or_broken (unit l) later = later
or_broken other later = later

abbrev pub violated : Setting → List (List ℤ) → Bool
violated a [] = false
violated a (c ∷ cs) = or_broken (state_of a c) (violated a cs)

abbrev pub onward : {A : Type 0} → Option ℤ → A → (ℤ → A) → A
onward None end next = end
onward (Some l) end next = next l

-- at most n unit clauses, one after another
unfoldable pub units : List (List ℤ) → ℕ → Setting → Setting
units cs zero a = a
units cs (suc n) a = onward (first_unit a cs) a (λ l. units cs n (made a l))

-- each sets a variable, so there are no more than variables
unfoldable pub closure : List (List ℤ) → Setting → Setting
closure cs a = units cs (length a) a

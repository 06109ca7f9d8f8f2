-- What a clause comes to under a setting: false in every place; one open place and every other false; or anything else.
-- Places are counted as they stand: an open literal that stands twice makes two open places.
use Rattle.std.specs.Prelude.{Bool, true, false, List, [], ◌∷◌, ℤ, Some, None, Option}
use Rattle.solving.specs.Settings.{Setting, value}
pub use Rattle.solving.specs.declared.state.State.{State}
pub use Rattle.solving.specs.declared.state.State.TheVariants.{Broken as broken, Lone as unit, Other as other}

-- a clause with one literal more
abbrev pub joined : Option Bool → ℤ → State → State
joined (Some true) l s = other
joined (Some false) l s = s
joined None l broken = unit l
joined None l (unit m) = other
joined None l other = other

abbrev pub state_of : Setting → List ℤ → State
state_of a [] = broken
state_of a (l ∷ ls) = joined (value a l) l (state_of a ls)

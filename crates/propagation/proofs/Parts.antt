-- A clause read in parts, as the code reads it: what each part comes to, put together.
use Rattle.solving.specs.declared.state.State.{State}
use Rattle.solving.specs.declared.state.State.TheVariants.{Broken as broken, Lone as unit, Other as other}

-- what a part of a clause comes to together with what follows it
abbrev pub combined : State → State → State
combined broken s = s
combined (unit l) broken = unit l
combined (unit l) (unit m) = other
combined (unit l) other = other
combined other s = other

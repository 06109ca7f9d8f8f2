-- Which settings the cells of the inputs allow, bit by bit.
use Rattle.std.specs.Prelude.{Bool, List}
use Rattle.signal.specs.declared.ternary.Ternary.{Ternary}
use Rattle.signal.specs.Lists.{Everywhere}
use Rattle.signal.specs.Ternaries.{Allows}

-- every value allows the bit at its place
abbrev pub AllowedBy : List Ternary → List Bool → Type 0
AllowedBy xs bs = Everywhere Allows xs bs

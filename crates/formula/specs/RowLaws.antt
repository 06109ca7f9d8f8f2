-- What a function's row means: its clauses hold exactly where A is the function of the pins.
use Rattle.std.specs.Prelude.{◌≡◌, Bool, ◌↔◌, List, ◌∷◌, length}
use Rattle.card.specs.declared.function.Function.{Function}
use Rattle.card.specs.Functions.{pin_count}
use Rattle.signal.specs.Gates.{truth}
use Rattle.signal.specs.Operations.{bit_operations}
use Rattle.solving.specs.Readings.{Satisfies}
use Rattle.formula.specs.Rows.{rows}

-- the clauses of each row hold exactly where A has the function's bit, whatever the bits of its pins
abbrev pub RowsMean : Type 0
RowsMean = (f : Function) (a : Bool) (bits : List Bool) → length bits ≡ pin_count f → Satisfies (a ∷ bits) (rows f) ↔ (a ≡ truth bit_operations f bits)

-- What a gate answers at the values of its pins, for every kind of signal and any number of pins.
-- The pins are joined from the first to the last; a reader has to believe the ten lines of `truth`, and `Meanings` says them for bits.
use Rattle.std.specs.Prelude.{true, false, List, [], ◌∷◌}
use Rattle.card.specs.declared.function.Function.{Function}
use Rattle.card.specs.declared.function.Function.TheVariants.{Ida, And2, Or2, Xor2, Inva, Nand2, Nor2, Xnor2, Zero, One}
use Rattle.signal.specs.Operations.{Operations}

-- x, then each of the list, from the left
abbrev pub folded : {S : Type 0} → (S → S → S) → S → List S → S
folded op x [] = x
folded op x (y ∷ ys) = folded op (op x y) ys

-- the whole list, and the unit where it is empty
abbrev pub joined : {S : Type 0} → (S → S → S) → S → List S → S
joined op unit [] = unit
joined op unit (x ∷ xs) = folded op x xs

-- the answer of a gate whose pins have these values
abbrev pub truth : {S : Type 0} → Operations S → Function → List S → S
truth o Ida pins = joined o.either (o.constant false) pins
truth o And2 pins = joined o.both (o.constant true) pins
truth o Or2 pins = joined o.either (o.constant false) pins
truth o Xor2 pins = joined o.unlike (o.constant false) pins
truth o Inva pins = o.negated (joined o.either (o.constant false) pins)
truth o Nand2 pins = o.negated (joined o.both (o.constant true) pins)
truth o Nor2 pins = o.negated (joined o.either (o.constant false) pins)
truth o Xnor2 pins = o.negated (joined o.unlike (o.constant false) pins)
truth o Zero pins = o.constant false
truth o One pins = o.constant true

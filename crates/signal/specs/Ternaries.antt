-- The three values by the bits that each allows, and their answers by the bits that allowed bits make.
-- No table stands here: the code's tables are held to these definitions.
use Rattle.std.specs.Prelude.{◌≡◌, Bool, true, false, not, ◌&&◌, ◌||◌, ◌↔◌, List}
use Rattle.card.specs.declared.function.Function.{Function}
use Rattle.signal.specs.declared.ternary.Ternary.{Ternary}
use Rattle.signal.specs.declared.ternary.Ternary.TheVariants.{Low, High, X}
use Rattle.signal.specs.Operations.{Operations, differ}
use Rattle.signal.specs.Gates.{truth}
use Rattle.signal.specs.Exacts.{MadeOfPins}

-- whether a value allows a bit
abbrev pub has : Ternary → Bool → Bool
has Low b = not b
has High b = b
has X b = true

-- a value allows a bit
abbrev pub Allows : Ternary → Bool → Type 0
Allows x b = has x b ≡ true

abbrev pub same : Bool → Bool → Bool
same true b = b
same false b = not b

-- whether some bit that x allows is made into b
abbrev pub makes : (Bool → Bool) → Ternary → Bool → Bool
makes f x b = (has x false && same (f false) b) || (has x true && same (f true) b)

-- whether some bits that x and y allow, chosen independently, are made into b
abbrev pub makes_of_two : (Bool → Bool → Bool) → Ternary → Ternary → Bool → Bool
makes_of_two f x y b = (has x false && makes (f false) y b) || (has x true && makes (f true) y b)

-- the value that allows 0 where `low` and 1 where `high`; one of the two holds of every answer
abbrev pub of : (low high : Bool) → Ternary
of true true = X
of true false = Low
of false high = High

-- an answer allows exactly the bits that allowed bits make, so it is X where they make both
abbrev pub ternary_operations : Operations Ternary
ternary_operations = record {
  constant = λ b. of (not b) b;
  negated = λ x. of (makes not x false) (makes not x true);
  both = λ x y. of (makes_of_two ◌&&◌ x y false) (makes_of_two ◌&&◌ x y true);
  either = λ x y. of (makes_of_two ◌||◌ x y false) (makes_of_two ◌||◌ x y true);
  unlike = λ x y. of (makes_of_two differ x y false) (makes_of_two differ x y true);
}

-- an answer is unknown exactly when the allowed bits, chosen independently for each pin, make both bits
abbrev pub UnknownWhereBothAreMade : Type 0
UnknownWhereBothAreMade =
    (f : Function) (pins : List Ternary) → (truth ternary_operations f pins ≡ X) ↔ (MadeOfPins Allows f pins false × MadeOfPins Allows f pins true)

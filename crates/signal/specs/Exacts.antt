-- A kind of signal is exact where an answer allows no bit but those that allowed bits make.
-- Then so does every gate, whatever its function and the number of its pins.
use Rattle.std.specs.Prelude.{◌≡◌, Bool, not, ◌&&◌, ◌||◌, List}
use Rattle.card.specs.declared.function.Function.{Function}
use Rattle.signal.specs.Operations.{Operations, bit_operations, differ}
use Rattle.signal.specs.Laws.{Sound}
use Rattle.signal.specs.Gates.{truth}
use Rattle.signal.specs.Lists.{Everywhere}

module _ {S : Type 0} (allows : S → Bool → Type 0) where
  -- some bit that x allows is made into b
  abbrev pub MadeOfOne : (Bool → Bool) → S → Bool → Type 0
  MadeOfOne f x b = (p : Bool) × allows x p × (f p ≡ b)

  -- some bits that x and y allow, chosen independently, are made into b
  abbrev pub MadeOfTwo : (Bool → Bool → Bool) → S → S → Bool → Type 0
  MadeOfTwo f x y b = (p : Bool) × (q : Bool) × allows x p × allows y q × (f p q ≡ b)

  -- some choice of allowed bits, one for each pin, is made into b
  abbrev pub MadeOfPins : Function → List S → Bool → Type 0
  MadeOfPins f pins b = (bits : List Bool) × Everywhere allows pins bits × (truth bit_operations f bits ≡ b)

pub record Exact {S : Type 0} (o : Operations S) (allows : S → Bool → Type 0) : Type 0 where
  pub sound : Sound o allows
  pub constant : (b c : Bool) → allows (o.constant b) c → b ≡ c
  pub negated : (x : S) (b : Bool) → allows (o.negated x) b → MadeOfOne allows not x b
  pub both : (x y : S) (b : Bool) → allows (o.both x y) b → MadeOfTwo allows ◌&&◌ x y b
  pub either : (x y : S) (b : Bool) → allows (o.either x y) b → MadeOfTwo allows ◌||◌ x y b
  pub unlike : (x y : S) (b : Bool) → allows (o.unlike x y) b → MadeOfTwo allows differ x y b

-- a gate's answer allows a bit exactly when some choice of allowed bits, one for each pin, makes it
pub record GatesExact {S : Type 0} (o : Operations S) (allows : S → Bool → Type 0) : Type 0 where
  pub allows_what_is_made : (f : Function) (pins : List S) (b : Bool) → MadeOfPins allows f pins b → allows (truth o f pins) b
  pub makes_what_is_allowed : (f : Function) (pins : List S) (b : Bool) → allows (truth o f pins) b → MadeOfPins allows f pins b

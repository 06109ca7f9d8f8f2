-- What the laws of a kind give every gate: they are stated of the operations, and each gate is made of these.
use Rattle.std.specs.Prelude.{Bool, List}
use Rattle.card.specs.declared.function.Function.{Function}
use Rattle.signal.specs.Operations.{Operations, bit_operations}
use Rattle.signal.specs.Laws.{Only}
use Rattle.signal.specs.Gates.{truth}
use Rattle.signal.specs.Lists.{Everywhere}

-- a gate's answer allows every bit that its function makes of allowed bits, chosen for each pin by itself;
-- where each pin allows one bit, so does the answer
pub record GateLaws {S : Type 0} (o : Operations S) (allows : S → Bool → Type 0) : Type 0 where
  pub sound : (f : Function) (pins : List S) (bits : List Bool) → Everywhere allows pins bits → allows (truth o f pins) (truth bit_operations f bits)
  pub definite : (f : Function) (pins : List S) (bits : List Bool) → Everywhere (Only allows) pins bits → Only allows (truth o f pins) (truth bit_operations f bits)

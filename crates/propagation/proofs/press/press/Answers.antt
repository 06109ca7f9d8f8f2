use Rattle.std.proofs.Common.{inl, inr, arith}
use Rattle.propagation.proofs.press.press.Goals as goal

pub returns-clause-presses : goal.returns-clause-presses
returns-clause-presses c = elim c.press_once.ensures.presses [ inl p ↦ p | inr o ↦ absurd (omega (arith, o.again)) ]

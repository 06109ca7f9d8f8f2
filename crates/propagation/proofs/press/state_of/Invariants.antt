use Rattle.std.proofs.Common.{◌≡◌, drop}
use Rattle.solving.specs.States.{state_of}
use Rattle.propagation.proofs.Parts.{combined}
use Rattle.propagation.proofs.press.state_of.Given as goal

abbrev pub invariant-loop-literal : goal.invariant-loop-literal
invariant-loop-literal l = combined l.state (state_of l.values (drop l.literal-index l.clause)) ≡ state_of l.values l.clause

use Rattle.asking.proofs.Counted.{Weighing}
use Rattle.asking.proofs.setting.setting.Given as goal

abbrev pub invariant-loop-j : goal.invariant-loop-j
invariant-loop-j g l = Weighing (g.S.Solver.model l.solver) l.inputs l.j l.care l.value

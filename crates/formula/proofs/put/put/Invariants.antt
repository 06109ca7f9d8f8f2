-- The clauses from this one on are what is still to be given.
use Rattle.std.proofs.Common.{◌≡◌, map, drop}
use Rattle.formula.specs.Posing.{given}
use Rattle.formula.specs.Rows.{clauses_in, over}
use Rattle.formula.proofs.put.put.Given as goal

abbrev pub invariant-loop-codes : goal.invariant-loop-codes
invariant-loop-codes g l =
    let vs = map (λ v. v.number) l.variables in
    given (g.S.Solver.model l.solver) (over vs (clauses_in (drop l.codes-index l.codes-items))) ≡ given (g.S.Solver.model l.initial.solver) (over vs (clauses_in l.codes-items))

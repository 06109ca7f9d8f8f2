use Rattle.std.proofs.Common.{◌≡◌, drop}
use Rattle.solving.specs.States.{state_of}
use Rattle.propagation.specs.Scanning.{foremost, clauses_from, Ends}
use Rattle.propagation.proofs.Parts.{combined}
use Rattle.propagation.proofs.scan.scan.Given as goal

abbrev pub invariant-loop-literal : goal.invariant-loop-literal
invariant-loop-literal l = combined l.state (state_of l.values (drop l.literal-index l.clause)) ≡ state_of l.values l.clause

abbrev pub invariant-loop-c : goal.invariant-loop-c
invariant-loop-c l = Ends l.literals l.from (drop l.c l.ends) × (foremost l.values l.c (clauses_from l.literals l.from (drop l.c l.ends)) ≡ foremost l.values l.first (drop l.first (clauses_from l.literals 0 l.ends)))

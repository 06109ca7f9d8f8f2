-- The literals of the codes from this one on are what is still to be written.
use Rattle.std.proofs.Common.{◌≡◌, ◌≤◌, ◌++◌, map, length, drop}
use Rattle.formula.specs.Rows.{literal_of, written}
use Rattle.formula.proofs.put.put_clause.Given as goal

abbrev pub invariant-loop-code : goal.invariant-loop-code
invariant-loop-code g l =
    let vs = map (λ v. v.number) l.variables in
    (length l.clause.items ≤ l.code-index) ×
    (l.clause.items ++ map (literal_of vs) (written (drop l.code-index l.code-items)) ≡ map (literal_of vs) (written l.code-items))

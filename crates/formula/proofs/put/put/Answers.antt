-- The codes of a row name its function's pins; one clause more.
use Rattle.std.proofs.Common.{◌≡◌, true, map, length, ◌∙◌, ap₂, arith, rules}
use Rattle.formula.specs.Rows.{clauses_in}
use Rattle.formula.proofs.Puts.{row_in_range, row_more}
use Rattle.formula.proofs.Renamed.{in_table}
use Rattle.formula.proofs.Ruled.{row_in_table}
use Rattle.formula.proofs.put.put.Goals as goal

pub put_clause-requires : goal.put_clause-requires
put_clause-requires g c =
    let n = length c.args.variables.now in
    let row = c.row-codes-items.result in
    let four : length row ≡ 4 = search rules in
    let t : in_table n (clauses_in row) ≡ true = ap₂ (λ k r. in_table k (clauses_in r)) c.requires.has_the_functions_pins c.row-codes-items.ensures.is_the_functions_row ∙ row_in_table c.args.function in
    record { codes_name_variables = row_in_range n row c.loop-codes.codes-index t (omega arith) }

pub loop-codes-preserved : goal.loop-codes-preserved
loop-codes-preserved g c =
    let row = c.row-codes-items.result in
    let four : length row ≡ 4 = search rules in
    row_more (g.S.Solver.model c.loop-codes.solver) _ (map (λ v. v.number) c.args.variables.now) row c.loop-codes.codes-index (omega arith) c.put_clause.ensures.gives_the_clause ∙ c.loop-codes.invariant

-- A code that is no blank names a variable.
use Rattle.std.proofs.Common.{◌≡◌, length, get_or, pos, ap, ◌∙◌, arith, w8, SFits, of_z, rules}
use Rattle.std.proofs.lemmas.Int.{to_z-of_z}
use Rattle.solving.specs.Literals.{in_range}
use Rattle.formula.proofs.Puts.{alone_in_range, code_in_range}
use Rattle.formula.proofs.put.put_clause.Goals as goal

pub literal-requires : goal.literal-requires
literal-requires g c =
    let n = length c.args.variables.now in
    let codes = c.args.codes in
    let i = c.loop-code.code-index in
    let three : length codes ≡ 3 = search rules in
    let f : SFits w8 (get_or codes i (pos 0)) = search rules in
    record { names_a_variable = ap (in_range n) (to_z-of_z w8 _ f) ∙ alone_in_range n (get_or codes i (pos 0)) (code_in_range n codes i c.requires.codes_name_variables (omega arith)) (λ z. c.if-code-ne0.true (ap (of_z w8) z)) }

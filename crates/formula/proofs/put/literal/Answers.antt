-- The variable of the code, and its sign.
use Rattle.std.proofs.Common.{◌≡◌, ◌-◌, map, length, get_or, pos, sym, ap, ◌∙◌, w8, w16, SFits, rules}
use lib.IntN.{nat_abs}
use lib.Signed.{lt_z}
use Rattle.std.proofs.lemmas.Int.{to_z-of_z}
use Rattle.std.proofs.lemmas.List.{get_or-map}
use Rattle.solving.specs.Literals.{place}
use Rattle.formula.proofs.Puts.{code_literal, code_place}
use Rattle.formula.proofs.Renamed.{in_range_place}
use Rattle.formula.proofs.put.literal.Goals as goal

pub returns : goal.returns
returns c =
    let code = c.args.code in
    let vs = c.args.variables.now in
    let n = length vs in
    let x = c.index-variables-from.result in
    let ez = to_z-of_z w8 code c.ranges.code in
    let fits : SFits w16 c.literal.result = search rules in
    let ep : c.from.result - 1 ≡ place code = ap (λ k. k - 1) (c.from.ensures ∙ c.unsigned_abs.ensures.value ∙ ap nat_abs ez) ∙ code_place code in
    let ex : x.number ≡ get_or (map (λ v. v.number) vs) (place code) 0 =
    ap (λ v. v.number) c.index-variables-from.is ∙ ap (λ k. (get_or vs k x).number) ep ∙ sym (get_or-map (λ v. v.number) vs (place code) x 0 (in_range_place n code c.requires.names_a_variable)) in
    record {
      is_the_codes_literal =
          to_z-of_z w16 _ fits ∙ c.literal.ensures.is_the_variable_or_its_negation
          ∙ code_literal n (map (λ v. v.number) vs) code _ x.number c.requires.names_a_variable (ap (lt_z (pos 0)) (sym ez)) ex;
    }

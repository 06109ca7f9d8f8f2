-- One literal more.
use Rattle.std.proofs.Common.{◌+◌, [], ◌∷◌, ◌++◌, ap, ◌∙◌, arith, w16, SFits, rules}
use Rattle.std.proofs.lemmas.Int.{to_z-of_z}
use Rattle.card.specs.Netlists.{nets}
use Rattle.card.specs.Views.{netlist_of}
use Rattle.formula.specs.Variables.{difference}
use Rattle.formula.proofs.Loops.{rising_more}
use Rattle.formula.proofs.outputs.put_differences.Goals as goal

pub loop-output-preserved : goal.loop-output-preserved
loop-output-preserved g c =
    let x = c.loop-output.invariant in
    let ls = c.loop-output.clause.items in
    let n = nets (netlist_of c.args.card.now) in
    let fits : SFits w16 c.literal.result = search rules in (
      c.push.ensures.len ∙ ap (λ n. n + 1) x.0,
      rising_more ls _ (difference n 0) c.loop-output.output c.difference.result.number
          (c.push.ensures.items ∙ ap (λ z. ls ++ (z ∷ [])) (to_z-of_z w16 _ fits ∙ c.literal.ensures.is_the_variable_or_its_negation))
          (omega (arith, c.difference.ensures.is_the_outputs_variable)) x.1,
    )

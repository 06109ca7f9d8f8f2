use Rattle.std.proofs.Common.{length, None, ap, ◌∙◌, arith}
use Rattle.std.proofs.lemmas.List.{length-replicate}
use Rattle.solving.specs.Settings.{Setting}
use Rattle.solvers.specs.Numbering.{bits_of, written}
use Rattle.solvers.proofs.Numbered.{bits_length, written_leads}
use Rattle.solvers.proofs.leading.Leading.enter.Goals as goal

pub returns : goal.returns
returns c =
    let n = length c.args.assignment.now.values.now in
    let bs = bits_of c.args.self.count c.args.number in
    let e = ap (λ x. x.setting) c.clear.ensures.opens_every_variable in
    record {
      is_entered = c.write_bits.ensures.are_written ∙ ap (λ (a : Setting). written a 0 bs) e ∙ written_leads n bs (omega (arith, bits_length c.args.self.count c.args.number, c.requires.inside));
      empties_the_trail = c.write_bits.ensures.leaves_the_trail ∙ c.clear.ensures.empties_the_trail;
      keeps_the_variables = c.write_bits.ensures.keeps_the_variables ∙ ap length e ∙ length-replicate n None;
    }

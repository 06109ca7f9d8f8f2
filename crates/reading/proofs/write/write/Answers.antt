use Rattle.std.proofs.Common.{sym, ap, ◌∙◌, subst}
use Rattle.reading.specs.Reading.{reading}
use Rattle.reading.specs.Rules.{Accepted}
use Rattle.card.specs.Views.{netlist_of}
use Rattle.reading.proofs.Appended.{written_in_parts}
use Rattle.reading.proofs.Canonical.{written_accepted, written_reads}
use Rattle.reading.proofs.write.write.Goals as goal

pub returns : goal.returns
returns c =
    let n = netlist_of c.args.card.now in
    let law = c.args.card.now.lawful in
    let w = written_in_parts n _ _ _ _ _ _ _ (c.in_ok-bytes.ensures.items_if_clones_equal (λ y e. e))
    c.in_ok-write_gates.ensures.appends_the_gates c.in_ok-write_outputs.ensures.appends_the_outputs c.in_ok-push.ensures.items
    c.inputs.ensures.counts_the_inputs c.gates.ensures.are_the_gates c.outputs.ensures.are_the_outputs in
    record { is_the_canonical_writing = w; reads_back_to_the_card = ap reading w ∙ written_reads n law; spells_the_card = subst (λ x. Accepted x n) (sym w) (written_accepted n law) }

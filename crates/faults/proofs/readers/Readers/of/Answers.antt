-- One gate more is listed; at the end all readers are, and each reads a net of the card.
use Rattle.std.proofs.Common.{◌≡◌, vec_items, refl, ap, ◌∙◌}
use Rattle.card.specs.Views.{netlist_of}
use Rattle.faults.specs.Readers.{gate_readers, readers}
use Rattle.faults.proofs.Listed.{listed_all, listed_more, on_card}
use Rattle.faults.proofs.readers.Readers.of.Goals as goal

pub loop-i-preserved : goal.loop-i-preserved
loop-i-preserved c = listed_more c.inputs-inputs.result c.loop-i.i _ c.gates-gate-items.result.now _ (vec_items c.loop-i.list) _ c.loop-i-test.true refl c.in_ok-push_pins.ensures.appends_the_pins_in_order c.loop-i.invariant

pub invariant_of-result : goal.invariant_of-result
invariant_of-result c =
    let card = netlist_of c.args.card.now in
    let list = vec_items c.loop-i.list in
    let all : list ≡ readers card =
    listed_all c.inputs-inputs.result c.loop-i.i c.gates-gate-items.result.now list c.loop-i-test.false c.loop-i.invariant
    ∙ ap (λ k. gate_readers k c.gates-gate-items.result.now) c.inputs-inputs.ensures.counts_the_inputs
    ∙ ap (gate_readers card.inputs) c.gates-gate-items.ensures.are_the_gates in
    record { read_nets_of_a_card = on_card card list c.args.card.now.lawful all }

-- Where the walk is made, what it promises in its one lane says it of every bit that is shown; without room none is made.
use Rattle.std.proofs.Common.{None, ap, ◌∙◌, rules}
use Rattle.card.specs.Views.{netlist_of}
use Rattle.signal.specs.Ternaries.{ternary_operations}
use Rattle.signal.specs.Walks.{net_values}
use Rattle.vectors.specs.Views.{cells_of}
use Rattle.tester.proofs.Truths.{carried_read, good_nets_carry, truthful}
use Rattle.tester.proofs.outputs.expected_outputs.Goals as goal

pub returns-then-out-count-clause-a_bit_shown_is_what_every_filling_makes : goal.returns-then-out-count-clause-a_bit_shown_is_what_every_filling_makes
returns-then-out-count-clause-a_bit_shown_is_what_every_filling_makes c =
    let card = netlist_of c.args.card.now in
    let v = cells_of c.args.vector.now in
    truthful card v c.args.card.now.lawful (good_nets_carry card v)

pub returns-clause-a_bit_shown_is_what_every_filling_makes : goal.returns-clause-a_bit_shown_is_what_every_filling_makes
returns-clause-a_bit_shown_is_what_every_filling_makes c =
    let card = netlist_of c.args.card.now in
    let v = cells_of c.args.vector.now in
    let cells = c.enter.ensures.enters_the_cells in
    truthful card v c.args.card.now.lawful
    (carried_read card v _ _ (c.walk.ensures.every_net_allows_what_allowed_inputs_make 0 (search rules)) cells (c.walk.ensures.every_net_has_its_value ∙ ap (net_values ternary_operations None card) cells))

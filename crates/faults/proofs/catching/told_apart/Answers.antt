-- The nets of the good card become those of the faulty one, and the outputs are nets.
use Rattle.std.proofs.Common.{ap, ◌∙◌}
use Rattle.card.specs.Netlists.{all_below, nets}
use Rattle.card.specs.Views.{netlist_of}
use Rattle.card.proofs.Below.{below_at, below_weaken}
use Rattle.vectors.specs.Vectors.{start}
use Rattle.vectors.proofs.Fillings.{length_cells}
use Rattle.faults.proofs.Caught.{catches_read}
use Rattle.faults.proofs.catching.told_apart.Goals as goal

pub opposite_somewhere-requires : goal.opposite_somewhere-requires
opposite_somewhere-requires c =
    let card = netlist_of c.args.card.now in
    let rules = c.args.card.now.lawful in
    record { outputs_are_nets = λ i d h. below_at 256 c.outputs.result.now i d (ap (all_below 256) c.outputs.ensures.are_the_outputs ∙ below_weaken (nets card) 256 card.outputs rules.nets_fit rules.outputs_declared) h }

pub returns : goal.returns
returns c =
    let card = netlist_of c.args.card.now in
    record {
      says_it_of_every_vector_that_has_these_good_nets = λ v g.
          catches_read card c.args.stuck v c.args.good.now c.walk_stuck.new.nets c.outputs.result.now c.opposite_somewhere.result c.args.card.now.lawful c.outputs.ensures.are_the_outputs g
          (c.walk_stuck.ensures.good_nets_become_the_faulty_ones (start card.inputs v) (length_cells v 0 card.inputs) g) c.opposite_somewhere.ensures.says_whether_some_are_opposite;
    }

-- The good walk, from the cells that were entered.
use Rattle.std.proofs.Common.{None, ap, ◌∙◌}
use Rattle.card.specs.Views.{netlist_of}
use Rattle.signal.specs.Ternaries.{ternary_operations}
use Rattle.signal.specs.Walks.{net_values}
use Rattle.faults.proofs.catching.good_nets.Goals as goal

pub returns : goal.returns
returns c = record { begins_with_the_good_nets = c.walk.ensures.every_net_has_its_value ∙ ap (net_values ternary_operations None (netlist_of c.args.card.now)) c.enter.ensures.enters_the_cells }

use Rattle.std.proofs.Common.{map, ap, ◌∙◌}
use Rattle.vectors.specs.Views.{cells_of}
use Rattle.card.specs.Views.{netlist_of}
use Rattle.faults.specs.Sites.{fault_count}
use Rattle.job.proofs.Tabled.{new_seen}
use Rattle.job.proofs.table.Table.open.Goals as goal

pub returns-clause-is_new : goal.returns-clause-is_new
returns-clause-is_new c =
    new_seen c.in_ok-states.states.items (map cells_of c.in_ok-vectors.vectors.items) c.fault_count-count.result (netlist_of c.args.card) (c.in_ok-states.ensures.items_if_clones_equal (λ y e. e)) (c.fault_count-count.ensures.counts_the_faults ∙ ap fault_count c.in_ok-faults.ensures.holds_the_card) (ap (map cells_of) c.in_ok-vectors.ensures.items)

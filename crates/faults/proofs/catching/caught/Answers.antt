-- Where the fault changes no net the answer is no.
use Rattle.card.specs.Views.{netlist_of}
use Rattle.faults.proofs.Caught.{unexcited_uncaught}
use Rattle.faults.proofs.catching.caught.Goals as goal

pub returns-else-excited : goal.returns-else-excited
returns-else-excited c =
    record { says_it_of_every_vector_that_has_these_good_nets = λ v g. unexcited_uncaught (netlist_of c.args.card.now) c.args.stuck v c.excited.result (c.excited.ensures.tells_whether_some_net_changes v g) c.if-excited.false }

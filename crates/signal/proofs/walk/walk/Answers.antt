-- The walk over all gates, from the inputs that were entered; both promises follow from the values by `carried`.
use Rattle.std.proofs.Common.{length, take, ◌∙◌}
use Rattle.card.specs.Views.{netlist_of}
use Rattle.card.specs.Netlists.{nets}
use Rattle.signal.specs.Laws.{Only}
use Rattle.signal.proofs.Keeping.{carried, gate_laws}
use Rattle.signal.proofs.Meant.{bits_mean}
use Rattle.signal.proofs.Steps.{walked_all, rest_all}
use Rattle.signal.proofs.walk.walk.Goals as goal

pub returns : goal.returns
returns g c =
    let o = g.S.Signal.operations in
    let t = c.args.stuck in
    let card = netlist_of c.args.card.now in
    let k = card.inputs in
    let r = c.inputs.result in
    let entry = c.args.nets.now in
    let start = c.enter_stuck_input.new.nets in
    let exit = c.walk_gates.new.nets in
    let w = walked_all o t exit start entry k r (nets card) card.gates c.inputs.ensures.counts_the_inputs c.walk_gates.ensures.goes_on_from_the_nets_before c.enter_stuck_input.ensures.inputs_are_entered in
    record {
      array_keeps_its_length = c.walk_gates.ensures.array_keeps_its_length ∙ c.enter_stuck_input.ensures.array_keeps_its_length;
      every_net_has_its_value = w;
      entries_behind_the_nets_stay =
          c.walk_gates.ensures.entries_behind_the_nets_stay ∙ rest_all start entry k r (length card.gates) c.inputs.ensures.counts_the_inputs c.enter_stuck_input.ensures.entries_behind_the_inputs_stay;
      every_net_allows_what_allowed_inputs_make = λ l h. carried o (λ x. g.S.Signal.allows x l) (g.met.S.Signal.sound l h) t card (take k entry) (take (nets card) exit) w;
      definite_inputs_make_every_net_definite = λ l h. carried o (Only (λ x. g.S.Signal.allows x l)) (g.met.S.Signal.definite l h) t card (take k entry) (take (nets card) exit) w;
      at_bits_each_function_means_its_name = bits_mean;
      every_gate_keeps_the_laws_of_its_kind = λ l h. gate_laws g.S.Signal.operations (λ x. g.S.Signal.allows x l) (g.met.S.Signal.sound l h) (g.met.S.Signal.definite l h);
    }

-- An input's net by `stuck_input_value`, a gate's by `stuck_gate_value`.
use Rattle.std.proofs.Common.{◌≡◌, ◌+◌, ◌-◌, ◌<◌, length, get_or, Some, sym, ap, ap₂, ◌∙◌, arith}
use Rattle.std.proofs.lemmas.Grind.{common_steps}
use Rattle.card.specs.declared.gate.Gate.{Gate}
use Rattle.card.specs.Views.{netlist_of}
use Rattle.signal.specs.Walks.{gate_net, net_values, unless_stuck}
use Rattle.signal.proofs.Begun.{stuck_gate_value, stuck_input_value}
use Rattle.signal.proofs.walk.stuck_value.Goals as goal

pub returns-then-net-inputs-clause-is_the_nets_value_where_the_line_sticks : goal.returns-then-net-inputs-clause-is_the_nets_value_where_the_line_sticks
returns-then-net-inputs-clause-is_the_nets_value_where_the_line_sticks g c =
    λ xs d fits e.
    let o = g.S.Signal.operations in
    let s = c.args.stuck in
    let card = netlist_of c.args.card.now in
    let n = c.net-net.result in
    let within : n < card.inputs = omega (arith, c.if-net-inputs.true, c.inputs-inputs.ensures.counts_the_inputs) in
    c.unless_stuck.ensures.is_the_level_or_the_value
    ∙ ap (λ b. unless_stuck o (Some s) b (get_or c.args.good.now n c.index-good-net.result)) c.sticks_net-sticks.ensures.tells_whether_the_net_sticks
    ∙ stuck_input_value o s card xs fits c.args.good.now n d c.index-good-net.result e within ∙ ap (λ m. get_or (net_values o (Some s) card xs) m d) c.net-net.ensures.is_the_lines_net

pub returns-clause-is_the_nets_value_where_the_line_sticks : goal.returns-clause-is_the_nets_value_where_the_line_sticks
returns-clause-is_the_nets_value_where_the_line_sticks g c =
    λ xs d fits e.
    let o = g.S.Signal.operations in
    let s = c.args.stuck in
    let card = netlist_of c.args.card.now in
    let n = c.net-net.result in
    let i = n - c.inputs-inputs.result in
    let gate : Gate = c.in_ok-gate.gate.now in
    let all = c.gates.ensures.are_the_gates in
    let within : i < length c.gates.result.now = grind (arith, common_steps) in
    let own : gate ≡ get_or c.gates.result.now i gate = grind (arith, common_steps) in
    let place : n ≡ card.inputs + i = omega (arith, c.if-net-inputs.false, c.inputs-inputs.ensures.counts_the_inputs) in
    c.value.ensures.is_the_nets_value ∙ ap₂ (λ m h. gate_net o (Some s) c.args.good.now m h) place (own ∙ ap (λ gs. get_or gs i gate) all)
    ∙ stuck_gate_value o s card xs fits c.args.card.now.lawful c.args.good.now i gate d e (omega (arith, within, ap length all)) (sym c.net-net.ensures.is_the_lines_net ∙ place)
    ∙ ap (λ m. get_or (net_values o (Some s) card xs) m d) (sym place ∙ c.net-net.ensures.is_the_lines_net)

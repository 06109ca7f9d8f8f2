-- The invariant is taken one gate on by `walked_more`; behind the last gate the walk is done.
use Rattle.std.proofs.Common.{◌≡◌, ◌+◌, ◌<◌, length, drop, take, sym, ap, ◌∙◌, arith, length-drop, length-set}
use Rattle.card.specs.Views.{netlist_of}
use Rattle.card.specs.Netlists.{nets}
use Rattle.signal.proofs.Steps.{ordered_at, ordered_from, walked_more, walked_end, rest_more}
use Rattle.signal.proofs.walk.walk_gates.Goals as goal

pub loop-i-preserved : goal.loop-i-preserved
loop-i-preserved g c =
    let card = netlist_of c.args.card.now in
    let m = c.args.first in
    let r = c.inputs.result + m in
    let i = c.loop-i.i in
    let items = c.gates_from-gate-items.result.now in
    let ei : items ≡ drop m card.gates = c.gates_from-gate-items.ensures.are_the_gates_from_there in
    let room : r + i < length c.loop-i.nets =
    omega (arith, length-drop m card.gates, ap length ei, c.inputs.ensures.counts_the_inputs, c.args.card.now.lawful.nets_fit, c.loop-i.invariant.0, c.loop-i-test.true, c.requires.begins_within_the_gates) in
    let ordered =
    ordered_at (card.inputs + m) r i (drop m card.gates) items _ (ap (λ n. n + m) c.inputs.ensures.counts_the_inputs) ei c.loop-i-test.true (ordered_from card.inputs m card.gates c.args.card.now.lawful.ordered) in (
      simp length-set c.loop-i.invariant.0,
      walked_more g.S.Signal.operations c.args.stuck c.loop-i.nets r i items _ c.value.result c.loop-i-test.true room ordered c.value.ensures.is_the_nets_value ∙ c.loop-i.invariant.1,
      rest_more c.loop-i.nets c.args.nets.now r i c.value.result c.loop-i.invariant.2,
    )

pub returns : goal.returns
returns g c =
    let card = netlist_of c.args.card.now in
    let m = c.args.first in
    let k = card.inputs + m in
    let r = c.inputs.result + m in
    let i = c.loop-i.i in
    let items = c.gates_from-gate-items.result.now in
    let gs = drop m card.gates in
    let er : r ≡ k = ap (λ n. n + m) c.inputs.ensures.counts_the_inputs in
    let ei : items ≡ gs = c.gates_from-gate-items.ensures.are_the_gates_from_there in
    let all : nets card ≡ k + length gs = let e = length-drop m card.gates in omega (arith, c.requires.begins_within_the_gates) in
    let behind : nets card ≡ r + i = omega (arith, all, er, ap length ei) in
    record {
      array_keeps_its_length = c.loop-i.invariant.0;
      goes_on_from_the_nets_before = ap (λ n. take n c.loop-i.nets) all ∙ walked_end g.S.Signal.operations c.args.stuck c.loop-i.nets c.args.nets.now k r i gs items er ei (omega arith) c.loop-i.invariant.1;
      entries_behind_the_nets_stay = ap (λ n. drop n c.loop-i.nets) behind ∙ c.loop-i.invariant.2 ∙ ap (λ n. drop n c.args.nets.now) (sym behind);
    }

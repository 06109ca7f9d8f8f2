-- A net that the card does not have changes none; else the value at the line's net decides.
use Rattle.std.proofs.Common.{◌≡◌, ◌<◌, sym, arith, ltb-false, ltb-true}
use Rattle.std.proofs.lemmas.Bool.{false≢true}
use Rattle.card.specs.Netlists.{nets}
use Rattle.card.specs.Views.{netlist_of}
use Rattle.signal.specs.Walks.{net_of}
use Rattle.vectors.specs.Vectors.{start}
use Rattle.vectors.proofs.Fillings.{length_cells}
use Rattle.faults.proofs.Caught.{changes_at_the_line, no_net_no_change}
use Rattle.faults.proofs.catching.excited.Goals as goal

pub returns-in_default : goal.returns-in_default
returns-in_default c =
    let card = netlist_of c.args.card.now in
    let s = c.args.stuck in
    record {
      tells_whether_some_net_changes = λ v g. (
        λ t. absurd (false≢true t),
        λ q. absurd (q (no_net_no_change card s v c.args.card.now.lawful (ltb-false (net_of s.line) (nets card) (sym c.in_default.ensures.answered_exactly_if_the_card_has_the_net)))),
      );
    }

pub returns : goal.returns
returns c =
    let card = netlist_of c.args.card.now in
    let s = c.args.stuck in
    let k = c.net-net.result in
    let at : k ≡ net_of s.line = c.net-net.ensures.is_the_lines_net in
    let h : net_of s.line < nets card = ltb-true (net_of s.line) (nets card) (sym c.in-Some.ensures.answered_exactly_if_the_card_has_the_net) in
    let within : k < nets card = omega (arith, at, h) in
    record {
      tells_whether_some_net_changes = λ v g.
          changes_at_the_line card s v c.args.good.now c.in-Some.value _ k 256 c.differ.result c.args.card.now.lawful g at within
          (λ e. c.in-Some.ensures.is_the_nets_value_where_the_line_sticks (start card.inputs v) e (length_cells v 0 card.inputs) g)
          (omega (arith, within, c.args.card.now.lawful.nets_fit)) c.told-good c.differ.ensures.says_whether_they_differ;
    }

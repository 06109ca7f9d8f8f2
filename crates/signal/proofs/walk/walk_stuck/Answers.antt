-- The good card's nets before the line's net are those of the faulty card too, so the walk goes on from them (`begun_walk`);
-- both promises follow from the values by `carried`.
use Rattle.std.proofs.Common.{◌≡◌, ℕ, ◌+◌, ◌≤◌, ◌⊎◌, inl, inr, List, length, take, drop, None, Some, ap, ◌∙◌, subst, ⊎_elim, arith}
use Rattle.std.proofs.lemmas.Bool.{cases_lt}
use Rattle.card.specs.Views.{netlist_of}
use Rattle.card.specs.Netlists.{nets}
use Rattle.signal.specs.Laws.{Only}
use Rattle.signal.specs.Walks.{entered, net_of, net_values}
use Rattle.signal.proofs.Begun.{begun_walk}
use Rattle.signal.proofs.Keeping.{carried}
use Rattle.signal.proofs.Steps.{rest_all}
use Rattle.signal.proofs.walk.walk_stuck.Goals as goal

pub returns : goal.returns
returns g c =
    let o = g.S.Signal.operations in
    let s = c.args.stuck in
    let card = netlist_of c.args.card.now in
    let k = card.inputs in
    let r = c.inputs-inputs.result in
    let old = c.args.nets.now in
    let mid = c.enter_stuck_input.new.nets in
    let exit = c.walk_gates.new.nets in
    let counted = c.inputs-inputs.ensures.counts_the_inputs in
    let gs = c.gates.result.now in
    let m = c.min.result in
    let few : m ≤ length card.gates = omega (arith, ap length c.gates.ensures.are_the_gates) in
    let at : (m ≡ 0) ⊎ (k + m ≤ net_of s.line) = ⊎_elim {C = (m ≡ 0) ⊎ (k + m ≤ net_of s.line)} (λ h. inr (omega (arith, counted, c.net.ensures.is_the_lines_net, h))) (λ h. inl (omega (arith, counted, c.net.ensures.is_the_lines_net, h))) (cases_lt k (net_of s.line)) in
    let front : take k mid ≡ entered o (Some s) 0 (take k old) = subst (λ (n : ℕ). take n mid ≡ entered o (Some s) 0 (take n old)) counted c.enter_stuck_input.ensures.inputs_are_entered in
    let rest : drop k mid ≡ drop k old = subst (λ (n : ℕ). drop n mid ≡ drop n old) counted c.enter_stuck_input.ensures.entries_behind_the_inputs_stay in
    let made : (xs : List _) → length xs ≡ k → take (nets card) old ≡ net_values o None card xs → take (nets card) exit ≡ net_values o (Some s) card xs =
    λ xs fits good. begun_walk o s card xs fits mid old exit m (nets card) c.walk_gates.ensures.goes_on_from_the_nets_before good front rest few at in
    record {
      array_keeps_its_length = c.walk_gates.ensures.array_keeps_its_length ∙ c.enter_stuck_input.ensures.array_keeps_its_length;
      good_nets_become_the_faulty_ones = made;
      entries_behind_the_nets_stay = c.walk_gates.ensures.entries_behind_the_nets_stay ∙ rest_all mid old k r (length card.gates) counted c.enter_stuck_input.ensures.entries_behind_the_inputs_stay;
      every_net_allows_what_allowed_inputs_make = λ xs fits good l h. carried o (λ x. g.S.Signal.allows x l) (g.met.S.Signal.sound l h) (Some s) card xs (take (nets card) exit) (made xs fits good);
      definite_inputs_make_every_net_definite = λ xs fits good l h. carried o (Only (λ x. g.S.Signal.allows x l)) (g.met.S.Signal.definite l h) (Some s) card xs (take (nets card) exit) (made xs fits good);
    }

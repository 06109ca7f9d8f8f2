use Rattle.std.proofs.Common.{ℕ, ◌+◌, ◌-◌, ◌≤◌, length, get_or, take, drop, pos, sym, ap, ◌∙◌, arith, w16, SFits, rules}
use Rattle.std.proofs.lemmas.Int.{to_z-of_z}
use Rattle.solving.specs.declared.state.State.{State}
use Rattle.solving.specs.States.{state_of, joined}
use Rattle.propagation.specs.Scanning.{or_later, foremost, clauses_from}
use Rattle.propagation.proofs.Parts.{combined}
use Rattle.propagation.proofs.Scanned.{scan_more, scan_done, ends_le, ends_clause, scan_clause, scan_end}
use Rattle.propagation.proofs.Rows.{ends_drop, clauses_drop}
use Rattle.propagation.proofs.scan.scan.Goals as goal

pub loop-c-init : goal.loop-c-init
loop-c-init c =
    let row = c.args.clauses.literals.now in
    let ends = c.args.clauses.ends.now in
    let e = c.start_of-from.ensures.is_its_start in (
      rw e (ends_drop row 0 ends c.args.first c.requires.inside c.requires.ended),
      ap (λ (n : ℕ). foremost c.args.values.now c.args.first (clauses_from row n (drop c.args.first ends))) e ∙ ap (foremost c.args.values.now c.args.first) (sym (clauses_drop row 0 ends c.args.first c.requires.inside)),
    )

pub offset_bounds-literals-from : goal.offset_bounds-literals-from
offset_bounds-literals-from c =
    let row = c.args.clauses.literals.now in
    let e = ends_clause row c.loop-c.from c.loop-c.c c.args.clauses.ends.now c.loop-c-test.true c.loop-c.invariant.0 in
    let h = ends_le row _ _ e.1 in
    let g : c.loop-c.from ≤ length row = omega (arith, e.0, h) in
    search rules

pub slice_bounds-clause-end : goal.slice_bounds-clause-end
slice_bounds-clause-end c =
    let row = c.args.clauses.literals.now in
    let e = ends_clause row c.loop-c.from c.loop-c.c c.args.clauses.ends.now c.loop-c-test.true c.loop-c.invariant.0 in
    let a = e.0 in
    let h = ends_le row _ _ e.1 in
    search rules

pub loop-literal-preserved : goal.loop-literal-preserved
loop-literal-preserved c =
    let v = c.args.values.now in
    let xs = take (get_or c.args.clauses.ends.now c.loop-c.c 0 - c.loop-c.from) (drop c.loop-c.from c.args.clauses.literals.now) in
    let i = c.loop-literal.literal-index in
    let l = get_or xs i (pos 0) in
    let f : SFits w16 l = search rules in
    let e1 = simp to_z-of_z at c.join-state.ensures.joins_the_literal in
    let e2 = simp to_z-of_z at c.value_of.ensures.is_the_literals_value in
    let h = scan_more v xs i c.loop-literal.state _ c.loop-literal-test.true c.loop-literal.invariant in
    ap (λ (x : State). combined x (state_of v (drop (i + 1) xs))) (e1 ∙ ap (λ o. joined o l c.loop-literal.state) e2) ∙ h

pub loop-c-preserved : goal.loop-c-preserved
loop-c-preserved c =
    let v = c.args.values.now in
    let row = c.args.clauses.literals.now in
    let ends = c.args.clauses.ends.now in
    let e = ends_clause row c.loop-c.from c.loop-c.c ends c.loop-c-test.true c.loop-c.invariant.0 in
    let d = scan_done v (take (get_or ends c.loop-c.c 0 - c.loop-c.from) (drop c.loop-c.from row)) c.loop-literal.literal-index c.loop-literal.state _ c.loop-literal-test.false c.loop-literal.invariant in
    let s = scan_clause v row c.loop-c.from c.loop-c.c ends c.loop-c-test.true in
    (e.1, ap (λ (x : State). or_later c.loop-c.c x (foremost v (c.loop-c.c + 1) (clauses_from row (get_or ends c.loop-c.c 0) (drop (c.loop-c.c + 1) ends)))) (sym c.in-Other.is ∙ d) ∙ sym s ∙ c.loop-c.invariant.1)

pub returns-in-Broken : goal.returns-in-Broken
returns-in-Broken c =
    let v = c.args.values.now in
    let row = c.args.clauses.literals.now in
    let ends = c.args.clauses.ends.now in
    let d = scan_done v (take (get_or ends c.loop-c.c 0 - c.loop-c.from) (drop c.loop-c.from row)) c.loop-literal.literal-index c.loop-literal.state _ c.loop-literal-test.false c.loop-literal.invariant in
    let s = scan_clause v row c.loop-c.from c.loop-c.c ends c.loop-c-test.true in
    record { is_the_first_such_clause = ap (λ (x : State). or_later c.loop-c.c x (foremost v (c.loop-c.c + 1) (clauses_from row (get_or ends c.loop-c.c 0) (drop (c.loop-c.c + 1) ends)))) (sym c.in-Broken.is ∙ d) ∙ sym s ∙ c.loop-c.invariant.1 }

pub returns-in-Lone : goal.returns-in-Lone
returns-in-Lone c =
    let v = c.args.values.now in
    let row = c.args.clauses.literals.now in
    let ends = c.args.clauses.ends.now in
    let d = scan_done v (take (get_or ends c.loop-c.c 0 - c.loop-c.from) (drop c.loop-c.from row)) c.loop-literal.literal-index c.loop-literal.state _ c.loop-literal-test.false c.loop-literal.invariant in
    let s = scan_clause v row c.loop-c.from c.loop-c.c ends c.loop-c-test.true in
    let f : SFits w16 c.in-Lone.literal = search rules in
    record { is_the_first_such_clause = simp to_z-of_z (ap (λ (x : State). or_later c.loop-c.c x (foremost v (c.loop-c.c + 1) (clauses_from row (get_or ends c.loop-c.c 0) (drop (c.loop-c.c + 1) ends)))) (sym c.in-Lone.is ∙ d) ∙ sym s ∙ c.loop-c.invariant.1) }

pub returns-after-loop-c : goal.returns-after-loop-c
returns-after-loop-c c = record { is_the_first_such_clause = sym (scan_end c.args.values.now c.args.clauses.literals.now c.loop-c.from c.loop-c.c c.loop-c.c c.args.clauses.ends.now c.loop-c-test.false) ∙ c.loop-c.invariant.1 }

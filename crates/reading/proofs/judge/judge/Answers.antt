use Rattle.std.proofs.Common.{rules, ◌≡◌, true, false, eqb, sym, ap, ◌∙◌}
use Rattle.std.specs.List.{list_any}
use Rattle.reading.specs.Commands.{stands}
use Rattle.reading.proofs.Standing.{any_stands}
use Rattle.reading.proofs.judge.judge.Goals as goal

pub returns-then-contains : goal.returns-then-contains
returns-then-contains c =
    let n = c.in-AddOutput-2.net in
    let os = c.args.draft.now.outputs.items in
    let s : stands n os ≡ true = sym (any_stands n os) ∙ ap (list_any (λ y. eqb y n)) (sym c.deref.ensures.0) ∙ sym c.contains.ensures.value ∙ c.if-contains.true in
    search rules

pub returns-else-contains : goal.returns-else-contains
returns-else-contains c =
    let n = c.in-AddOutput-2.net in
    let os = c.args.draft.now.outputs.items in
    let s : stands n os ≡ false = sym (any_stands n os) ∙ ap (list_any (λ y. eqb y n)) (sym c.deref.ensures.0) ∙ sym c.contains.ensures.value ∙ c.if-contains.false in
    search rules

-- The reader's promises, from what its definition reads and from the agreement of definition and rules.
use Rattle.std.proofs.Common.{Ok, sym, ap, ◌∙◌, arith}
use Rattle.std.proofs.lemmas.Result.{err_from_is_err_and}
use Rattle.reading.specs.Refusals.{refusal_number}
use Rattle.reading.specs.Rules.{Bytes}
use Rattle.reading.proofs.Lawfully.{no_rule_zero, reading_lawful}
use Rattle.reading.proofs.Ruled.{agree}
use Rattle.reading.proofs.read.from_bytes.Goals as goal

pub returns-in_err-gather-clause-a_refusal_names_the_first_broken_rule_and_its_place : goal.returns-in_err-gather-clause-a_refusal_names_the_first_broken_rule_and_its_place
returns-in_err-gather-clause-a_refusal_names_the_first_broken_rule_and_its_place c =
    let p = err_from_is_err_and c.from_residual.result c.from_residual.ensures.1 in
    rw (p.1, p.2) (λ _. agree.refuses c.args.bytes.now (λ i. omega (arith, c.type_inv.bytes i)) _ c.in_err-gather.ensures.holds_what_the_bytes_say)

pub returns-in_err-gather-clause-want_of_memory_refuses_only_bytes_that_spell_a_card : goal.returns-in_err-gather-clause-want_of_memory_refuses_only_bytes_that_spell_a_card
returns-in_err-gather-clause-want_of_memory_refuses_only_bytes_that_spell_a_card c =
    let bs = c.args.bytes.now in
    let f = agree.refuses bs (λ i. omega (arith, c.type_inv.bytes i)) _ c.in_err-gather.ensures.holds_what_the_bytes_say in
    let p = err_from_is_err_and c.from_residual.result c.from_residual.ensures.1 in
    rw (p.1, p.2) (λ m. absurd (no_rule_zero bs _ _ f (ap refusal_number m)))

pub card_of-requires : goal.card_of-requires
card_of-requires c = reading_lawful c.args.bytes.now _ (λ i. omega (arith, c.type_inv.bytes i)) c.in_ok-gather.ensures.holds_what_the_bytes_say

pub returns-in_err-spelled_card-clause-want_of_memory_refuses_only_bytes_that_spell_a_card : goal.returns-in_err-spelled_card-clause-want_of_memory_refuses_only_bytes_that_spell_a_card
returns-in_err-spelled_card-clause-want_of_memory_refuses_only_bytes_that_spell_a_card c =
    let y : Bytes c.args.bytes.now = λ i. omega (arith, c.type_inv.bytes i) in
    let p = err_from_is_err_and c.from_residual-in_err-spelled_card.result c.from_residual-in_err-spelled_card.ensures.1 in
    rw (p.1, p.2) (λ _. (_, agree.accepts c.args.bytes.now y _ c.in_ok-gather.ensures.holds_what_the_bytes_say))

pub returns-clause-accepted_bytes_spell_the_card : goal.returns-clause-accepted_bytes_spell_the_card
returns-clause-accepted_bytes_spell_the_card c =
    agree.accepts c.args.bytes.now (λ i. omega (arith, c.type_inv.bytes i)) _ (c.in_ok-gather.ensures.holds_what_the_bytes_say ∙ ap Ok (sym c.in_ok-spelled_card.ensures.holds_the_draft))

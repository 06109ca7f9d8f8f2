-- The reader's loop: what is left to read gives what the whole gives.
use Rattle.std.proofs.Common.{Ok, sym, ap, ◌∙◌}
use Rattle.std.proofs.lemmas.List.{take_rest}
use Rattle.std.proofs.lemmas.Result.{err_from_is_err_and}
use Rattle.std.proofs.lemmas.Option.{MatchOption-at_some}
use Rattle.reading.specs.Drafts.{draft_of}
use Rattle.reading.proofs.Steps.{loop_more, loop_done, loop_bad, stepped_some, stepped_none}
use Rattle.reading.proofs.read.gather.Goals as goal

pub returns-in_err-size : goal.returns-in_err-size
returns-in_err-size c =
    let i = c.loop-size.invariant.1 in
    let p = err_from_is_err_and c.from_residual.result c.from_residual.ensures.1 in
    rw (p.1, p.2) (record { holds_what_the_bytes_say = loop_bad c.args.bytes.now _ c.loop-size.at (draft_of c.loop-size.draft) (take_rest c.args.bytes.now c.loop-size.at) _ i.0 _ i.1 i.2 c.in_err-size.ensures.goes_one_command_on })

pub loop-size-preserved : goal.loop-size-preserved
loop-size-preserved c =
    let i = c.loop-size.invariant in
    let h = MatchOption-at_some _ _ _ c.in-Some.is c.in_ok-size.ensures.stays_within_the_bytes in
    loop_more c.args.bytes.now _ c.loop-size.at (draft_of c.loop-size.draft) (take_rest c.args.bytes.now c.loop-size.at) _ i.1.0 _ _ i.0 i.1.1 i.1.2 h.0 h.1
    (stepped_some _ _ _ _ _ c.in-Some.is c.in_ok-size.ensures.goes_one_command_on)

pub returns : goal.returns
returns c =
    let i = c.loop-size.invariant.1 in
    let h = stepped_none _ _ _ _ c.in_default.not-Some c.in_ok-size.ensures.goes_one_command_on in
    record { holds_what_the_bytes_say = loop_done c.args.bytes.now _ c.loop-size.at (draft_of c.loop-size.draft) (take_rest c.args.bytes.now c.loop-size.at) _ i.0 i.1 i.2 h.0 ∙ ap Ok (sym h.1) }

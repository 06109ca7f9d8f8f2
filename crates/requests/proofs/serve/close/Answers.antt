use Rattle.std.proofs.Common.{arith}
use Rattle.requests.proofs.Answered.{close_granted, close_idle, close_refused}
use Rattle.requests.proofs.serve.close.Goals as goal

pub returns-then-place-len-clause-served : goal.returns-then-place-len-clause-served
returns-then-place-len-clause-served c m = close_idle _ _ _ _ m c.args.place (omega arith)

pub returns-in-Ok-clause-served : goal.returns-in-Ok-clause-served
returns-in-Ok-clause-served c m = close_granted _ _ _ _ _ m c.args.place c.remove-ticket.result (omega arith) c.remove-ticket.ensures.value _ c.remove-ticket.ensures.items c.in-Ok.ensures.is_a_step_of_the_history

pub returns-in-Err-clause-served : goal.returns-in-Err-clause-served
returns-in-Err-clause-served c m =
    rw c.from.ensures
    (close_refused _ _ _ _ _ m c.args.place c.remove-ticket.result (omega arith) c.remove-ticket.ensures.value _ _ _ _ c.remove-ticket.ensures.items c.in-Err.ensures.a_refusal_hands_the_ticket_back
    c.put_back.ensures.stands_at_its_place c.in-Err.ensures.is_a_step_of_the_history)

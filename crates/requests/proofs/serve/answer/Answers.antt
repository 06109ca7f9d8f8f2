use Rattle.std.proofs.Common.{◌≡◌, ◌<◌, ◌≤◌, List, length, get_or, Ok, Err, subst}
use Rattle.job.specs.declared.ticket.Ticket.{Ticket}
use Rattle.requests.proofs.Answered.{add_served, close_any_way, merge_served, refusal_carried, search_idle, search_served, sweep_served, take_granted, take_refused}
use Rattle.requests.proofs.serve.answer.Goals as goal

pub returns-in_err-take-in-Take-clause-served : goal.returns-in_err-take-in-Take-clause-served
returns-in_err-take-in-Take-clause-served g c = refusal_carried _ c.in-Take.is c.from_residual.ensures.1 (take_refused _ _ _ _ _ _ c.in-Take.fault _ c.in_err-take-in-Take.ensures.is_a_step_of_the_history)

pub returns-in_default-clause-served : goal.returns-in_default-clause-served
returns-in_default-clause-served g c = rw c.in-Search.is (search_idle _ _ _ _ _ c.in-Search.place (subst (λ (xs : List Ticket). length xs ≤ c.in-Search.place) c.deref.ensures.value c.in_default.ensures.lookup.3) c.in-Search.budget)

pub returns-in_err-search-in-Search-clause-served : goal.returns-in_err-search-in-Search-clause-served
returns-in_err-search-in-Search-clause-served g c =
    refusal_carried _ c.in-Search.is c.from_residual-in_err-search-in-Search.ensures.1
    (search_served g.S.Answering.answering _ _ _ _ _ c.in-Search.place c.in-Some.ticket.now (subst (λ (xs : List Ticket). c.in-Search.place < length xs) c.deref.ensures.value c.in-Some.ensures.lookup.3.0) (subst (λ (xs : List Ticket). c.in-Some.ticket.now ≡ get_or xs c.in-Search.place c.in-Some.ticket.now) c.deref.ensures.value c.in-Some.ensures.lookup.1) _ c.in-Search.budget (Err _) c.in_err-search-in-Search.ensures.is_a_step_of_the_history c.in_err-search-in-Search.ensures.the_solvers_answer_is_entered_or_a_refusal_changes_neither_job_nor_solver
    c.in_err-search-in-Search.ensures.the_solver_answered_in_its_own_way)

pub returns-in_err-sweep-in-Sweep-clause-served : goal.returns-in_err-sweep-in-Sweep-clause-served
returns-in_err-sweep-in-Sweep-clause-served g c = refusal_carried _ c.in-Sweep.is c.from_residual-in_err-sweep-in-Sweep.ensures.1 (sweep_served _ _ _ _ _ _ c.in-Sweep.vector (Err _) c.in_err-sweep-in-Sweep.ensures.is_a_step_of_the_history)

pub returns-in_err-add-in-Add-clause-served : goal.returns-in_err-add-in-Add-clause-served
returns-in_err-add-in-Add-clause-served g c = refusal_carried _ c.in-Add.is c.from_residual-in_err-add-in-Add.ensures.1 (add_served _ _ _ _ _ _ c.in-Add.care c.in-Add.value (Err _) c.in_err-add-in-Add.ensures.is_a_step_of_the_history)

pub returns-in_err-merge-in-Merge-clause-served : goal.returns-in_err-merge-in-Merge-clause-served
returns-in_err-merge-in-Merge-clause-served g c = refusal_carried _ c.in-Merge.is c.from_residual-in_err-merge-in-Merge.ensures.1 (merge_served _ _ _ _ _ _ c.in-Merge.into c.in-Merge.gone (Err _) c.in_err-merge-in-Merge.ensures.is_a_step_of_the_history)

pub returns-in_ok-take-in-Take-clause-served : goal.returns-in_ok-take-in-Take-clause-served
returns-in_ok-take-in-Take-clause-served g c =
    rw c.in-Take.is (take_granted _ _ _ _ _ _ _ c.in-Take.fault c.in_ok-take-in-Take.field-0 c.in_ok-take-in-Take.ensures.the_ticket_is_for_the_fault c.push_reserved.ensures.items c.in_ok-take-in-Take.ensures.is_a_step_of_the_history)

pub returns-in_ok-search-in-Search-clause-served : goal.returns-in_ok-search-in-Search-clause-served
returns-in_ok-search-in-Search-clause-served g c =
    rw c.in-Search.is (search_served g.S.Answering.answering _ _ _ _ _ c.in-Search.place c.in-Some.ticket.now (subst (λ (xs : List Ticket). c.in-Search.place < length xs) c.deref.ensures.value c.in-Some.ensures.lookup.3.0) (subst (λ (xs : List Ticket). c.in-Some.ticket.now ≡ get_or xs c.in-Search.place c.in-Some.ticket.now) c.deref.ensures.value c.in-Some.ensures.lookup.1) _ c.in-Search.budget (Ok _) c.in_ok-search-in-Search.ensures.is_a_step_of_the_history c.in_ok-search-in-Search.ensures.the_solvers_answer_is_entered_or_a_refusal_changes_neither_job_nor_solver
    c.in_ok-search-in-Search.ensures.the_solver_answered_in_its_own_way)

pub returns-in-Close-clause-served : goal.returns-in-Close-clause-served
returns-in-Close-clause-served g c = rw c.in-Close.is (close_any_way _ g.S.Answering.answering _ _ _ _ _ c.in-Close.place _ _ _ (c.close.ensures.served _))

pub returns-in_ok-sweep-in-Sweep-clause-served : goal.returns-in_ok-sweep-in-Sweep-clause-served
returns-in_ok-sweep-in-Sweep-clause-served g c = rw c.in-Sweep.is (sweep_served _ _ _ _ _ _ c.in-Sweep.vector (Ok _) c.in_ok-sweep-in-Sweep.ensures.is_a_step_of_the_history)

pub returns-in_ok-add-in-Add-clause-served : goal.returns-in_ok-add-in-Add-clause-served
returns-in_ok-add-in-Add-clause-served g c = rw c.in-Add.is (add_served _ _ _ _ _ _ c.in-Add.care c.in-Add.value (Ok _) c.in_ok-add-in-Add.ensures.is_a_step_of_the_history)

pub returns-in_ok-merge-in-Merge-clause-served : goal.returns-in_ok-merge-in-Merge-clause-served
returns-in_ok-merge-in-Merge-clause-served g c = rw c.in-Merge.is (merge_served _ _ _ _ _ _ c.in-Merge.into c.in-Merge.gone (Ok _) c.in_ok-merge-in-Merge.ensures.is_a_step_of_the_history)

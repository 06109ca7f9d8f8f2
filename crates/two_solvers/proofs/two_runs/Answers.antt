use Rattle.std.proofs.Common.{vec_items, ◌∙◌}
use Rattle.two_solvers.proofs.Joins.{if_made, if_not}
use Rattle.two_solvers.proofs.two_runs.Goals as goal

pub returns-clause-the_promise_holds_over_both_runs : goal.returns-clause-the_promise_holds_over_both_runs
returns-clause-the_promise_holds_over_both_runs g c =
    if_made vec_items _ _ _ _ _ _ _ _ _ _ _ _ _ _ _ _ _ c.run-second.result c.in_ok-first.ensures.the_card_stays c.in_ok-first.ensures.the_law_of_jobs_holds_over_every_history
    c.run-second.ensures.the_law_of_jobs_holds_over_every_history

pub returns-clause-without_room_for_the_second_run_the_first_was_made : goal.returns-clause-without_room_for_the_second_run_the_first_was_made
returns-clause-without_room_for_the_second_run_the_first_was_made g c =
    if_not _ _ _ _ _ _ _ _ _ _ _ _ c.run-second.result c.run-second.ensures.without_room_the_job_stays c.run-second.ensures.without_room_the_tickets_stay c.in_ok-first.ensures.the_law_of_jobs_holds_over_every_history

pub returns-clause-the_card_stays : goal.returns-clause-the_card_stays
returns-clause-the_card_stays g c = c.run-second.ensures.the_card_stays ∙ c.in_ok-first.ensures.the_card_stays

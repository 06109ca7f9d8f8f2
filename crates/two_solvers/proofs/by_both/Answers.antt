use Rattle.std.proofs.Common.{vec_items}
use Rattle.two_solvers.proofs.Joins.{both_new, each, one_new}
use Rattle.two_solvers.specs.declared.Replies.{Replies}
use Rattle.two_solvers.proofs.by_both.Goals as goal

pub returns-clause-the_promise_holds_over_both_runs : goal.returns-clause-the_promise_holds_over_both_runs
returns-clause-the_promise_holds_over_both_runs c =
    each c.two_runs.result _ _ (λ (x : Replies). both_new vec_items _ _ _ _ _ _ _ _ _ (vec_items x.first) _ _ _ _ x.second c.in_ok-backtracking.ensures.begins_fresh c.in_ok-counting.ensures.begins_fresh)
    c.two_runs.ensures.the_promise_holds_over_both_runs

pub returns-clause-without_room_for_the_second_run_the_first_was_made : goal.returns-clause-without_room_for_the_second_run_the_first_was_made
returns-clause-without_room_for_the_second_run_the_first_was_made c =
    each c.two_runs.result _ _ (λ (x : Replies). one_new _ _ _ _ _ _ _ (vec_items x.first) _ _ x.second c.in_ok-backtracking.ensures.begins_fresh)
    c.two_runs.ensures.without_room_for_the_second_run_the_first_was_made

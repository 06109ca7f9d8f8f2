use Rattle.std.proofs.Common.{◌≡◌, ◌<◌, List, map, length, sym, ap, ◌∙◌, arith}
use lib.ListN.{length-map}
use Rattle.vectors.specs.Views.{cells_of}
use Rattle.job.specs.Jobs.{card_held, held}
use Rattle.job.specs.declared.job.Job.{Job}
use Rattle.vectors.specs.Vectors.{Cells}
use Rattle.vectors.specs.declared.vector.Vector.{Vector}
use Rattle.job.proofs.Tabled.{all_flagged}
use Rattle.sheets.proofs.Worked.{after_close, swept_worked, unswept_worked}
use Rattle.sheets.proofs.work.work_on.Goals as goal

-- as many vectors as were counted
counted : (xs : List Vector) (ys : List Cells) → map cells_of xs ≡ ys → length xs ≡ length ys
counted xs ys e = sym (length-map xs cells_of) ∙ ap length e

pub returns-then-listed-vectors-clause-works_as_defined : goal.returns-then-listed-vectors-clause-works_as_defined
returns-then-listed-vectors-clause-works_as_defined c =
    let j : Job = c.args.job.now in
    let took = c.in-Ok.ensures in
    let lt : c.args.fault < length (held j).taken = omega (arith, c.requires.a_fault, all_flagged j.table) in
    let e3 = after_close (card_held j) (held j) c.args.fault took.granted_exactly_for_an_open_fault_that_is_not_taken (card_held c.take.new.self) (card_held c.search.new.self) (held c.take.new.self) (held c.search.new.self) (held c.close.new.self) c.in-Ok.ticket.fault _ _ c.search.result c.close.result
    lt took.the_fault_is_taken_or_nothing_changes took.the_card_stays took.the_ticket_is_for_the_fault
    c.search.ensures.the_solvers_answer_is_entered_or_a_refusal_changes_neither_job_nor_solver c.search.ensures.the_solver_answered_in_its_own_way
    c.close.ensures.granted_exactly_for_a_taken_fault c.close.ensures.the_fault_is_closed_or_nothing_changes in
    let listed = counted _ _ c.vectors-listed.ensures.are_the_vectors in
    let more = counted _ _ c.vectors.ensures.are_the_vectors in
    let card = c.close.ensures.the_card_stays ∙ c.search.ensures.the_card_stays ∙ took.the_card_stays in
    swept_worked (card_held j) (held j) c.args.fault took.granted_exactly_for_an_open_fault_that_is_not_taken (held c.close.new.self) e3 _ listed (card_held c.close.new.self) (held c.sweep.new.self) c.sweep.result card
    (omega (arith, c.if-listed-vectors.true, more)) c.sweep.ensures.answers_how_many_or_that_there_is_no_such_vector c.sweep.ensures.every_caught_fault_is_marked_or_nothing_changes

pub returns-else-listed-vectors-clause-works_as_defined : goal.returns-else-listed-vectors-clause-works_as_defined
returns-else-listed-vectors-clause-works_as_defined c =
    let j : Job = c.args.job.now in
    let took = c.in-Ok.ensures in
    let lt : c.args.fault < length (held j).taken = omega (arith, c.requires.a_fault, all_flagged j.table) in
    let e3 = after_close (card_held j) (held j) c.args.fault took.granted_exactly_for_an_open_fault_that_is_not_taken (card_held c.take.new.self) (card_held c.search.new.self) (held c.take.new.self) (held c.search.new.self) (held c.close.new.self) c.in-Ok.ticket.fault _ _ c.search.result c.close.result
    lt took.the_fault_is_taken_or_nothing_changes took.the_card_stays took.the_ticket_is_for_the_fault
    c.search.ensures.the_solvers_answer_is_entered_or_a_refusal_changes_neither_job_nor_solver c.search.ensures.the_solver_answered_in_its_own_way
    c.close.ensures.granted_exactly_for_a_taken_fault c.close.ensures.the_fault_is_closed_or_nothing_changes in
    let listed = counted _ _ c.vectors-listed.ensures.are_the_vectors in
    let more = counted _ _ c.vectors.ensures.are_the_vectors in
    unswept_worked (card_held j) (held j) c.args.fault took.granted_exactly_for_an_open_fault_that_is_not_taken (held c.close.new.self) e3 _ listed (omega (arith, c.if-listed-vectors.false, more))

-- The line of the fault is asked of the held nets, which are those of the good walk from the held vector.
use Rattle.std.proofs.Common.{◌≡◌, false}
use Rattle.vectors.specs.Views.{cells_of}
use Rattle.faults.specs.Catching.{catches_fault}
use Rattle.faults.specs.Views.{modelled}
use Rattle.faults.proofs.Caught.{caught_by_line, caught_by_none}
use Rattle.faults.proofs.Numbered.{fault_decided, fault_more, fault_shown, fault_shown_where}
use Rattle.faults.proofs.response.Response.catches.Goals as goal

pub returns-in_default : goal.returns-in_default
returns-in_default c =
    let self = c.args.self.now in
    let card = modelled self.faults.now in
    let f = c.args.fault in
    let v = cells_of self.vector in
    let e : false ≡ catches_fault card f v = caught_by_none card f v c.line.result c.in_default.not-Ok c.line.ensures.refused_exactly_if_there_is_no_such_fault in
    record {
      tells_whether_the_vector_catches_it = e;
      a_catch_is_shown_by_every_filling_at_one_output = fault_shown card f v false e;
      every_filling_shows_it_wherever_it_is_caught = fault_shown_where card f v;
      what_extends_the_vector_catches_too = fault_more card f v false e;
      without_free_cells_a_catch_is_a_showing = fault_decided card f v false self.faults.now.card.lawful e;
    }

pub returns : goal.returns
returns c =
    let self = c.args.self.now in
    let card = modelled self.faults.now in
    let f = c.args.fault in
    let v = cells_of self.vector in
    let r = c.caught.result in
    let e : r ≡ catches_fault card f v =
    caught_by_line card f v c.in-Ok.stuck r c.in-Ok.ensures.is_the_faults_line (c.caught.ensures.says_it_of_every_vector_that_has_these_good_nets v self.begins_with_the_good_nets) in
    record {
      tells_whether_the_vector_catches_it = e;
      a_catch_is_shown_by_every_filling_at_one_output = fault_shown card f v r e;
      every_filling_shows_it_wherever_it_is_caught = fault_shown_where card f v;
      what_extends_the_vector_catches_too = fault_more card f v r e;
      without_free_cells_a_catch_is_a_showing = fault_decided card f v r self.faults.now.card.lawful e;
    }

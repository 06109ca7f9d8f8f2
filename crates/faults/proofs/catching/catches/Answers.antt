-- What the good nets of the vector tell of the fault, and what follows of a catch.
use Rattle.std.proofs.Common.{◌≡◌, sym, ◌∙◌}
use Rattle.std.proofs.lemmas.Bool.Decides.{Decides-at}
use Rattle.card.specs.Views.{netlist_of}
use Rattle.vectors.specs.Views.{cells_of}
use Rattle.faults.proofs.Caught.{caught_shows}
use Rattle.faults.specs.Catching.{catches}
use Rattle.faults.proofs.Caught.{catch_shown, fixed_catches}
use Rattle.faults.proofs.Refined.{catches_more}
use Rattle.faults.proofs.catching.catches.Goals as goal

pub returns : goal.returns
returns c =
    let card = netlist_of c.args.card.now in
    let v = cells_of c.args.vector.now in
    let s = c.args.stuck in
    let r = c.caught.result in
    let e : r ≡ catches card s v = c.caught.ensures.says_it_of_every_vector_that_has_these_good_nets v c.good_nets.ensures.begins_with_the_good_nets in
    record {
      says_whether_good_and_faulty_are_opposite_at_an_output = e;
      a_catch_is_shown_by_every_filling_at_one_output = λ t. catch_shown card s v (sym e ∙ t);
      every_filling_shows_it_wherever_it_is_caught = λ i h t bits f. caught_shows card s v i h t bits f;
      what_extends_the_vector_catches_too = λ t w x. catches_more card s w v x (sym e ∙ t);
      without_free_cells_a_catch_is_a_showing = λ a bits f. Decides-at r (catches card s v) e (fixed_catches card s v bits c.args.card.now.lawful a f);
    }

-- The response is of this card and to this vector, so what it says of the fault is said of them.
use Rattle.std.proofs.Common.{◌≡◌, ap₂, ◌∙◌}
use Rattle.vectors.specs.Views.{cells_of}
use Rattle.faults.specs.Catching.{catches_fault}
use Rattle.faults.specs.Views.{modelled}
use Rattle.faults.proofs.Numbered.{fault_decided, fault_more, fault_shown, fault_shown_where}
use Rattle.faults.proofs.model.FaultModel.catches.Goals as goal

pub returns : goal.returns
returns c =
    let card = modelled c.args.self.now in
    let f = c.args.fault in
    let v = cells_of c.args.vector.now in
    let r = c.catches.result in
    let e : r ≡ catches_fault card f v =
    c.catches.ensures.tells_whether_the_vector_catches_it ∙ ap₂ (λ m w. catches_fault m f w) c.response.ensures.is_of_the_card c.response.ensures.is_to_the_vector in
    record {
      tells_whether_the_vector_catches_it = e;
      a_catch_is_shown_by_every_filling_at_one_output = fault_shown card f v r e;
      every_filling_shows_it_wherever_it_is_caught = fault_shown_where card f v;
      what_extends_the_vector_catches_too = fault_more card f v r e;
      without_free_cells_a_catch_is_a_showing = fault_decided card f v r c.args.self.now.card.lawful e;
    }

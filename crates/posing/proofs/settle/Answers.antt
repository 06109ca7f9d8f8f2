use Rattle.posing.proofs.Differs.{settled}
use Rattle.posing.proofs.settle.Goals as goal

pub returns : goal.returns
returns g c =
    let h = settled c.differ.result c.differ.ensures.differ_or_the_budget_is_small in
    record {
      settles = h.0;
      differ = h.1;
      the_solver_was_asked_the_formula = c.differ.ensures.the_solver_was_asked_the_formula;
      are_the_bits_that_the_solver_found = c.differ.ensures.are_the_bits_that_the_solver_found;
    }

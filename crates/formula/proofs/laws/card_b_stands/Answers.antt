use Rattle.std.proofs.Common.{refl}
use Rattle.formula.specs.Formulas.{formula_of}
use Rattle.formula.proofs.laws.card_b_stands.Goals as goal

pub returns : goal.returns
unfolding formula_of
returns c =
    record { the_formula_of_a_fault_of_card_b = record { fault_2_is_net_1_stuck_at_0 = refl; has_10_variables = refl; has_22_clauses = refl; has_72_places = refl; has_these_clauses = refl } }

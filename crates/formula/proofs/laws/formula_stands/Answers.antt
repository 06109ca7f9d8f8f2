use Rattle.formula.proofs.laws.formula_stands.Goals as goal
use Rattle.formula.proofs.Standing.{formula_stands}

pub returns : goal.returns
returns c = record { every_formula_means_its_fault_is_led_and_fits = formula_stands }

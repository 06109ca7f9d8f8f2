use Rattle.solving.proofs.Sounds.{backtracks}
use Rattle.solving.proofs.Costs.{settled, lowest_law}
use Rattle.solving.proofs.Kept.{backtracking_answers}
use Rattle.solving.proofs.laws.backtracking_stands.Goals as goal

pub returns : goal.returns
returns c = record { is_sound_and_within_budget = backtracks; settles_led_formulas = settled; lowest_open_is_such_a_rule = lowest_law; keeps_the_promises = backtracking_answers }

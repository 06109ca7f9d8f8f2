use Rattle.solving.proofs.Kept.{counting_answers}
use Rattle.solving.proofs.laws.counting_stands.Goals as goal

pub returns : goal.returns
returns c = record { keeps_the_promises = counting_answers }

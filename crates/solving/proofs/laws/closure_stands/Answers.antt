use Rattle.solving.proofs.Closures as closures
use Rattle.solving.proofs.Ordering.{any_order}
use Rattle.solving.proofs.laws.closure_stands.Goals as goal

pub returns : goal.returns
returns c = record { keeps_satisfying_readings = closures.keeps; unviolated_and_full_satisfies = closures.settles; ends_at_rest = closures.rests; is_monotone = closures.monotone; ends_the_same_in_any_order = any_order }

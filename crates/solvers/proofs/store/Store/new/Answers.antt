use Rattle.std.proofs.Common.{vec_items}
use Rattle.solvers.proofs.Stored.{model_none}
use Rattle.solvers.proofs.store.Store.new.Goals as goal

pub returns : goal.returns
returns c = record { begins_fresh = model_none 1 1 (vec_items c.in_ok-literals.literals) (vec_items c.in_ok-ends.ends) c.in_ok-ends.ensures.items }

use Rattle.std.proofs.Common.{vec_items, vec_len}
use Rattle.job.specs.Jobs.{held}
use Rattle.desk.specs.Keeping.{Kept}
use Rattle.desk.proofs.closing.close_each.Given as goal

abbrev pub invariant-loop-ticket : goal.invariant-loop-ticket
invariant-loop-ticket l = Kept (held l.job) (vec_items l.tickets)

abbrev pub decreases-loop-ticket : goal.decreases-loop-ticket
decreases-loop-ticket l = vec_len l.tickets

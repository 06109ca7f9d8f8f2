use Rattle.std.proofs.Common.{◌≡◌, ◌+◌, ◌≤◌, length, vec_items, vec_len, vec_capacity}
use Rattle.job.specs.Jobs.{card_held, held}
use Rattle.requests.proofs.Turning.{SoFar}
use Rattle.requests.proofs.turns.run.Given as goal

abbrev pub invariant-loop-request : goal.invariant-loop-request
invariant-loop-request g l = (l.request-index ≤ length l.requests)
    × (vec_len l.wallet + length l.requests ≤ vec_capacity l.wallet + l.request-index)
    × (vec_len l.replies ≡ l.request-index)
    × (length l.requests ≤ vec_capacity l.replies)
    × (card_held l.job ≡ card_held l.initial.job)
    × SoFar g.S.Answering.answering (card_held l.initial.job) (held l.initial.job) (vec_items l.initial.wallet) l.requests l.request-index (vec_items l.replies) (held l.job) (vec_items l.wallet) (g.S.Solver.model l.initial.solver) (g.S.Solver.model l.solver)

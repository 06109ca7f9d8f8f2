use Rattle.std.proofs.Common.{◌≡◌, ◌<◌, List, length, vec_items, ◌∙◌, subst, arith}
use Rattle.std.proofs.lemmas.List.{get_or_default}
use Rattle.card.specs.Netlists.{Netlist}
use Rattle.history.specs.Promises.{Reached}
use Rattle.job.proofs.Reaching.{lawful}
use Rattle.job.specs.Jobs.{card_held, held}
use Rattle.job.specs.declared.ticket.Ticket.{Ticket}
use Rattle.requests.proofs.Turning.{SoFar, all_served, one_more}
use Rattle.requests.proofs.turns.run.Goals as goal

pub loop-request-preserved : goal.loop-request-preserved
loop-request-preserved g c =
    let lt : c.loop-request.request-index < length c.args.requests.now = omega arith in (
      omega arith,
      omega arith,
      omega arith,
      omega arith,
      c.serve.ensures.card_stays ∙ c.loop-request.invariant.4,
      one_more _ _ _ _ _ _ _ _ _ _ _ _ _ _ _ _ _ c.serve.result c.loop-request.invariant.4 lt (get_or_default _ _ _ _ lt) c.push_reserved.ensures.items c.loop-request.invariant.5 c.serve.ensures.served,
    )

pub returns-clause-the_law_of_jobs_holds_over_every_history : goal.returns-clause-the_law_of_jobs_holds_over_every_history
returns-clause-the_law_of_jobs_holds_over_every_history g c =
    let all : c.loop-request.request-index ≡ length c.args.requests.now = omega arith in
    let reached : Reached (card_held c.args.job.now) (held c.loop-request.job) = subst (λ (k : Netlist). Reached k (held c.loop-request.job)) c.loop-request.invariant.4 c.loop-request.job.reached in
    let tickets : vec_items c.reserve.new.self ≡ vec_items c.args.wallet.now = c.in_ok-reserve.ensures.items in
    let so = subst (λ (ts : List Ticket). SoFar g.S.Answering.answering (card_held c.args.job.now) (held c.args.job.now) ts c.args.requests.now c.loop-request.request-index (vec_items c.loop-request.replies) (held c.loop-request.job) (vec_items c.loop-request.wallet) (g.S.Solver.model c.args.solver.now) (g.S.Solver.model c.loop-request.solver)) tickets c.loop-request.invariant.5 in
    all_served _ _ _ _ _ _ _ _ _ _ _ (lawful c.args.job.now.table) all so reached

use Rattle.job.specs.Tables.{card_of, view_of}
use Rattle.job.proofs.Reaching.{led_by_search, led_on, promised, searched_step}
use Rattle.job.proofs.job.Job.search.Goals as goal

pub invariant_of-self : goal.invariant_of-self
invariant_of-self g c = let t = c.args.self.now.table in let u = c.search.new.self in record {
  reached = led_on t u _ (led_by_search t u c.args.ticket.now c.args.budget (g.S.Solver.model c.args.solver.now) (g.S.Solver.model c.search.new.solver) c.search.result c.search.ensures.card_stays c.search.ensures.answered) c.args.self.now.reached;
}

pub returns-clause-the_promise_holds_after_whatever_history_led_here : goal.returns-clause-the_promise_holds_after_whatever_history_led_here
returns-clause-the_promise_holds_after_whatever_history_led_here g c = λ own. let t = c.args.self.now.table in let u = c.search.new.self in
    promised t _ _ (searched_step (card_of t) (view_of t) (view_of u) c.args.ticket.now c.args.budget (g.S.Solver.model c.args.solver.now) (g.S.Solver.model c.search.new.solver) c.search.result c.search.ensures.answered own)

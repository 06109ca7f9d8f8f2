use Rattle.job.proofs.Reaching.{led_on, promised}
use Rattle.job.proofs.job.Job.merge.Goals as goal

pub invariant_of-self : goal.invariant_of-self
invariant_of-self c = record { reached = led_on _ _ _ c.merge.ensures.leads_on c.args.self.now.reached }

pub returns-clause-the_promise_holds_after_whatever_history_led_here : goal.returns-clause-the_promise_holds_after_whatever_history_led_here
returns-clause-the_promise_holds_after_whatever_history_led_here c = promised c.args.self.now.table _ _ c.merge.ensures.leads_on.is_a_step

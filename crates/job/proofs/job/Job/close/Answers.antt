use Rattle.history.specs.Steps.{closed}
use Rattle.job.specs.Tables.{closed_with, known_as}
use Rattle.job.proofs.Reaching.{led_on, promised}
use Rattle.job.proofs.job.Job.close.Goals as goal

pub invariant_of-self : goal.invariant_of-self
invariant_of-self c = record { reached = led_on _ _ _ c.close.ensures.leads_on c.args.self.now.reached }

pub returns-clause-the_promise_holds_after_whatever_history_led_here : goal.returns-clause-the_promise_holds_after_whatever_history_led_here
returns-clause-the_promise_holds_after_whatever_history_led_here c = λ own. promised c.args.self.now.table (closed (known_as c.args.ticket own) (closed_with c.close.result)) _ c.close.ensures.leads_on.is_a_step

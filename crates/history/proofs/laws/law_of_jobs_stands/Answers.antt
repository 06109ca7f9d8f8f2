use Rattle.history.proofs.Promised.{law}
use Rattle.history.proofs.laws.law_of_jobs_stands.Goals as goal

pub returns : goal.returns
returns c = record { every_history_keeps_the_promise_and_every_verdict = law }

use Rattle.std.proofs.Common.{vec_items}
use Rattle.desk.proofs.Keeping.{run_kept}
use Rattle.desk.proofs.desk.Desk.ask.Goals as goal

pub invariant_of-self : goal.invariant_of-self
invariant_of-self g c = record {
  each_taken_fault_has_one_ticket = run_kept g.S.Answering.answering vec_items c.args.self.now.job c.run.new.job _ _ c.args.request c.run.result _ _ c.run.ensures.the_law_of_jobs_holds_over_every_history
      c.run.ensures.without_room_the_job_stays c.run.ensures.without_room_the_tickets_stay c.args.self.now.each_taken_fault_has_one_ticket;
}

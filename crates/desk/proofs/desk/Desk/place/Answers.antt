use Rattle.std.proofs.Common.{rules, tests}
use Rattle.std.proofs.lemmas.Iterator.{IsFirst-from_position, YieldsList-from_slice}
use Rattle.desk.specs.Desks.{held_at, tickets_at}
use Rattle.desk.proofs.Keeping.{For, NotFor, place_found}
use Rattle.desk.proofs.desk.Desk.place.Goals as goal

pub returns : goal.returns
returns c = record {
  finds_its_ticket_unless_the_fault_is_not_taken = place_found (held_at c.args.self.now) c.args.fault (tickets_at c.args.self.now) c.position.result c.args.self.now.each_taken_fault_has_one_ticket
      (IsFirst-from_position _ _ _ (For c.args.fault) (NotFor c.args.fault) c.position.ensures.ran (YieldsList-from_slice (tickets_at c.args.self.now) cc) (λ x q k. search (rules, tests)) (λ x q k. search (rules, tests)));
}

use Rattle.std.proofs.Common.{length, arith}
use Rattle.solving.proofs.Closed.{open_most}
use Rattle.propagation.proofs.assignment.Assignment.clear.Goals as goal

pub invariant_of-self : goal.invariant_of-self
invariant_of-self c =
    let a = c.args.self.now in
    let v = c.fill.new.self in
    record {
      few = omega (arith, c.fill.ensures.len, a.few);
      roomy = omega (arith, c.fill.ensures.len, c.clear.ensures.keeps_its_room, a.roomy);
      space = omega (arith, open_most (length v) v, c.fill.ensures.len, c.clear.ensures.has_no_entry, c.clear.ensures.keeps_its_room, a.roomy);
    }

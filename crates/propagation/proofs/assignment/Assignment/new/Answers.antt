use Rattle.std.proofs.Common.{length, arith}
use Rattle.solving.proofs.Closed.{open_most}
use Rattle.propagation.proofs.assignment.Assignment.new.Goals as goal

pub invariant_of-result : goal.invariant_of-result
invariant_of-result c = record {
  few = c.requires.few;
  roomy = omega (arith, c.requires.space, c.new.ensures.has_the_room_lent);
  space = omega (arith, open_most (length c.args.values.now) c.args.values.now, c.requires.space, c.new.ensures.has_no_entry, c.new.ensures.has_the_room_lent);
}

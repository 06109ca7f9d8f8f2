use Rattle.std.proofs.Common.{arith, length-take}
use Rattle.propagation.proofs.assignment.Assignment.begin.Goals as goal

pub invariant_of-self : goal.invariant_of-self
invariant_of-self c =
    let a = c.args.self.now in
    let e = c.begin_by_lists.ensures in
    let u = c.begin_by_lists.new.trail in
    record {
      few = omega (arith, e.grown.long, a.few);
      roomy = omega (arith, e.grown.long, e.space, a.roomy);
      space = omega (arith, e.grown.room, length-take a.trail.len a.trail.entries.now, length-take u.len u.entries.now, u.fits, a.trail.fits, e.space, a.space);
    }

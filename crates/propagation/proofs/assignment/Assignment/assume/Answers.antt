use Rattle.std.proofs.Common.{length, set, Some, ap, arith, length-set}
use Rattle.solving.specs.Settings.{open_in}
use Rattle.propagation.proofs.Trailing.{open_set}
use Rattle.propagation.proofs.assignment.Assignment.assume.Goals as goal

pub invariant_of-self : goal.invariant_of-self
invariant_of-self c =
    let a = c.args.self.now in
    let v = a.values.now in
    let e = length-set v c.args.j (Some c.args.bit) in
    record {
      few = omega (arith, e, a.few);
      roomy = omega (arith, e, a.roomy);
      space = omega (arith, open_set v (length v) c.args.j c.args.bit, ap (λ n. open_in n (set v c.args.j (Some c.args.bit))) e, a.space);
    }

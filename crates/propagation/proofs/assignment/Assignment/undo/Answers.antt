use Rattle.std.proofs.Common.{length, set, None, ap, arith, length-set}
use Rattle.solving.specs.Settings.{open_in}
use Rattle.propagation.proofs.Trailing.{open_unset}
use Rattle.propagation.proofs.assignment.Assignment.undo.Goals as goal

pub invariant_of-self-then-j-self : goal.invariant_of-self-then-j-self
invariant_of-self-then-j-self c =
    let v = c.args.self.now.values.now in
    let j = c.place_of-j.result in
    let o = open_unset v (length v) j in
    let h = ap (λ k. open_in k (set v j None)) (length-set v j None) in
    record {
      few = omega (arith, length-set v j None, c.args.self.now.few);
      roomy = omega (arith, length-set v j None, c.in-Some.ensures.keeps_its_room, c.args.self.now.roomy);
      space = omega (arith, o, h, c.in-Some.ensures.is_shorter, c.in-Some.ensures.keeps_its_room, c.args.self.now.space, c.requires.some);
    }

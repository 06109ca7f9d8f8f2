use Rattle.std.proofs.Common.{◌≡◌, length, Some, ap, arith, length-set, w16, SFits, rules}
use Rattle.std.proofs.lemmas.Int.{to_z-of_z}
use Rattle.solving.specs.Literals.{place, wants}
use Rattle.solving.specs.Settings.{made, open_in}
use Rattle.solving.proofs.Places.{open_falls, open_inside, open_some}
use Rattle.propagation.proofs.assignment.Assignment.make.Goals as goal

pub make-requires-clause-space : goal.make-requires-clause-space
make-requires-clause-space c =
    let v = c.args.self.now.values.now in
    let l = c.args.literal in
    omega (arith, open_some v (length v) (place l) c.requires.is_open (open_inside v (place l) c.requires.is_open), c.args.self.now.space)

pub invariant_of-self : goal.invariant_of-self
invariant_of-self c =
    let v = c.args.self.now.values.now in
    let l = c.args.literal in
    let f : SFits w16 l = search rules in
    let g = open_falls v (length v) (place l) (wants l) c.requires.is_open (open_inside v (place l) c.requires.is_open) in
    let h : open_in (length (made v l)) (made v l) ≡ open_in (length v) (made v l) = ap (λ k. open_in k (made v l)) (length-set v (place l) (Some (wants l))) in
    let m = simp to_z-of_z at c.make.ensures.values in
    record {
      few = omega (arith, ap length m, length-set v (place l) (Some (wants l)), c.args.self.now.few);
      roomy = omega (arith, ap length m, length-set v (place l) (Some (wants l)), c.make.ensures.space, c.args.self.now.roomy);
      space = omega (arith, g, h, ap (λ a. open_in (length a) a) m, c.make.ensures.len, c.make.ensures.space, c.args.self.now.space);
    }

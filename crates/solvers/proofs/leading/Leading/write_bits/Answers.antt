use Rattle.std.proofs.Common.{◌≡◌, suc, ◌+◌, ◌-◌, ◌/◌, ◌^◌, cond, leb, length, set, Some, sym, ap, ◌∙◌, arith, length-set, le-leb}
use borrow.Author.Tests.{lt-leb}
use Rattle.solving.specs.Settings.{Setting}
use Rattle.solvers.specs.Numbering.{bits_of, written}
use Rattle.solvers.proofs.Numbered.{written_more, half_power}
use Rattle.solvers.proofs.leading.Leading.write_bits.Goals as goal
use Rattle.solvers.proofs.leading.Leading.write_bits.Goals.{then-bit, else-bit}

pub loop-variable-preserved : goal.loop-variable-preserved
loop-variable-preserved c =
    let items = c.loop-variable.assignment.values.now in
    let j = c.loop-variable.variable in
    let k = c.args.self.count - (j + 1) in
    let rest = c.loop-variable.rest in
    let weight = c.loop-variable.weight / 2 in
    let e : c.args.self.count - j ≡ suc k = omega (arith, c.loop-variable-test.true) in
    let w : weight ≡ 2 ^ k = half_power c.loop-variable.weight (c.args.self.count - j) k c.loop-variable.invariant.0 e in
    let r : c.if-bit.rest ≡ cond (leb weight rest) (rest - weight) rest = elim c.if-bit.branch [
      | then-bit p ↦ p.rest-is ∙ sym (ap (λ z. cond z (rest - weight) rest) (le-leb weight rest p.if-bit.true))
      | else-bit p ↦ p.rest-is ∙ sym (ap (λ z. cond z (rest - weight) rest) (lt-leb weight rest p.if-bit.false))
    ] in
    let a : c.assume.new.self.values.now ≡ set items j (Some (leb weight rest)) = ap (λ x. x.setting) c.assume.ensures.sets_the_variable in (
      w,
      ap (λ (x : Setting). written x (j + 1) (bits_of k c.if-bit.rest)) a
          ∙ ap (λ n. written (set items j (Some (leb weight rest))) (j + 1) (bits_of k n)) r
          ∙ sym (written_more items j k rest weight w)
          ∙ ap (λ n. written items j (bits_of n rest)) (sym e)
          ∙ c.loop-variable.invariant.1,
      c.assume.ensures.leaves_the_trail ∙ c.loop-variable.invariant.2,
      ap length a ∙ length-set items j (Some (leb weight rest)) ∙ c.loop-variable.invariant.3,
    )

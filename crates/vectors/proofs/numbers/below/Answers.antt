-- A number of 32 bits is below every power from 2 ^ 32 on; below that, a shift tells.
use Rattle.std.proofs.Common.{◌∙◌, arith, rules}
use Rattle.std.proofs.lemmas.Bool.{le-leb}
use Rattle.vectors.proofs.Bits.{below_by_shift, below_wide}
use Rattle.vectors.proofs.numbers.below.Goals as goal

pub returns-then-place-ge32 : goal.returns-then-place-ge32
returns-then-place-ge32 c = record {
  is_below_the_power = le-leb 32 c.args.place (omega arith) ∙ below_wide c.args.number 32 c.args.place (omega arith) (omega arith);
}

pub returns-else-place-ge32 : goal.returns-else-place-ge32
returns-else-place-ge32 c = search (rules, below_by_shift)

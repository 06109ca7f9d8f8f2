-- A bit that is set has a place below 32.
use Rattle.std.proofs.Common.{◌<◌, sym, arith}
use Rattle.vectors.proofs.Freed.{bit_within}
use Rattle.vectors.proofs.freeing.without.Goals as goal

pub overflow_cast-result : goal.overflow_cast-result
overflow_cast-result c =
    let b : c.args.place < 32 = bit_within c.args.number 32 c.args.place (omega arith) (sym c.if-bit.ensures.is_the_bit) in omega arith

pub overflow_shl-result : goal.overflow_shl-result
overflow_shl-result c = bit_within c.args.number 32 c.args.place (omega arith) (sym c.if-bit.ensures.is_the_bit)

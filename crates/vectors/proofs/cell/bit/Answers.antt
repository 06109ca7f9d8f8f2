-- From place 32 on a number of 32 bits has no bit.
use Rattle.std.proofs.Common.{sym, ◌∙◌, arith}
use Rattle.std.proofs.lemmas.Bool.{le-ltb}
use Rattle.vectors.proofs.Bits.{bit_past}
use Rattle.vectors.proofs.cell.bit.Goals as goal

pub returns-else-place-lt32 : goal.returns-else-place-lt32
returns-else-place-lt32 c = record {
  is_the_bit = le-ltb c.args.place 32 c.if-place-lt32.false ∙ sym (bit_past c.args.number 32 c.args.place (omega arith) (omega arith));
}

-- A gate's answer in three parts, as the walk computes it: what joins two pins, what stands for no pin, and what is done last.
-- `truth` is the third part of the joined pins (`truth_in_parts`), whatever their number.
use Rattle.std.specs.Prelude.{true, false}
use Rattle.card.specs.declared.function.Function.{Function}
use Rattle.card.specs.declared.function.Function.TheVariants.{Ida, And2, Or2, Xor2, Inva, Nand2, Nor2, Xnor2, Zero, One}
use Rattle.signal.specs.Operations.{Operations}

abbrev pub joins : {S : Type 0} → Operations S → Function → S → S → S
joins o Ida = o.either
joins o And2 = o.both
joins o Or2 = o.either
joins o Xor2 = o.unlike
joins o Inva = o.either
joins o Nand2 = o.both
joins o Nor2 = o.either
joins o Xnor2 = o.unlike
joins o Zero = o.either
joins o One = o.either

abbrev pub unit : {S : Type 0} → Operations S → Function → S
unit o Ida = o.constant false
unit o And2 = o.constant true
unit o Or2 = o.constant false
unit o Xor2 = o.constant false
unit o Inva = o.constant false
unit o Nand2 = o.constant true
unit o Nor2 = o.constant false
unit o Xnor2 = o.constant false
unit o Zero = o.constant false
unit o One = o.constant false

abbrev pub ended : {S : Type 0} → Operations S → Function → S → S
ended o Ida x = x
ended o And2 x = x
ended o Or2 x = x
ended o Xor2 x = x
ended o Inva x = o.negated x
ended o Nand2 x = o.negated x
ended o Nor2 x = o.negated x
ended o Xnor2 x = o.negated x
ended o Zero x = o.constant false
ended o One x = o.constant true

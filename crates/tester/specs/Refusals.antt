-- The number of every way in which the tester is refused.
use Rattle.std.specs.Prelude.{ℕ}
use Rattle.reading.specs.Refusals.{refusal_number}
use Rattle.vectors.specs.Refusals.{vector_refusal}
use Rattle.tester.specs.declared.fault.TesterFault.{TesterFault}
use Rattle.tester.specs.declared.fault.TesterFault.TheVariants.{Card, Vector, Room}

abbrev pub tester_number : TesterFault → ℕ
tester_number (Card f) = refusal_number f
tester_number (Vector f) = vector_refusal f
tester_number Room = 25

-- The tester's call as a definition: the number that it answers and the buffer that it leaves.
use Rattle.std.specs.Prelude.{ℕ, ◌+◌, cond, List, ◌++◌, length, drop, Ok, Err, Result, nat_le}
use Rattle.reading.specs.declared.fault.CardFault.{CardFault}
use Rattle.reading.specs.declared.fault.CardFault.TheVariants.{Memory}
use Rattle.card.specs.Netlists.{Netlist}
use Rattle.vectors.specs.Vectors.{holding, in_form}
use Rattle.vectors.specs.declared.fault.VectorFault.TheVariants.{NotInForm}
use Rattle.tester.specs.Characters.{characters}
use Rattle.tester.specs.Refusals.{tester_number}
use Rattle.tester.specs.declared.fault.TesterFault.{TesterFault}
use Rattle.tester.specs.declared.fault.TesterFault.TheVariants.{Card, Vector, Room}

-- the characters for a card in a buffer of this room, or the refusal
abbrev pub shown_in : ℕ → List ℕ → Result (List ℕ) TesterFault
shown_in room shown = cond (nat_le (length shown) room) (Ok shown) (Err Room)

-- what a call is to answer, from what its bytes read as: the tests in their order
abbrev pub expectation : Result Netlist CardFault → ℕ → ℕ → ℕ → Result (List ℕ) TesterFault
expectation (Err e) care value room = Err (Card e)
expectation (Ok c) care value room = cond (in_form c.inputs care value) (shown_in room (characters c (holding care value))) (Err (Vector NotInForm))

-- the characters stand first in the buffer, and the bytes behind them stay
abbrev pub over : List ℕ → List ℕ → List ℕ
over shown buffer = shown ++ drop (length shown) buffer

-- the answer: how many characters, or the refusal
abbrev pub answer_of : Result (List ℕ) TesterFault → Result ℕ TesterFault
answer_of (Ok shown) = Ok (length shown)
answer_of (Err e) = Err e

-- the buffer afterwards: a refusal leaves it
abbrev pub left_in : Result (List ℕ) TesterFault → List ℕ → List ℕ
left_in (Ok shown) buffer = over shown buffer
left_in (Err e) buffer = buffer

-- the answer in the tester's numbers: the count of outputs, or 100 plus the number of the refusal
abbrev pub code_of : Result ℕ TesterFault → ℕ
code_of (Ok m) = m
code_of (Err e) = 100 + tester_number e

-- there is no memory to hold the card
abbrev pub no_memory : TesterFault
no_memory = Card Memory

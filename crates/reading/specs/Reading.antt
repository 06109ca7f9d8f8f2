-- Reading as a definition that computes: what a run of card bytes says, command by command.
-- The rules themselves, in words of commands and cards, stand in Rules; both are proved to agree.
use Rattle.std.specs.Prelude.{◌≡◌, ℕ, zero, suc, ◌+◌, ◌-◌, ◌*◌, cond, ◌&&◌, List, [], length, drop, Some, None, Ok, Err, Option, Result, ◌==◌, nat_le, nat_lt, slice_index}
use Rattle.card.specs.declared.function.Function.{Function}
use Rattle.card.specs.declared.gate.Operands.{Operands}
use Rattle.card.specs.declared.gate.Operands.TheVariants.{None as NoOperand, One, Two}
use Rattle.reading.specs.declared.command.Command.{Command}
use Rattle.reading.specs.declared.command.Command.TheVariants.{AddInput, AddGate, AddOutput, End}
use Rattle.reading.specs.declared.fault.OperandFault.{OperandFault}
use Rattle.reading.specs.declared.fault.OperandFault.TheVariants.{Cut, Undeclared}
use Rattle.reading.specs.declared.fault.CardFault.{CardFault}
use Rattle.reading.specs.declared.fault.CardFault.TheVariants.{Unknown, Ended, Operand, LateInput, Limit, NamedTwice, Incomplete, Trailing}
use Rattle.card.specs.Functions.{function_of, pin_count}
use Rattle.card.specs.Netlists.{Netlist}
use Rattle.reading.specs.Commands.{size_of, adds, late, overfull, undeclared, repeated, incomplete}

-- the 16-bit number at a place, high byte first
abbrev pub word : List ℕ → ℕ → ℕ
word bs i = 256 * slice_index bs i + slice_index bs (i + 1)

abbrev pub net_at : List ℕ → ℕ → ℕ → Result ℕ OperandFault
net_at rest place at = cond (nat_lt (place + 1) (length rest)) (Ok (word rest place)) (Err (Cut at))

-- the operands of a command with so many (no command has more than two)
abbrev pub operands_in : List ℕ → ℕ → Operands
operands_in rest count = cond (count == 0) NoOperand (cond (count == 1) (One (word rest 1)) (Two (word rest 1) (word rest 3)))

-- how many bytes a gate command with so many operands has
abbrev pub bytes_for : ℕ → ℕ
bytes_for count = cond (count == 0) 1 (cond (count == 1) 3 5)

abbrev pub operands_at : List ℕ → ℕ → ℕ → Result Operands OperandFault
operands_at rest count at = cond (nat_le (bytes_for count) (length rest)) (Ok (operands_in rest count)) (Err (Cut at))

abbrev pub gate_of : Function → Result Operands OperandFault → Result Command CardFault
gate_of f (Ok os) = Ok (AddGate (record { function = f; operands = os }))
gate_of f (Err e) = Err (Operand e)

abbrev pub output_of : Result ℕ OperandFault → Result Command CardFault
output_of (Ok n) = Ok (AddOutput n)
output_of (Err e) = Err (Operand e)

-- the command that begins with byte b
abbrev pub command_of : ℕ → List ℕ → ℕ → Result Command CardFault
command_of b rest at =
    cond (b == 0x20) (Ok AddInput)
    (cond (nat_le 0x30 b && nat_le b 0x39) (gate_of (function_of (b - 0x30)) (operands_at rest (pin_count (function_of (b - 0x30))) at))
    (cond (b == 0x40) (output_of (net_at rest 1 at))
    (cond (b == 0x7f) (Ok End)
    (Err (Unknown at)))))

-- the command that the bytes begin with, or the first of rules 1 and 2 that they break
abbrev pub command_at : List ℕ → ℕ → Result Command CardFault
command_at rest at = cond (length rest == 0) (Err (Ended at)) (command_of (slice_index rest 0) rest at)

-- the first of rules 3 to 7 that a command breaks
abbrev pub fault_of : Netlist → Command → ℕ → Option CardFault
fault_of d c at =
    cond (late d c) (Some (LateInput at))
    (cond (overfull d c) (Some (Limit at))
    (cond (undeclared d c) (Some (Operand (Undeclared at)))
    (cond (repeated d c) (Some (NamedTwice at))
    (cond (incomplete d c) (Some (Incomplete at)) None))))

-- what a command leads to: a larger card and the number of bytes spent, the end, or a fault
pub data Next : Type 0 where
  more : Netlist → ℕ → Next
  done : Next
  bad : CardFault → Next

-- a command that breaks none of rules 3 to 7; rule 8: nothing follows the end
abbrev pub accepted : Netlist → Command → List ℕ → ℕ → Next
accepted d AddInput rest at = more (adds d AddInput) 1
accepted d (AddGate g) rest at = more (adds d (AddGate g)) (size_of (AddGate g))
accepted d (AddOutput n) rest at = more (adds d (AddOutput n)) 3
accepted d End rest at = cond (nat_lt 1 (length rest)) (bad (Trailing (at + 1))) done

abbrev pub judged : Netlist → Command → List ℕ → ℕ → Option CardFault → Next
judged d c rest at (Some e) = bad e
judged d c rest at None = accepted d c rest at

abbrev pub decoded : Netlist → List ℕ → ℕ → Result Command CardFault → Next
decoded d rest at (Err e) = bad e
decoded d rest at (Ok c) = judged d c rest at (fault_of d c at)

-- one command more
abbrev pub step_of : Netlist → List ℕ → ℕ → Next
step_of d rest at = decoded d rest at (command_at rest at)

-- on from a step, by f where there is more
abbrev pub onward : (Netlist → ℕ → Result Netlist CardFault) → Netlist → Next → Result Netlist CardFault
onward f d (more e size) = f e size
onward f d done = Ok d
onward f d (bad e) = Err e

-- the commands of the rest, which begins at an offset, at most n of them
unfoldable pub read_from : ℕ → List ℕ → ℕ → Netlist → Result Netlist CardFault
read_from zero rest at d = Err (Ended at)
read_from (suc n) rest at d = onward (λ e size. read_from n (drop size rest) (at + size) e) d (step_of d rest at)

-- a card with nothing declared
abbrev pub nothing : Netlist
nothing = record { inputs = 0; gates = []; outputs = [] }

-- what card bytes say: a netlist, or the fault that refuses them
abbrev pub reading : List ℕ → Result Netlist CardFault
reading bs = read_from (suc (length bs)) bs 0 nothing

-- a step's answer, the size of the command or none at the end, and the card so far that it leaves
abbrev pub Stepped : Next → Result (Option ℕ) CardFault → Netlist → Netlist → Type 0
Stepped n (Ok (Some size)) d e = n ≡ more e size
Stepped n (Ok None) d e = (n ≡ done) × (e ≡ d)
Stepped n (Err f) d e = n ≡ bad f

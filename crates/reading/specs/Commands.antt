-- The commands of a card: how each is spelled in bytes, what each adds to the card so far, and the rules that each must keep.
use Rattle.std.specs.Prelude.{ℕ, ◌+◌, ◌*◌, ◌/◌, ◌%◌, Bool, false, not, ◌||◌, List, [], ◌∷◌, ◌++◌, length, ◌==◌, nat_le}
use Rattle.reading.specs.declared.command.Command.{Command}
use Rattle.reading.specs.declared.command.Command.TheVariants.{AddInput, AddGate, AddOutput, End}
use Rattle.card.specs.Functions.{function_number}
use Rattle.card.specs.Netlists.{Netlist, nets, pins_of, all_below}

-- one byte, and two for each operand
abbrev pub size_of : Command → ℕ
size_of AddInput = 1
size_of (AddGate g) = 1 + 2 * length (pins_of g)
size_of (AddOutput n) = 3
size_of End = 1

-- a net number in 16 bits, high byte first
abbrev pub net_bytes : ℕ → List ℕ
net_bytes n = n / 256 ∷ n % 256 ∷ []

abbrev pub nets_bytes : List ℕ → List ℕ
nets_bytes [] = []
nets_bytes (n ∷ ns) = net_bytes n ++ nets_bytes ns

-- the bytes of a command
abbrev pub spelled : Command → List ℕ
spelled AddInput = 0x20 ∷ []
spelled (AddGate g) = (0x30 + function_number g.function) ∷ nets_bytes (pins_of g)
spelled (AddOutput n) = 0x40 ∷ net_bytes n
spelled End = 0x7f ∷ []

-- the card so far with what a command declares
abbrev pub adds : Netlist → Command → Netlist
adds d AddInput = record { inputs = d.inputs + 1; gates = d.gates; outputs = d.outputs }
adds d (AddGate g) = record { inputs = d.inputs; gates = d.gates ++ (g ∷ []); outputs = d.outputs }
adds d (AddOutput n) = record { inputs = d.inputs; gates = d.gates; outputs = d.outputs ++ (n ∷ []) }
adds d End = d

-- rule 3 is broken: an input stands after a gate
abbrev pub late : Netlist → Command → Bool
late d AddInput = not (length d.gates == 0)
late d (AddGate g) = false
late d (AddOutput n) = false
late d End = false

-- rule 4 is broken: the 33rd input, the 257th net or the 33rd output
abbrev pub overfull : Netlist → Command → Bool
overfull d AddInput = nat_le 32 d.inputs
overfull d (AddGate g) = nat_le 256 (nets d)
overfull d (AddOutput n) = nat_le 32 (length d.outputs)
overfull d End = false

-- rule 5 is broken: an operand is no net declared earlier
abbrev pub undeclared : Netlist → Command → Bool
undeclared d AddInput = false
undeclared d (AddGate g) = not (all_below (nets d) (pins_of g))
undeclared d (AddOutput n) = not (all_below (nets d) (n ∷ []))
undeclared d End = false

-- a number stands in a list
abbrev pub stands : ℕ → List ℕ → Bool
stands n [] = false
stands n (x ∷ xs) = n == x || stands n xs

-- rule 6 is broken: the output is named already
abbrev pub repeated : Netlist → Command → Bool
repeated d AddInput = false
repeated d (AddGate g) = false
repeated d (AddOutput n) = stands n d.outputs
repeated d End = false

-- rule 7 is broken: the card ends without an input or without an output
abbrev pub incomplete : Netlist → Command → Bool
incomplete d AddInput = false
incomplete d (AddGate g) = false
incomplete d (AddOutput n) = false
incomplete d End = d.inputs == 0 || length d.outputs == 0

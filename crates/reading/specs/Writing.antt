-- The canonical writing of a card: its inputs, its gates and its outputs in order, and the end.
use Rattle.std.specs.Prelude.{ℕ, List, [], ◌∷◌, ◌++◌, map, replicate}
use Rattle.std.specs.List.{flat_map}
use Rattle.card.specs.declared.gate.Gate.{Gate}
use Rattle.reading.specs.declared.command.Command.{Command}
use Rattle.reading.specs.declared.command.Command.TheVariants.{AddInput, AddGate, AddOutput}
use Rattle.reading.specs.Commands.{spelled}
use Rattle.card.specs.Netlists.{Netlist}
use Rattle.reading.specs.Rules.{all_spelled}

-- the commands that declare a card, in canonical order
abbrev pub commands_of : Netlist → List Command
commands_of c = replicate c.inputs AddInput ++ (map AddGate c.gates ++ map AddOutput c.outputs)

abbrev pub written : Netlist → List ℕ
written c = all_spelled (commands_of c) ++ (0x7f ∷ [])

-- the gates and the outputs as they are written
abbrev pub gates_written : List Gate → List ℕ
gates_written gs = flat_map (λ g. spelled (AddGate g)) gs

abbrev pub outputs_written : List ℕ → List ℕ
outputs_written os = flat_map (λ n. spelled (AddOutput n)) os

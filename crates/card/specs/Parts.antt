-- A netlist from its parts, and the smallest card: one input, which is its only output.
use Rattle.std.specs.Prelude.{ℕ, List, [], ◌∷◌}
use Rattle.card.specs.declared.gate.Gate.{Gate}
use Rattle.card.specs.Netlists.{Netlist}

abbrev pub netlist_from : ℕ → List Gate → List ℕ → Netlist
netlist_from k gs os = record { inputs = k; gates = gs; outputs = os }

abbrev pub smallest : Netlist
smallest = netlist_from 1 [] (0 ∷ [])

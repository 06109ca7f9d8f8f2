-- The small cards A and B and the benchmark c17, as bytes and as netlists, and three stuck lines. The netlist of B and its line that is
-- proved untestable stand beside their formula. The bytes of A, B and c17 are those of the files in the folder cards; the gate compares them.
use Rattle.std.specs.Prelude.{ℕ, true, false, List, [], ◌∷◌}
use Rattle.card.specs.declared.function.Function.TheVariants.{And2, Nand2, Or2}
use Rattle.card.specs.declared.gate.Gate.{Gate}
use Rattle.card.specs.declared.gate.Operands.TheVariants.{Two}
use Rattle.card.specs.Netlists.{Netlist}
use Rattle.signal.specs.declared.line.Line.TheVariants.{Net}
use Rattle.signal.specs.declared.line.Stuck.{Stuck}
pub use Rattle.formula.specs.CardB.{card_b, net_one_at_zero}

-- inputs 0 to 2, net 3 AND2(0, 1), net 4 OR2(3, 2), output 4
abbrev pub card_a : Netlist
card_a = record { inputs = 3; gates = record { function = And2; operands = Two 0 1 } ∷ record { function = Or2; operands = Two 3 2 } ∷ []; outputs = 4 ∷ [] }

abbrev pub bytes_a : List ℕ
bytes_a = 0x20 ∷ 0x20 ∷ 0x20 ∷ 0x31 ∷ 0 ∷ 0 ∷ 0 ∷ 1 ∷ 0x32 ∷ 0 ∷ 3 ∷ 0 ∷ 2 ∷ 0x40 ∷ 0 ∷ 4 ∷ 0x7f ∷ []

abbrev pub cut_b : List ℕ
cut_b = 0x20 ∷ 0x20 ∷ 0x31 ∷ 0 ∷ 0 ∷ 0 ∷ 1 ∷ 0x32 ∷ 0 ∷ 0 ∷ 0 ∷ 2 ∷ 0x40 ∷ 0 ∷ 3 ∷ []

abbrev pub bytes_b : List ℕ
bytes_b = 0x20 ∷ 0x20 ∷ 0x31 ∷ 0 ∷ 0 ∷ 0 ∷ 1 ∷ 0x32 ∷ 0 ∷ 0 ∷ 0 ∷ 2 ∷ 0x40 ∷ 0 ∷ 3 ∷ 0x7f ∷ []

abbrev nand : ℕ → ℕ → Gate
nand a b = record { function = Nand2; operands = Two a b }

-- the benchmark circuit of five inputs, six NAND gates and two outputs
abbrev pub c17 : Netlist
c17 = record { inputs = 5; gates = nand 0 2 ∷ nand 2 3 ∷ nand 1 6 ∷ nand 6 4 ∷ nand 5 7 ∷ nand 7 8 ∷ []; outputs = 9 ∷ 10 ∷ [] }

abbrev pub bytes_c17 : List ℕ
bytes_c17 = 0x20 ∷ 0x20 ∷ 0x20 ∷ 0x20 ∷ 0x20 ∷ 0x35 ∷ 0 ∷ 0 ∷ 0 ∷ 2 ∷ 0x35 ∷ 0 ∷ 2 ∷ 0 ∷ 3 ∷ 0x35 ∷ 0 ∷ 1 ∷ 0 ∷ 6 ∷ 0x35 ∷ 0 ∷ 6 ∷ 0 ∷ 4 ∷ 0x35 ∷ 0 ∷ 5 ∷ 0 ∷ 7 ∷ 0x35 ∷ 0 ∷ 7 ∷ 0 ∷ 8 ∷ 0x40 ∷ 0 ∷ 9 ∷ 0x40 ∷ 0 ∷ 10 ∷ 0x7f ∷ []

abbrev pub net_zero_at_zero : Stuck
net_zero_at_zero = record { line = Net 0; level = false }

abbrev pub net_three_at_one : Stuck
net_three_at_one = record { line = Net 3; level = true }

-- A netlist as lists of gates and outputs, and the rules that every card keeps.
-- Nets are numbered from 0: the inputs first, then one net for each gate, in order.
use Rattle.std.specs.Prelude.{◌≡◌, ℕ, ◌+◌, ◌<◌, ◌≤◌, Bool, true, ◌&&◌, List, [], ◌∷◌, length, ◌≢◌, nat_lt, slice_index, slice_index_or}
use Rattle.card.specs.declared.gate.Operands.{Operands}
use Rattle.card.specs.declared.gate.Operands.TheVariants.{None, One, Two}
use Rattle.card.specs.declared.gate.Gate.{Gate}
use Rattle.card.specs.Functions.{pin_count}

-- the nets that the pins of a gate read, from pin 0
abbrev pub nets_read : Operands → List ℕ
nets_read None = []
nets_read (One a) = a ∷ []
nets_read (Two a b) = a ∷ b ∷ []

abbrev pub pins_of : Gate → List ℕ
pins_of g = nets_read g.operands

pub record Netlist : Type 0 where
  pub inputs : ℕ
  pub gates : List Gate
  pub outputs : List ℕ

-- how many nets there are
abbrev pub nets : Netlist → ℕ
nets c = c.inputs + length c.gates

-- every number of the list is below n
abbrev pub all_below : ℕ → List ℕ → Bool
all_below n [] = true
all_below n (x ∷ xs) = nat_lt x n && all_below n xs

-- every gate has as many pins as its function asks
abbrev pub PinsMatch : List Gate → Type 0
PinsMatch gs = (i : ℕ) (d : Gate) → i < length gs → length (pins_of (slice_index_or gs i d)) ≡ pin_count (slice_index_or gs i d).function

-- every pin of gate i reads a net that is declared before it: an input, or one of the i gates before
abbrev pub Ordered : ℕ → List Gate → Type 0
Ordered k gs = (i : ℕ) (d : Gate) → i < length gs → all_below (k + i) (pins_of (slice_index_or gs i d)) ≡ true

-- no number stands twice
abbrev pub Distinct : List ℕ → Type 0
Distinct xs = (i j : ℕ) → i < j → j < length xs → slice_index xs i ≢ slice_index xs j

-- the rules of a card
pub record Lawful (c : Netlist) : Type 0 where
  pub some_input : 1 ≤ c.inputs
  pub inputs_fit : c.inputs ≤ 32
  pub nets_fit : nets c ≤ 256
  pub some_output : 1 ≤ length c.outputs
  pub outputs_fit : length c.outputs ≤ 32
  pub pins_match : PinsMatch c.gates
  pub ordered : Ordered c.inputs c.gates
  pub outputs_declared : all_below (nets c) c.outputs ≡ true
  pub outputs_distinct : Distinct c.outputs

-- What it is for a setting to show a fault: with plain bits, good and faulty card differ at an output.
-- A setting is a list of bits, one for each input; the faulty card is the same walk with the line that sticks.
use Rattle.std.specs.Prelude.{◌≡◌, ℕ, ◌<◌, Bool, false, List, length, Some, None, Option, slice_index, slice_index_or}
use Rattle.card.specs.Netlists.{Netlist}
use Rattle.signal.specs.declared.line.Stuck.{Stuck}
use Rattle.signal.specs.Operations.{bit_operations}
use Rattle.signal.specs.Walks.{net_values}

-- the net of output i (asked of outputs that the card has)
abbrev pub output_net : Netlist → ℕ → ℕ
output_net c i = slice_index c.outputs i

-- the bit at output i of the card with this line stuck, or of the good card
abbrev pub output_bit : Netlist → Option Stuck → List Bool → ℕ → Bool
output_bit c t bits i = slice_index_or (net_values bit_operations t c bits) (output_net c i) false

-- the setting shows the fault at output i
pub record ShowsAt (c : Netlist) (s : Stuck) (bits : List Bool) (i : ℕ) : Type 0 where
  pub an_output : i < length c.outputs
  pub differs : output_bit c None bits i ≡ output_bit c (Some s) bits i → ⊥

-- the setting shows the fault at some output
pub record Shows (c : Netlist) (s : Stuck) (bits : List Bool) : Type 0 where
  pub one_for_each : length bits ≡ c.inputs
  pub output : ℕ
  pub shown : ShowsAt c s bits output

-- no setting shows the fault
abbrev pub Never : Netlist → Stuck → Type 0
Never c s = (bits : List Bool) → Shows c s bits → ⊥

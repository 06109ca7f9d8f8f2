-- What the outputs of a good card show for a vector: one character for each output, and what the characters mean.
use Rattle.std.specs.Prelude.{◌≡◌, ℕ, ◌<◌, Bool, true, false, List, map, length, None, slice_index, slice_index_or}
use Rattle.card.specs.Netlists.{Netlist}
use Rattle.signal.specs.Operations.{bit_operations}
use Rattle.signal.specs.Ternaries.{ternary_operations}
use Rattle.signal.specs.Walks.{net_values}
use Rattle.signal.specs.declared.ternary.Ternary.{Ternary}
use Rattle.signal.specs.declared.ternary.Ternary.TheVariants.{Low, High, X}
use Rattle.vectors.specs.Rows.{character_of}
use Rattle.vectors.specs.Vectors.{Cells, Fills, start}

-- the three-valued walk of the good card, from the cells of the vector
abbrev pub good_nets : Netlist → Cells → List Ternary
good_nets c v = net_values ternary_operations None c (start c.inputs v)

-- one character 0, 1 or X for each output (each names a net that the card has)
abbrev pub characters : Netlist → Cells → List ℕ
characters c v = map (λ net. character_of (slice_index_or (good_nets c v) net X)) c.outputs

-- the bit that a setting makes at an output (asked of outputs that the card has)
abbrev pub bit_at_output : Netlist → List Bool → ℕ → Bool
bit_at_output c bits i = slice_index_or (net_values bit_operations None c bits) (slice_index c.outputs i) false

-- the value that is known to be this bit
abbrev pub definite : Bool → Ternary
definite true = High
definite false = Low

-- where the character is a bit, every setting that fills the vector makes that bit at the output
abbrev pub Truthful : Netlist → Cells → List ℕ → Type 0
Truthful c v shown = (i : ℕ) → i < length c.outputs → (b : Bool) → slice_index shown i ≡ character_of (definite b) → (bits : List Bool) → Fills c.inputs v bits → bit_at_output c bits i ≡ b

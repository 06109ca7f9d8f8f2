-- The worked cases as one group, each by the definitions that the contracts of the calls use.
use Rattle.std.specs.Prelude.{◌≡◌, ℕ, true, false, List, [], ◌∷◌, ◌++◌, length, replicate, Some, Ok, Err}
use Rattle.card.specs.Parts.{netlist_from, smallest}
use Rattle.reading.specs.Reading.{reading}
use Rattle.reading.specs.Refusals.{refusal_number, refusal_offset}
use Rattle.reading.specs.declared.fault.CardFault.{CardFault}
use Rattle.reading.specs.declared.fault.CardFault.TheVariants.{Ended, Incomplete, Limit, NamedTwice, Operand}
use Rattle.reading.specs.declared.fault.OperandFault.TheVariants.{Undeclared}
use Rattle.signal.specs.declared.line.Line.TheVariants.{Pin}
use Rattle.vectors.specs.Merging.{mergeable, union}
use Rattle.vectors.specs.Vectors.{holding, in_form}
use Rattle.solving.specs.Literals.{places}
use Rattle.faults.specs.Catching.{catches}
use Rattle.faults.specs.Sites.{fault_count, stuck_of}
use Rattle.faults.specs.Thinning.{thinned}
use Rattle.formula.specs.Formulas.{formula_of}
use Rattle.formula.specs.Variables.{variables}
use Rattle.small_cards.specs.Cards.{bytes_a, bytes_b, bytes_c17, c17, card_a, card_b, cut_b, net_one_at_zero, net_three_at_one, net_zero_at_zero}
use Rattle.small_cards.specs.Jobs.{Jobs}
use Rattle.small_cards.specs.Searches.{Searches}
use Rattle.small_cards.specs.Sheets.{Sheets}

-- these bytes are refused for this fault, which has this number and this offset
pub record RefusedBy (bytes : List ℕ) (fault : CardFault) (number offset : ℕ) : Type 0 where
  pub reads : reading bytes ≡ Err fault
  pub has_the_number : refusal_number fault ≡ number
  pub has_the_offset : refusal_offset fault ≡ offset

-- reading, and where it refuses
pub record Readings : Type 0 where
  pub a : reading bytes_a ≡ Ok card_a
  pub b : reading bytes_b ≡ Ok card_b
  pub the_benchmark : reading bytes_c17 ≡ Ok c17
  pub b_without_its_end : RefusedBy cut_b (Ended 15) 2 15
  pub operand_not_declared : RefusedBy (0x20 ∷ 0x31 ∷ 0 ∷ 0 ∷ 0 ∷ 1 ∷ []) (Operand (Undeclared 1)) 5 1
  pub only_the_end : RefusedBy (0x7f ∷ []) (Incomplete 0) 7 0
  pub a_wire : reading (0x20 ∷ 0x40 ∷ 0 ∷ 0 ∷ 0x7f ∷ []) ≡ Ok smallest
  pub an_output_again : RefusedBy (0x20 ∷ 0x40 ∷ 0 ∷ 0 ∷ 0x40 ∷ 0 ∷ 0 ∷ 0x7f ∷ []) (NamedTwice 4) 6 4
  pub thirty_two_inputs : reading (replicate 32 0x20 ++ (0x40 ∷ 0 ∷ 0 ∷ 0x7f ∷ [])) ≡ Ok (netlist_from 32 [] (0 ∷ []))
  pub a_33rd_input : RefusedBy (replicate 33 0x20 ++ (0x40 ∷ 0 ∷ 0 ∷ 0x7f ∷ [])) (Limit 32) 4 32

pub record FaultCounts : Type 0 where
  pub b_has_12 : fault_count card_b ≡ 12
  pub a_has_10 : fault_count card_a ≡ 10
  pub a_wire_has_2 : fault_count smallest ≡ 2
  pub c17_has_34 : fault_count c17 ≡ 34

-- how large the formulas of two faults are: B, fault 2, is net 1 stuck at 0, and c17, fault 0, is net 0 stuck at 0
pub record Formulas : Type 0 where
  pub b_fault_2 : stuck_of card_b 2 ≡ Some net_one_at_zero
  pub b_fault_2_has_10_variables : variables card_b ≡ 10
  pub b_fault_2_has_22_clauses : length (formula_of card_b net_one_at_zero) ≡ 22
  pub b_fault_2_has_72_places : places (formula_of card_b net_one_at_zero) ≡ 72
  pub c17_fault_0 : stuck_of c17 0 ≡ Some net_zero_at_zero
  pub c17_fault_0_has_25_variables : variables c17 ≡ 25
  pub c17_fault_0_has_56_clauses : length (formula_of c17 net_zero_at_zero) ≡ 56
  pub c17_fault_0_has_187_places : places (formula_of c17 net_zero_at_zero) ≡ 187

-- in B a stuck branch is not its net: 10 shows net 0 stuck at 0, and does not show pin 0 of net 2 stuck at 0
pub record BranchIsNotNet : Type 0 where
  pub fault_0 : stuck_of card_b 0 ≡ Some net_zero_at_zero
  pub fault_8 : stuck_of card_b 8 ≡ Some (record { line = Pin 2 0; level = false })
  pub the_net_is_caught : catches card_b net_zero_at_zero (holding 3 1) ≡ true
  pub the_branch_is_not : catches card_b (record { line = Pin 2 0; level = false }) (holding 3 1) ≡ false

-- A, fault 7: the setting 000 is thinned to X00; XX0, which freeing each cell alone would give, does not catch it, as X against 1 is no difference
pub record Thinning : Type 0 where
  pub fault_7 : stuck_of card_a 7 ≡ Some net_three_at_one
  pub from_000 : thinned card_a net_three_at_one (holding 7 0) 3 ≡ holding 6 0
  pub x00_catches : catches card_a net_three_at_one (holding 6 0) ≡ true
  pub xx0_does_not : catches card_a net_three_at_one (holding 4 0) ≡ false

-- the fixed cells of two vectors together, and a vector that is out of form
pub record Cells : Type 0 where
  pub merging_1x_with_10 : union (holding 1 1) (holding 3 1) ≡ holding 3 1
  pub merging_1x_with_10_is_granted : mergeable (holding 1 1) (holding 3 1) ≡ true
  pub merging_0x_with_10_is_refused : mergeable (holding 1 0) (holding 3 1) ≡ false
  pub care_3_with_one_input_is_refused : in_form 1 3 0 ≡ false

pub record SmallCards : Type 0 where
  pub readings : Readings
  pub fault_counts : FaultCounts
  pub branch_is_not_net : BranchIsNotNet
  pub formulas : Formulas
  pub thinning : Thinning
  pub cells : Cells
  pub searches : Searches
  pub jobs : Jobs
  pub sheets : Sheets

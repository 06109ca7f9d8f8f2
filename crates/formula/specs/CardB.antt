-- Card B: inputs 0 and 1, net 2 AND2(0, 1), net 3 OR2(0, 2), output 3. Its fault 2 is net 1 stuck at 0, and here is its formula.
use Rattle.std.specs.Prelude.{◌≡◌, false, List, [], ◌∷◌, length, ℤ, pos, negsuc, Some}
use Rattle.card.specs.declared.function.Function.TheVariants.{And2, Or2}
use Rattle.card.specs.declared.gate.Operands.TheVariants.{Two}
use Rattle.card.specs.Netlists.{Netlist}
use Rattle.signal.specs.declared.line.Line.TheVariants.{Net}
use Rattle.signal.specs.declared.line.Stuck.{Stuck}
use Rattle.solving.specs.Literals.{places}
use Rattle.faults.specs.Sites.{stuck_of}
use Rattle.formula.specs.Formulas.{formula_of}
use Rattle.formula.specs.Variables.{variables}

abbrev pub card_b : Netlist
card_b = record { inputs = 2; gates = record { function = And2; operands = Two 0 1 } ∷ record { function = Or2; operands = Two 0 2 } ∷ []; outputs = 3 ∷ [] }

abbrev pub net_one_at_zero : Stuck
net_one_at_zero = record { line = Net 1; level = false }

abbrev formula_b : List (List ℤ)
formula_b =
    (negsuc 2 ∷ pos 1 ∷ []) ∷ (negsuc 2 ∷ pos 2 ∷ []) ∷ (pos 3 ∷ negsuc 0 ∷ negsuc 1 ∷ []) ∷
    (pos 4 ∷ negsuc 0 ∷ []) ∷ (pos 4 ∷ negsuc 2 ∷ []) ∷ (negsuc 3 ∷ pos 1 ∷ pos 3 ∷ []) ∷
    (negsuc 8 ∷ []) ∷
    (negsuc 4 ∷ pos 1 ∷ []) ∷ (pos 5 ∷ negsuc 0 ∷ []) ∷
    (negsuc 5 ∷ pos 9 ∷ []) ∷ (pos 6 ∷ negsuc 8 ∷ []) ∷
    (negsuc 6 ∷ pos 5 ∷ []) ∷ (negsuc 6 ∷ pos 6 ∷ []) ∷ (pos 7 ∷ negsuc 4 ∷ negsuc 5 ∷ []) ∷
    (pos 8 ∷ negsuc 4 ∷ []) ∷ (pos 8 ∷ negsuc 6 ∷ []) ∷ (negsuc 7 ∷ pos 5 ∷ pos 7 ∷ []) ∷
    (negsuc 9 ∷ pos 4 ∷ pos 8 ∷ []) ∷ (pos 10 ∷ negsuc 3 ∷ pos 8 ∷ []) ∷ (pos 10 ∷ pos 4 ∷ negsuc 7 ∷ []) ∷ (negsuc 9 ∷ negsuc 3 ∷ negsuc 7 ∷ []) ∷
    (pos 10 ∷ []) ∷ []

pub record CardBStands : Type 0 where
  pub fault_2_is_net_1_stuck_at_0 : stuck_of card_b 2 ≡ Some net_one_at_zero
  pub has_10_variables : variables card_b ≡ 10
  pub has_22_clauses : length (formula_of card_b net_one_at_zero) ≡ 22
  pub has_72_places : places (formula_of card_b net_one_at_zero) ≡ 72
  pub has_these_clauses : formula_of card_b net_one_at_zero ≡ formula_b

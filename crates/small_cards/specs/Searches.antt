-- What searches of faults of the small cards come to: by the definition of a solver, which answers step for step, and as a job enters it.
use Rattle.std.specs.Prelude.{◌≡◌, ℕ, Bool, true, false, List, [], ◌∷◌, pos, negsuc, Some, None as Without}
use Rattle.card.specs.Netlists.{Netlist}
use Rattle.signal.specs.declared.line.Stuck.{Stuck}
use Rattle.vectors.specs.Vectors.{holding}
use Rattle.faults.specs.Sites.{stuck_of}
use Rattle.solving.specs.Backtracking.{backtracked}
use Rattle.solving.specs.Counting.{counted}
use Rattle.solving.specs.Models.{Model}
use Rattle.solving.specs.Trials.{Answer, leaves, told}
use Rattle.solving.specs.declared.verdict.Verdict.{Verdict}
use Rattle.solving.specs.declared.verdict.Verdict.TheVariants.{Found, None, Undecided}
use Rattle.formula.specs.Posing.{holds_formula}
use Rattle.asking.specs.Findings.{Finding, shown, unknown, untestable}
use Rattle.history.specs.Changing.{entering, taking}
use Rattle.history.specs.Views.{mark, new_view}
use Rattle.history.specs.declared.mark.Mark.{Mark}
use Rattle.history.specs.declared.mark.Mark.TheVariants.{Detected, Open, Untestable}
use Rattle.sheets.specs.Working.{finding_from, sheet_budget}
use Rattle.small_cards.specs.Cards.{card_a, card_b}

-- a solver, given the formula of a fault and a budget, answers this verdict after so many steps; that is this finding; and in a new job
-- it gives the taken fault this mark
pub record ComesTo (c : Netlist) (fault : ℕ) (solver : Model → ℕ → Answer) (budget : ℕ) (verdict : Verdict) (steps : ℕ) (found : Finding) (marked : Mark) : Type 0 where
  pub stuck : Stuck
  pub is_the_faults_line : stuck_of c fault ≡ Some stuck
  pub answers : told (solver (holds_formula c stuck) budget) ≡ record { verdict = verdict; steps = steps }
  pub finds : finding_from c stuck (solver (holds_formula c stuck) budget) ≡ found
  pub marks : mark (entering (taking (new_view c) fault) fault found) fault ≡ marked

-- six variables that all lead, and seven clauses; 16 readings satisfy them, each with variable 1 at 0 and variable 2 at 1
abbrev pub six_variables : Model
six_variables = record {
  variables = 6;
  leading = 6;
  clauses =
      (pos 1 ∷ pos 2 ∷ []) ∷ (pos 2 ∷ pos 3 ∷ []) ∷ (negsuc 0 ∷ negsuc 3 ∷ pos 5 ∷ []) ∷ (negsuc 0 ∷ pos 4 ∷ pos 6 ∷ []) ∷
      (negsuc 0 ∷ negsuc 4 ∷ pos 6 ∷ []) ∷ (negsuc 0 ∷ pos 4 ∷ negsuc 5 ∷ []) ∷ (negsuc 0 ∷ negsuc 4 ∷ negsuc 5 ∷ []) ∷ [];
  reading = Without;
}

-- with the budget of a sheet a solver finds this reading after so many steps
pub record Finds (solver : Model → ℕ → Answer) (steps : ℕ) (reading : List Bool) : Type 0 where
  pub answers : told (solver six_variables sheet_budget) ≡ record { verdict = Found; steps = steps }
  pub leaves_the_reading : leaves (solver six_variables sheet_budget) ≡ Some reading

-- the printed cells stand beside each vector: bit j of its two numbers is input j
pub record Searches : Type 0 where
  pub b_fault_2_budget_1_is_undecided : ComesTo card_b 2 backtracked 1 Undecided 1 unknown Open
  pub b_fault_2_budget_2_is_untestable_in_2_steps : ComesTo card_b 2 backtracked 2 None 2 untestable Untestable
  pub b_fault_2_counting_is_undecided_after_3 : ComesTo card_b 2 counted 3 Undecided 3 unknown Open
  pub b_fault_2_counting_needs_4 : ComesTo card_b 2 counted 4 None 4 untestable Untestable
  pub b_fault_0_budget_2_is_undecided : ComesTo card_b 0 backtracked 2 Undecided 2 unknown Open
  -- 1X
  pub b_fault_0_budget_3_gives_1x : ComesTo card_b 0 backtracked 3 Found 3 (shown (holding 1 1)) (Detected 0)
  pub a_fault_7_budget_1_is_undecided : ComesTo card_a 7 backtracked 1 Undecided 1 unknown Open
  -- X00
  pub a_fault_7_gives_x00_in_2_steps : ComesTo card_a 7 backtracked 2 Found 2 (shown (holding 6 0)) (Detected 0)
  pub a_fault_7_gives_x00_in_2_steps_on_a_sheet : ComesTo card_a 7 backtracked sheet_budget Found 2 (shown (holding 6 0)) (Detected 0)
  -- 010000
  pub backtracking_finds_010000_in_5_steps : Finds backtracked 5 (false ∷ true ∷ false ∷ false ∷ false ∷ false ∷ [])
  pub counting_finds_it_in_17 : Finds counted 17 (false ∷ true ∷ false ∷ false ∷ false ∷ false ∷ [])

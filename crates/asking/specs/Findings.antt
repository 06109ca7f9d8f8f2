-- What a solver's answer says of a fault: a vector that shows it, that no setting shows it, or nothing.
-- `Asks` ties it to an answer that a solver may give; `Tells` says what a finding means, in words of settings and fillings.
use Rattle.std.specs.Prelude.{◌≡◌, ℕ, ◌≤◌, Bool, true, List, map, take, Some, None, Option, ◌≢◌}
use Rattle.card.specs.Netlists.{Netlist}
use Rattle.signal.specs.declared.line.Stuck.{Stuck}
use Rattle.vectors.specs.Vectors.{Cells, InForm, holding}
use Rattle.vectors.specs.Views.{cells_of}
use Rattle.faults.specs.Catching.{ShownByEveryFilling, catches}
use Rattle.faults.specs.Showing.{Never}
use Rattle.faults.specs.Thinning.{thinned}
use Rattle.solving.specs.Answers.{Answers}
use Rattle.solving.specs.Leading.{enough}
use Rattle.solving.specs.Models.{Model}
use Rattle.solving.specs.declared.verdict.Solved.{Solved}
use Rattle.solving.specs.declared.verdict.Verdict.{Verdict}
use Rattle.solving.specs.declared.verdict.Verdict.TheVariants.{Found, None as Unsatisfiable, Undecided}
use Rattle.formula.specs.Posing.{holds_formula}
use Rattle.asking.specs.Weights.{weighed}
use Rattle.asking.specs.declared.outcome.Outcome.{Outcome}
use Rattle.asking.specs.declared.outcome.Outcome.TheVariants.{Shown, Untestable, Unknown}

-- the vector that fixes every input to its bit in the setting
abbrev pub fixing : List Bool → Cells
fixing bits = holding (weighed (map (λ _. true) bits)) (weighed bits)

pub data Finding : Type 0 where
  shown : Cells → Finding
  untestable : Finding
  unknown : Finding

-- the setting that a reading begins with, thinned
abbrev pub thinned_setting : Netlist → Stuck → List Bool → Cells
thinned_setting c s reading = thinned c s (fixing (take c.inputs reading)) c.inputs

-- what a verdict says of the fault, with the reading that the solver holds
abbrev pub finding : Netlist → Stuck → Verdict → Option (List Bool) → Finding
finding c s Found None = unknown
finding c s Found (Some reading) = shown (thinned_setting c s reading)
finding c s Unsatisfiable reading = untestable
finding c s Undecided reading = unknown

-- this is an answer that a solver may give on the formula of the fault and nothing else, within the budget; n is what it then holds, and
-- found is what the answer says. That the solver gave this answer is said by its own way of answering, beside it
pub record Asks (c : Netlist) (s : Stuck) (budget : ℕ) (solved : Solved) (found : Finding) (n : Model) : Type 0 where
  pub answers : Answers (holds_formula c s) budget solved n
  pub says : found ≡ finding c s solved.verdict n.reading

-- what a finding means
pub record Tells (c : Netlist) (s : Stuck) (budget : ℕ) (found : Finding) : Type 0 where
  pub every_filling_of_a_shown_vector_shows_the_fault : (v : Cells) → found ≡ shown v → ShownByEveryFilling c s v
  pub a_shown_vector_catches_the_fault : (v : Cells) → found ≡ shown v → catches c s v ≡ true
  pub a_shown_vector_is_in_form : (v : Cells) → found ≡ shown v → InForm c.inputs v
  pub untestable_means_no_setting_shows : found ≡ untestable → Never c s
  pub enough_steps_settle : enough c.inputs ≤ budget → found ≢ unknown

-- what an outcome says, with the numbers of its vector
abbrev pub finding_of : Outcome → Finding
finding_of (Shown v) = shown (cells_of v)
finding_of Untestable = untestable
finding_of Unknown = unknown

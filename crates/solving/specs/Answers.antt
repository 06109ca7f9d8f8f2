-- What every solver promises of its answer: the steps stay within the budget; found leaves a reading that satisfies every clause;
-- none means that no reading does; undecided does not come for a led formula with budget enough.
use Rattle.std.specs.Prelude.{◌≡◌, ℕ, ◌≤◌, Bool, List, length, Some, None, Option}
use Rattle.solving.specs.Readings.{Satisfies}
use Rattle.solving.specs.Leading.{Led, enough}
use Rattle.solving.specs.Models.{Model}
use Rattle.solving.specs.declared.verdict.Verdict.{Verdict}
use Rattle.solving.specs.declared.verdict.Verdict.TheVariants.{Found, None as Unsatisfiable, Undecided}
use Rattle.solving.specs.declared.verdict.Solved.{Solved}

abbrev pub LedModel : Model → Type 0
LedModel m = Led m.clauses m.variables m.leading

-- what a verdict says of the formula, and of the reading that is left
abbrev pub Says : Model → ℕ → Verdict → Option (List Bool) → Type 0
Says m budget Found None = ⊥
Says m budget Found (Some r) = (length r ≡ m.variables) × Satisfies r m.clauses
Says m budget Unsatisfiable None = (r : List Bool) → length r ≡ m.variables → Satisfies r m.clauses → ⊥
Says m budget Unsatisfiable (Some r) = ⊥
Says m budget Undecided None = LedModel m → enough m.leading ≤ budget → ⊥
Says m budget Undecided (Some r) = ⊥

-- what an answer promises, from the model before to the model after
pub record Answers (m : Model) (budget : ℕ) (r : Solved) (n : Model) : Type 0 where
  pub variables : n.variables ≡ m.variables
  pub leading : n.leading ≡ m.leading
  pub clauses : n.clauses ≡ m.clauses
  pub steps : r.steps ≤ budget
  pub says : Says m budget r.verdict n.reading

-- Both solvers, as they are defined, keep what the interface promises.
use Rattle.std.specs.Prelude.{ℕ, ◌≤◌}
use Rattle.solving.specs.Models.{Model}
use Rattle.solving.specs.Answers.{Answers}
use Rattle.solving.specs.Trials.{told, after}
use Rattle.solving.specs.Backtracking.{backtracked}
use Rattle.solving.specs.Counting.{counted}

abbrev pub BacktrackingAnswers : Type 0
BacktrackingAnswers = (m : Model) (budget : ℕ) → m.leading ≤ m.variables → Answers m budget (told (backtracked m budget)) (after m (backtracked m budget))

abbrev pub CountingAnswers : Type 0
CountingAnswers = (m : Model) (budget : ℕ) → 1 ≤ m.leading → m.leading ≤ m.variables → Answers m budget (told (counted m budget)) (after m (counted m budget))

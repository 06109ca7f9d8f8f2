-- What the definitions of the solvers come to: found with a setting, none, or undecided, each with the steps so far.
-- A step is made only while the count is below the budget.
use Rattle.std.specs.Prelude.{ℕ, suc, Bool, true, false, List, Some, None, Option, nat_lt}
use Rattle.solving.specs.Settings.{Setting, reading_of}
use Rattle.solving.specs.Models.{Model, reads}
use Rattle.solving.specs.declared.verdict.Verdict.{Verdict}
use Rattle.solving.specs.declared.verdict.Verdict.TheVariants.{Found, None as Unsatisfiable, Undecided}
use Rattle.solving.specs.declared.verdict.Solved.{Solved}

pub data Answer : Type 0 where
  found : Setting → ℕ → Answer
  none : ℕ → Answer
  undecided : ℕ → Answer

abbrev pub steps_of : Answer → ℕ
steps_of (found b s) = s
steps_of (none s) = s
steps_of (undecided s) = s

abbrev pub verdict_of : Answer → Verdict
verdict_of (found b s) = Found
verdict_of (none s) = Unsatisfiable
verdict_of (undecided s) = Undecided

-- the reading that is left
abbrev pub leaves : Answer → Option (List Bool)
leaves (found b s) = Some (reading_of b)
leaves (none s) = None
leaves (undecided s) = None

-- what a solver answers, and what it holds then
abbrev pub told : Answer → Solved
told answer = record { verdict = verdict_of answer; steps = steps_of answer }

abbrev pub after : Model → Answer → Model
after m answer = reads m (leaves answer)

abbrev pub while : Bool → ℕ → (ℕ → Answer) → Answer
while true s try = try (suc s)
while false s try = undecided s

-- one more step
abbrev pub step : ℕ → ℕ → (ℕ → Answer) → Answer
step budget s try = while (nat_lt s budget) s try

-- where nothing was found, the next thing is tried
abbrev pub or_else : Answer → (ℕ → Answer) → Answer
or_else (found b s) next = found b s
or_else (none s) next = next s
or_else (undecided s) next = undecided s

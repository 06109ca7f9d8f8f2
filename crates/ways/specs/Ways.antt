-- The ways of the two solvers: exactly the answer of their definition, and exactly what it leaves. And the way of a solver of which
-- no more is known than what every solver promises.
use Rattle.std.specs.Prelude.{◌≡◌, ℕ}
use Rattle.solving.specs.Backtracking.{backtracked}
use Rattle.solving.specs.Counting.{counted}
use Rattle.solving.specs.Models.{Model}
use Rattle.solving.specs.Trials.{Answer, after, told}
use Rattle.solving.specs.declared.verdict.Solved.{Solved}

-- this answer and what it leaves of what the solver held
abbrev pub Exactly : Answer → Model → Solved → Model → Type 0
Exactly answer m r n = (r ≡ told answer) × (n ≡ after m answer)

abbrev pub ByBacktracking : Model → ℕ → Solved → Model → Type 0
ByBacktracking m budget r n = Exactly (backtracked m budget) m r n

abbrev pub ByCounting : Model → ℕ → Solved → Model → Type 0
ByCounting m budget r n = Exactly (counted m budget) m r n

-- any answer, and whatever it leaves
abbrev pub AnyWay : Model → ℕ → Solved → Model → Type 0
AnyWay m budget r n = Unit {0}

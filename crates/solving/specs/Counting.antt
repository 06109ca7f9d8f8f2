-- Counting: the settings of the leading variables are tried in rising order, each for a step; closure says what each comes to.
use Rattle.std.specs.Prelude.{ℕ, zero, suc, Bool, true, false, List, [], ◌∷◌, ◌++◌, map, ℤ, ◌==◌}
use Rattle.solving.specs.Settings.{Setting, open_in}
use Rattle.solving.specs.Closing.{violated, closure}
use Rattle.solving.specs.Leading.{leads}
use Rattle.solving.specs.Models.{Model}
use Rattle.solving.specs.Trials.{Answer, found, none, undecided, step, or_else}

-- the settings of k variables in rising order, the first weighing most
unfoldable pub settings : ℕ → List (List Bool)
settings zero = [] ∷ []
settings (suc k) = map (λ bs. false ∷ bs) (settings k) ++ map (λ bs. true ∷ bs) (settings k)

abbrev pub if_set : Bool → Setting → ℕ → Answer
if_set true b s = found b s
if_set false b s = undecided s

abbrev pub unless_violated : Bool → ℕ → Setting → ℕ → Answer
unless_violated true v b s = none s
unless_violated false v b s = if_set (open_in v b == 0) b s

-- what the closure of one leading setting comes to
abbrev pub tried : List (List ℤ) → ℕ → List Bool → ℕ → Answer
tried cs v bs s = unless_violated (violated (closure cs (leads v bs)) cs) v (closure cs (leads v bs)) s

unfoldable pub try_each : List (List ℤ) → ℕ → ℕ → List (List Bool) → ℕ → Answer
try_each cs v budget [] s = none s
try_each cs v budget (bs ∷ rest) s = or_else (step budget s (tried cs v bs)) (try_each cs v budget rest)

abbrev pub counting : List (List ℤ) → ℕ → ℕ → ℕ → Answer
counting cs v k budget = try_each cs v budget (settings k) 0

abbrev pub counted : Model → ℕ → Answer
counted m budget = counting m.clauses m.variables m.leading budget

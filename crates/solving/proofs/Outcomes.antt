-- What an answer of the definitions comes to for a formula of v variables, k of them leading; and that this is what the interface promises.
use Rattle.std.proofs.Common.{◌≡◌, ℕ, ◌≤◌, Bool, List, length, ℤ, refl, ◌∙◌}
use lib.ListN.{length-map}
use Rattle.solving.specs.Readings.{Satisfies}
use Rattle.solving.specs.Settings.{Setting, open_in, reading_of, bit_of}
use Rattle.solving.specs.Leading.{Led, enough}
use Rattle.solving.specs.Models.{Model}
use Rattle.solving.specs.Answers.{Says, Answers}
use Rattle.solving.specs.Trials.{Answer, found, none, undecided, steps_of, verdict_of, leaves, told, after}
use Rattle.solving.specs.SearchLaws.{Decided}

-- a setting of every variable that satisfies
pub record Read (cs : List (List ℤ)) (v : ℕ) (b : Setting) : Type 0 where
  pub long : length b ≡ v
  pub set : open_in v b ≡ 0
  pub holds : Satisfies (reading_of b) cs

abbrev pub Promised : List (List ℤ) → ℕ → Answer → Type 0
Promised cs v (found b s) = Read cs v b
Promised cs v (none s) = (r : List Bool) → length r ≡ v → Satisfies r cs → ⊥
Promised cs v (undecided s) = Unit {0}

pub record Solves (cs : List (List ℤ)) (v k budget : ℕ) (answer : Answer) : Type 0 where
  pub promised : Promised cs v answer
  pub counted : steps_of answer ≤ budget
  pub settled : Led cs v k → enough k ≤ budget → Decided (enough k) answer

says : (m : Model) (budget : ℕ) (answer : Answer) → Solves m.clauses m.variables m.leading budget answer → Says m budget (verdict_of answer) (leaves answer)
says m budget (found b s) h = (length-map b bit_of ∙ h.promised.long, h.promised.holds)
says m budget (none s) h = h.promised
says m budget (undecided s) h = h.settled

pub answers : (m : Model) (budget : ℕ) (answer : Answer) → Solves m.clauses m.variables m.leading budget answer → Answers m budget (told answer) (after m answer)
answers m budget answer h = record { variables = refl; leading = refl; clauses = refl; steps = h.counted; says = says m budget answer h }

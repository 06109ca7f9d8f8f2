-- The laws of backtracking from any start, by any rule that picks an open variable as long as there is one.
use Rattle.std.specs.Prelude.{◌≡◌, ℕ, ◌≤◌, Bool, List, length, replicate, ℤ, Some, None}
use Rattle.solving.specs.Readings.{Satisfies}
use Rattle.solving.specs.Settings.{Setting, at, open_in, Within, full, reading_of}
use Rattle.solving.specs.Leading.{Led, enough}
use Rattle.solving.specs.Trials.{Answer, found, none, undecided}
use Rattle.solving.specs.Backtracking.{Rule, Choice, lowest, backtracking}

-- the rule ends only where nothing is open, and picks what is open
pub record Picks (rule : Rule) : Type 0 where
  pub ends : (a : Setting) → rule a ≡ None → open_in (length a) a ≡ 0
  pub opens : (a : Setting) (c : Choice) → rule a ≡ Some c → at a c.var ≡ None

-- it picks a leading variable as long as one is open
abbrev pub Leads : Rule → ℕ → Type 0
Leads rule k = (a : Setting) (c : Choice) → rule a ≡ Some c → k ≤ c.var → open_in k a ≡ 0

-- every variable has a bit, those of the start their own, and every clause holds
pub record Whole (cs : List (List ℤ)) (a b : Setting) : Type 0 where
  pub keeps : Within a b
  pub long : length b ≡ length a
  pub set : open_in (length b) b ≡ 0
  pub holds : Satisfies (reading_of b) cs

-- found satisfies; none means that no reading which the start allows does
abbrev pub Sound : List (List ℤ) → Setting → Answer → Type 0
Sound cs a (found b s) = Whole cs a b
Sound cs a (none s) = (r : List Bool) → Within a (full r) → Satisfies r cs → ⊥
Sound cs a (undecided s) = Unit {0}

-- steps stay within the budget, and undecided has all of it
abbrev pub Counted : ℕ → ℕ → Answer → Type 0
Counted budget s (found b t) = (s ≤ t) × (t ≤ budget)
Counted budget s (none t) = (s ≤ t) × (t ≤ budget)
Counted budget s (undecided t) = (s ≤ t) × (t ≡ budget)

abbrev pub Decided : ℕ → Answer → Type 0
Decided limit (found b t) = t ≤ limit
Decided limit (none t) = t ≤ limit
Decided limit (undecided t) = ⊥

abbrev pub Backtracks : Type 0
Backtracks = (rule : Rule) → Picks rule → (cs : List (List ℤ)) (budget : ℕ) (a : Setting) → Sound cs a (backtracking rule cs budget a) × Counted budget 0 (backtracking rule cs budget a)

-- a led formula is settled in time
abbrev pub Settled : Type 0
Settled = (rule : Rule) (cs : List (List ℤ)) (budget v k : ℕ) → Picks rule → Leads rule k → Led cs v k → k ≤ v → enough k ≤ budget → Decided (enough k) (backtracking rule cs budget (replicate v None))

-- the lowest open variable is such a rule
abbrev pub Lowest : Type 0
Lowest = Picks lowest × ((k : ℕ) → Leads lowest k)

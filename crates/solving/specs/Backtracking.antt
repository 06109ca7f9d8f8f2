-- Backtracking, by a rule for the next variable and its first bit: close; where nothing is violated and a variable is open,
-- try both bits of the one that the rule picks, each for a step.
use Rattle.std.specs.Prelude.{ℕ, zero, suc, Bool, true, false, not, List, [], ◌∷◌, length, replicate, ℤ, Some, None, Option, slice_set}
use Rattle.solving.specs.Settings.{Setting, open_in}
use Rattle.solving.specs.Closing.{violated, closure}
use Rattle.solving.specs.Models.{Model}
use Rattle.solving.specs.Trials.{Answer, found, none, step, or_else}

-- the place of the next variable, and the bit that it is first set to
pub record Choice : Type 0 where
  pub var : ℕ
  pub bit : Bool

abbrev pub Rule : Type 0
Rule = Setting → Option Choice

abbrev pub later : Option ℕ → Option ℕ
later None = None
later (Some j) = Some (suc j)

abbrev pub or_here : Option Bool → Option ℕ → Option ℕ
or_here None rest = Some zero
or_here (Some b) rest = later rest

abbrev pub lowest_open : Setting → Option ℕ
lowest_open [] = None
lowest_open (x ∷ a) = or_here x (lowest_open a)

abbrev pub to_zero : Option ℕ → Option Choice
to_zero None = None
to_zero (Some j) = Some (record { var = j; bit = false })

-- the lowest open variable, first to 0
abbrev pub lowest : Rule
lowest a = to_zero (lowest_open a)

abbrev pub unless_broken : Bool → ℕ → (Unit {0} → Answer) → Answer
unless_broken true s rest = none s
unless_broken false s rest = rest tt

abbrev pub chosen : Option Choice → Setting → ℕ → (Choice → Answer) → Answer
chosen None b s try = found b s
chosen (Some c) b s try = try c

-- both bits of a choice in turn
abbrev pub both : ℕ → (Setting → ℕ → Answer) → Setting → ℕ → Choice → Answer
both budget deeper b s c = or_else (step budget s (deeper (slice_set b c.var (Some c.bit)))) (λ t. step budget t (deeper (slice_set b c.var (Some (not c.bit)))))

-- one level: what to do at a closed setting b, with what is done one level deeper
abbrev pub level : Rule → List (List ℤ) → ℕ → (Setting → ℕ → Answer) → Setting → ℕ → Answer
level rule cs budget deeper b s = unless_broken (violated b cs) s (λ _. chosen (rule b) b s (both budget deeper b s))

-- each level sets a variable, so there are no more levels than open variables; without levels none is open, and the rule is not asked
unfoldable pub descend : Rule → List (List ℤ) → ℕ → ℕ → Setting → ℕ → Answer
descend rule cs budget zero a s = unless_broken (violated (closure cs a) cs) s (λ _. found (closure cs a) s)
descend rule cs budget (suc n) a s = level rule cs budget (descend rule cs budget n) (closure cs a) s

-- from any start
abbrev pub backtracking : Rule → List (List ℤ) → ℕ → Setting → Answer
backtracking rule cs budget a = descend rule cs budget (open_in (length a) a) a 0

-- from every variable open, by the lowest open variable
abbrev pub backtracked : Model → ℕ → Answer
backtracked m budget = backtracking lowest m.clauses budget (replicate m.variables None)

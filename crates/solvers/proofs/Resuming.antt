-- What the recursion would still do with an answer, given the decisions not yet turned: the bridge from it to a loop with a stack.
use Rattle.std.specs.Prelude.{◌≡◌, ℕ, suc, ◌<◌, ◌≤◌, true, false, not, List, [], ◌∷◌, ◌++◌, length, ℤ, Some, None, slice_set}
use Rattle.solving.specs.Settings.{Setting, open_in}
use Rattle.solving.specs.Closing.{violated, closure}
use Rattle.solving.specs.Trials.{Answer, found, none, undecided, step, or_else}
use Rattle.solving.specs.Backtracking.{Rule, Choice, descend}

-- the recursion with as many levels as it needs
abbrev pub deep : Rule → List (List ℤ) → ℕ → Setting → ℕ → Answer
deep rule cs budget a s = descend rule cs budget (open_in (length a) a) a s

-- a decision not yet turned: the setting where it was made, and what it was
pub record Frame : Type 0 where
  pub base : Setting
  pub choice : Choice

abbrev pub turned : Frame → Setting
turned f = slice_set f.base f.choice.var (Some (not f.choice.bit))

abbrev pub back : Rule → List (List ℤ) → ℕ → Frame → Answer → Answer
back rule cs budget f answer = or_else answer (λ t. step budget t (deep rule cs budget (turned f)))

-- the latest decision stands last
abbrev pub resume : Rule → List (List ℤ) → ℕ → List Frame → Answer → Answer
resume rule cs budget [] answer = answer
resume rule cs budget (f ∷ fs) answer = back rule cs budget f (resume rule cs budget fs answer)

-- the turns of a loop: each leaves what is still to come as it was
pub record Turns (rule : Rule) (cs : List (List ℤ)) (budget : ℕ) (fs : List Frame) (a : Setting) (s : ℕ) : Type 0 where
  pub none : violated (closure cs a) cs ≡ true → fs ≡ [] → resume rule cs budget fs (deep rule cs budget a s) ≡ none s
  pub turn : (gs : List Frame) (f : Frame) → violated (closure cs a) cs ≡ true → fs ≡ gs ++ (f ∷ []) → s < budget → resume rule cs budget fs (deep rule cs budget a s) ≡ resume rule cs budget gs (deep rule cs budget (turned f) (suc s))
  pub tired : (gs : List Frame) (f : Frame) → violated (closure cs a) cs ≡ true → fs ≡ gs ++ (f ∷ []) → budget ≤ s → resume rule cs budget fs (deep rule cs budget a s) ≡ undecided s
  pub found : violated (closure cs a) cs ≡ false → rule (closure cs a) ≡ None → resume rule cs budget fs (deep rule cs budget a s) ≡ found (closure cs a) s
  pub choose : (c : Choice) → violated (closure cs a) cs ≡ false → rule (closure cs a) ≡ Some c → s < budget → resume rule cs budget fs (deep rule cs budget a s) ≡ resume rule cs budget (fs ++ (record { base = closure cs a; choice = c } ∷ [])) (deep rule cs budget (slice_set (closure cs a) c.var (Some c.bit)) (suc s))
  pub weary : (c : Choice) → violated (closure cs a) cs ≡ false → rule (closure cs a) ≡ Some c → budget ≤ s → resume rule cs budget fs (deep rule cs budget a s) ≡ undecided s

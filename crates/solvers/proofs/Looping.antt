-- What backtracking's loop keeps: what is still to come is what the recursion does from the start.
use Rattle.std.specs.Prelude.{◌≡◌, ℕ, ◌+◌, ◌≤◌, false, List, [], ◌∷◌, length, ℤ, None}
use Rattle.solving.specs.Settings.{Setting, at, open_in}
use Rattle.solving.specs.Closing.{violated, first_unit}
use Rattle.solving.specs.Backtracking.{backtracking, lowest}
use Rattle.solvers.specs.declared.decision.Decision.{Decision}
use Rattle.solvers.proofs.Resuming.{Frame, deep, resume}
use Rattle.solvers.proofs.Trails.{frames_of, Rising}

-- at each frame its variable is open
abbrev pub OpenFrames : List Frame → Type 0
OpenFrames [] = Unit {0}
OpenFrames (f ∷ fs) = (at f.base f.choice.var ≡ None) × OpenFrames fs

-- and its setting is closed
abbrev pub ClosedFrames : List (List ℤ) → List Frame → Type 0
ClosedFrames cs [] = Unit {0}
ClosedFrames cs (f ∷ fs) = (violated f.base cs ≡ false) × (first_unit f.base cs ≡ None) × ClosedFrames cs fs

-- the setting is now b on the trail t, and a is where the closure under way began
pub record Kept (cs : List (List ℤ)) (budget : ℕ) (start a b : Setting) (t : List ℤ) (decisions : List Decision) (s : ℕ) : Type 0 where
  pub same : resume lowest cs budget (frames_of b t decisions) (deep lowest cs budget a s) ≡ backtracking lowest cs budget start
  pub rising : Rising 0 (length t) decisions
  pub opened : OpenFrames (frames_of b t decisions)
  pub closed : ClosedFrames cs (frames_of b t decisions)
  pub room : length t + open_in (length b) b ≤ length start
  pub long : length b ≡ length start

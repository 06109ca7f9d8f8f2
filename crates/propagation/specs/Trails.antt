-- The trail of literals made true, and what undoing them leaves.
use Rattle.std.specs.Prelude.{◌≡◌, ◌+◌, List, [], ◌∷◌, ◌++◌, length, ℤ, None, slice_set}
use Rattle.solving.specs.Literals.{place}
use Rattle.solving.specs.Settings.{Setting, open_in}

-- the literal's variable is opened again
abbrev pub unmade : Setting → ℤ → Setting
unmade a l = slice_set a (place l) None

-- the latest first
abbrev pub unmade_all : Setting → List ℤ → Setting
unmade_all a [] = a
unmade_all a (l ∷ t) = unmade (unmade_all a t) l

-- a trail s grown to t while the setting grew from a to b
pub record Grown (a b : Setting) (s t : List ℤ) : Type 0 where
  pub more : List ℤ
  pub trail : t ≡ s ++ more
  pub undone : unmade_all b more ≡ a
  pub long : length b ≡ length a
  pub room : length t + open_in (length b) b ≡ length s + open_in (length a) a

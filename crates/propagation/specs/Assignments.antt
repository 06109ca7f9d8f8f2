-- An assignment as plain things: the setting that its values are, and the literals on its trail.
use Rattle.std.specs.Prelude.{◌≡◌, ℕ, Bool, List, [], ◌∷◌, ◌++◌, take, drop, ℤ, Some, slice_set}
use Rattle.solving.specs.Settings.{Setting, made}
use Rattle.propagation.specs.Stacks.{held}
use Rattle.propagation.specs.Trails.{unmade, unmade_all}
use Rattle.propagation.specs.declared.assignment.Assignment.{Assignment}

pub record Assigned : Type 0 where
  pub setting : Setting
  pub trail : List ℤ

abbrev pub assigned : Assignment → Assigned
assigned a = record { setting = a.values.now; trail = held a.trail }

-- nothing is on the trail yet
abbrev pub begun : Setting → Assigned
begun a = record { setting = a; trail = [] }

-- a variable is given a bit, and nothing is put on the trail
abbrev pub assuming : Assigned → ℕ → Bool → Assigned
assuming a j bit = record { setting = slice_set a.setting j (Some bit); trail = a.trail }

-- a literal is made true, and put on the trail
abbrev pub making : Assigned → ℤ → Assigned
making a l = record { setting = made a.setting l; trail = a.trail ++ (l ∷ []) }

-- back to where the trail was this long
abbrev pub unwound : Assigned → ℕ → Assigned
unwound a to = record { setting = unmade_all a.setting (drop to a.trail); trail = take to a.trail }

-- the latest literal is off the trail, and its variable open
pub record Undone (a b : Assigned) : Type 0 where
  pub latest : ℤ
  pub trail : a.trail ≡ b.trail ++ (latest ∷ [])
  pub setting : b.setting ≡ unmade a.setting latest

-- The scan: the first clause in the list that is false throughout or unit, by its number.
-- The clauses stand in one row of literals, each by the place where it ends.
use Rattle.std.specs.Prelude.{◌≡◌, ℕ, suc, ◌-◌, ◌≤◌, Bool, ◌&&◌, List, [], ◌∷◌, length, take, drop, ℤ, Some, None, Option, Ok, Err, Result, ◌==◌, nat_le}
use Rattle.std.specs.Coded.{Coded-set, coded_ℕ, ×_prop, le_prop}
use Rattle.solving.specs.Settings.{Setting}
use Rattle.solving.specs.declared.state.State.{State}
use Rattle.solving.specs.declared.state.State.TheVariants.{Broken as broken, Lone as unit, Other as other}
use Rattle.solving.specs.States.{state_of}
use Rattle.propagation.specs.declared.conflict.Violated.{Violated}

-- the violated clause by its number; else the unit one by its number, with its open literal, if there is one
abbrev pub Scan : Type 0
Scan = Result (Option (ℕ × ℤ)) Violated

abbrev pub or_later : ℕ → State → Scan → Scan
or_later n broken later = Err (record { clause = n })
or_later n (unit l) later = Ok (Some (n, l))
or_later n other later = later

-- the clauses are numbered from n
unfoldable pub foremost : Setting → ℕ → List (List ℤ) → Scan
foremost a n [] = Ok None
foremost a n (c ∷ cs) = or_later n (state_of a c) (foremost a (suc n) cs)

-- the clauses of a row from a place on, by the places where they end
unfoldable pub clauses_from : List ℤ → ℕ → List ℕ → List (List ℤ)
clauses_from row from [] = []
clauses_from row from (e ∷ ends) = take (e - from) (drop from row) ∷ clauses_from row e ends

-- each clause ends where it begins or later, and the last where the row ends
abbrev pub Ends : List ℤ → ℕ → List ℕ → Type 0
Ends row from [] = from ≡ length row
Ends row from (e ∷ ends) = (from ≤ e) × Ends row e ends

-- it holds in one way only
pub Ends_prop : (row : List ℤ) (from : ℕ) (ends : List ℕ) → IsProp (Ends row from ends)
Ends_prop row from [] = Coded-set coded_ℕ from (length row)
Ends_prop row from (e ∷ ends) = ×_prop le_prop (Ends_prop row e ends)

-- the same as a test, for a row of n literals
abbrev pub ends_well : ℕ → ℕ → List ℕ → Bool
ends_well n from [] = from == n
ends_well n from (e ∷ ends) = nat_le from e && ends_well n e ends

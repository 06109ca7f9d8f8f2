-- What a solver holds: variables, how many of them lead, clauses, and a reading or none; and when it takes more.
use Rattle.std.specs.Prelude.{ℕ, ◌+◌, Bool, ◌&&◌, List, [], ◌∷◌, ◌++◌, length, ℤ, None, Option, nat_le}
use Rattle.solving.specs.Literals.{all_in_range, places}

pub record Model : Type 0 where
  pub variables : ℕ
  pub leading : ℕ
  pub clauses : List (List ℤ)
  pub reading : Option (List Bool)

-- v variables of which k lead, no clause, no reading
abbrev pub begun : ℕ → ℕ → Model
begun v k = record { variables = v; leading = k; clauses = []; reading = None }

abbrev pub fresh : Model
fresh = begun 1 1

-- one clause more, last; the reading is dropped
abbrev pub longer : Model → List ℤ → Model
longer m c = record { variables = m.variables; leading = m.leading; clauses = m.clauses ++ (c ∷ []); reading = None }

-- the same formula with this reading, or none
abbrev pub reads : Model → Option (List Bool) → Model
reads m r = record { variables = m.variables; leading = m.leading; clauses = m.clauses; reading = r }

abbrev pub startable : ℕ → ℕ → Bool
startable v k = (nat_le 1 k && nat_le k 32) && (nat_le k v && nat_le v 560)

-- the clause is within the places that are left
abbrev pub room_for : Model → List ℤ → Bool
room_for m c = nat_le (places m.clauses + (length c + 1)) 9216

abbrev pub appendable : Model → List ℤ → Bool
appendable m c = all_in_range m.variables c && room_for m c

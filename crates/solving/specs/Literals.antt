-- Literals and clauses. The literal j stands for variable j and -j for its negation; variables count from 1, their places from 0.
-- A clause is a list of literals, a formula a list of clauses.
use Rattle.std.specs.Prelude.{ℕ, zero, suc, pred, ◌+◌, Bool, true, false, ◌&&◌, List, [], ◌∷◌, length, ℤ, pos, negsuc, nat_lt}

-- variable j stands at place j - 1 (the literal 0, which no solver takes, would stand at place 0)
abbrev pub place : ℤ → ℕ
place (pos n) = pred n
place (negsuc n) = n

-- the bit that makes the literal true
abbrev pub wants : ℤ → Bool
wants (pos n) = true
wants (negsuc n) = false

-- a literal of one of v variables: not 0, and not above v
abbrev pub in_range : ℕ → ℤ → Bool
in_range v (pos zero) = false
in_range v (pos (suc n)) = nat_lt n v
in_range v (negsuc n) = nat_lt n v

abbrev pub all_in_range : ℕ → List ℤ → Bool
all_in_range v [] = true
all_in_range v (l ∷ ls) = in_range v l && all_in_range v ls

-- a clause uses its literals and one place more
abbrev pub places : List (List ℤ) → ℕ
places [] = 0
places (c ∷ cs) = (length c + 1) + places cs

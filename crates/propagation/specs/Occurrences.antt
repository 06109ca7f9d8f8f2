-- Where literals stand in the row of clauses. Every literal has a number of its own; every place of the row knows its clause, and
-- the last place before it where the same literal stands.
use Rattle.std.specs.Prelude.{◌≡◌, ℕ, zero, suc, ◌+◌, ◌*◌, ◌<◌, ◌≤◌, cond, List, ◌∷◌, length, get_or, ℤ, pos, ◌==◌, nat_le, nat_lt, slice_index, slice_index_or}
use Rattle.solving.specs.Literals.{place, wants}
use Rattle.propagation.specs.Scanning.{Ends}
use Rattle.propagation.specs.declared.occurrence.Occurrence.{Occurrence}

-- the number of a literal
abbrev pub key : ℤ → ℕ
key l = place l * 2 + cond (wants l) 1 0

-- the number of its negation
abbrev pub against : ℤ → ℕ
against l = place l * 2 + cond (wants l) 0 1

-- one past the last of the first n places where the literal of this number stands; 0 where it stands at none
unfoldable pub last_before : List ℤ → ℕ → ℕ → ℕ
last_before row k zero = 0
last_before row k (suc n) = cond (key (slice_index_or row n (pos 0)) == k) (suc n) (last_before row k n)

-- where a clause begins: where the one before it ends
abbrev pub start_of : List ℕ → ℕ → ℕ
start_of ends c = slice_index (0 ∷ ends) c

abbrev pub nowhere : Occurrence
nowhere = record { from = 0; to = 0; before = 0; first = pos 0; second = pos 0 }

-- the links of the first n places
abbrev pub Linked : List ℤ → ℕ → List Occurrence → ℕ → Type 0
Linked row width places n = (p : ℕ) → p < n → key (slice_index_or row p (pos 0)) < width → (get_or places p nowhere).before ≡ last_before row (key (slice_index_or row p (pos 0))) p

-- a literal past the end of every setting: it reads as 0 there, and so is false
abbrev pub never : ℤ
never = pos 32767

abbrev pub literal_at : List ℤ → ℕ → ℕ → ℤ
literal_at row to q = cond (nat_lt q to) (slice_index_or row q (pos 0)) never

-- the first and the second place of a clause other than p
abbrev pub first_other : ℕ → ℕ → ℕ
first_other from p = cond (p == from) (from + 1) from

abbrev pub second_other : ℕ → ℕ → ℕ
second_other from p = cond (nat_le p (from + 1)) (from + 2) (from + 1)

-- the literals beside the first n places
abbrev pub Paired : List ℤ → List Occurrence → ℕ → Type 0
Paired row places n = (p : ℕ) → p < n → ((get_or places p nowhere).first ≡ literal_at row (get_or places p nowhere).to (first_other (get_or places p nowhere).from p)) × ((get_or places p nowhere).second ≡ literal_at row (get_or places p nowhere).to (second_other (get_or places p nowhere).from p))

-- the places of the first n clauses
abbrev pub Spanned : List ℕ → List Occurrence → ℕ → Type 0
Spanned ends places n = (c p : ℕ) → c < n → start_of ends c ≤ p → p < slice_index ends c → ((get_or places p nowhere).from ≡ start_of ends c) × ((get_or places p nowhere).to ≡ slice_index ends c)

-- the heads of the lists, over the first n places
abbrev pub Headed : List ℤ → List ℕ → ℕ → Type 0
Headed row lasts n = (k : ℕ) → k < length lasts → slice_index lasts k ≡ last_before row k n

-- every place of the row is listed
pub record Listed (row : List ℤ) (ends lasts : List ℕ) (places : List Occurrence) : Type 0 where
  pub ended : Ends row 0 ends
  pub roomy : length row ≤ length places
  pub headed : Headed row lasts (length row)
  pub linked : Linked row (length lasts) places (length row)
  pub spanned : Spanned ends places (length ends)
  pub paired : Paired row places (length row)

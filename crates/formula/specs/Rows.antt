-- The clauses of the ten functions, as rows of codes: 1 stands for the net A that a gate makes, 2 for its pin B, 3 for its pin C,
-- a negative number for the negation, and 0 for no literal. A row's clauses say that A is the function of B and C (`RowLaws`).
use Rattle.std.specs.Prelude.{ℕ, zero, suc, pred, List, [], ◌∷◌, map, ℤ, pos, negsuc, slice_index, slice_index_or}
use Rattle.card.specs.declared.function.Function.{Function}
use Rattle.card.specs.Functions.{function_number}

abbrev a⁺ : ℤ
a⁺ = pos 1

abbrev a⁻ : ℤ
a⁻ = negsuc 0

abbrev b⁺ : ℤ
b⁺ = pos 2

abbrev b⁻ : ℤ
b⁻ = negsuc 1

abbrev c⁺ : ℤ
c⁺ = pos 3

abbrev c⁻ : ℤ
c⁻ = negsuc 2

abbrev none : ℤ
none = pos 0

abbrev blank : List ℤ
blank = none ∷ none ∷ none ∷ []

-- by function number: IDA, AND2, OR2, XOR2, INVA, NAND2, NOR2, XNOR2, ZERO, ONE
abbrev pub table : List (List (List ℤ))
table =
    ((a⁻ ∷ b⁺ ∷ none ∷ []) ∷ (a⁺ ∷ b⁻ ∷ none ∷ []) ∷ blank ∷ blank ∷ []) ∷
    ((a⁻ ∷ b⁺ ∷ none ∷ []) ∷ (a⁻ ∷ c⁺ ∷ none ∷ []) ∷ (a⁺ ∷ b⁻ ∷ c⁻ ∷ []) ∷ blank ∷ []) ∷
    ((a⁺ ∷ b⁻ ∷ none ∷ []) ∷ (a⁺ ∷ c⁻ ∷ none ∷ []) ∷ (a⁻ ∷ b⁺ ∷ c⁺ ∷ []) ∷ blank ∷ []) ∷
    ((a⁻ ∷ b⁺ ∷ c⁺ ∷ []) ∷ (a⁺ ∷ b⁻ ∷ c⁺ ∷ []) ∷ (a⁺ ∷ b⁺ ∷ c⁻ ∷ []) ∷ (a⁻ ∷ b⁻ ∷ c⁻ ∷ []) ∷ []) ∷
    ((a⁺ ∷ b⁺ ∷ none ∷ []) ∷ (a⁻ ∷ b⁻ ∷ none ∷ []) ∷ blank ∷ blank ∷ []) ∷
    ((a⁺ ∷ b⁺ ∷ none ∷ []) ∷ (a⁺ ∷ c⁺ ∷ none ∷ []) ∷ (a⁻ ∷ b⁻ ∷ c⁻ ∷ []) ∷ blank ∷ []) ∷
    ((a⁻ ∷ b⁻ ∷ none ∷ []) ∷ (a⁻ ∷ c⁻ ∷ none ∷ []) ∷ (a⁺ ∷ b⁺ ∷ c⁺ ∷ []) ∷ blank ∷ []) ∷
    ((a⁺ ∷ b⁺ ∷ c⁺ ∷ []) ∷ (a⁻ ∷ b⁻ ∷ c⁺ ∷ []) ∷ (a⁻ ∷ b⁺ ∷ c⁻ ∷ []) ∷ (a⁺ ∷ b⁻ ∷ c⁻ ∷ []) ∷ []) ∷
    ((a⁻ ∷ none ∷ none ∷ []) ∷ blank ∷ blank ∷ blank ∷ []) ∷
    ((a⁺ ∷ none ∷ none ∷ []) ∷ blank ∷ blank ∷ blank ∷ []) ∷ []

-- a code and then others, unless it is no literal
abbrev pub with_code : ℤ → List ℤ → List ℤ
with_code (pos zero) codes = codes
with_code (pos (suc n)) codes = pos (suc n) ∷ codes
with_code (negsuc n) codes = negsuc n ∷ codes

-- the literals of a clause of the table
abbrev pub written : List ℤ → List ℤ
written [] = []
written (code ∷ codes) = with_code code (written codes)

-- a clause and then others, unless it is blank
abbrev pub with_clause : List ℤ → List (List ℤ) → List (List ℤ)
with_clause [] clauses = clauses
with_clause (l ∷ ls) clauses = (l ∷ ls) ∷ clauses

-- the clauses of a row of the table
abbrev pub clauses_in : List (List ℤ) → List (List ℤ)
clauses_in [] = []
clauses_in (codes ∷ row) = with_clause (written codes) (clauses_in row)

-- a function's row, and its clauses
abbrev pub row_of : Function → List (List ℤ)
row_of f = slice_index_or table (function_number f) []

abbrev pub rows : Function → List (List ℤ)
rows f = clauses_in (row_of f)

-- the literal of a code, where code j stands for the j-th of these variables
abbrev pub literal_of : List ℕ → ℤ → ℤ
literal_of vs (pos n) = pos (slice_index vs (pred n))
literal_of vs (negsuc n) = negsuc (pred (slice_index vs n))

-- clauses over codes as clauses over these variables
abbrev pub over : List ℕ → List (List ℤ) → List (List ℤ)
over vs cs = map (map (literal_of vs)) cs

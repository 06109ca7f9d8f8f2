-- The text of a sheet: its lines, and the bytes that they make. Fields of a line are separated by one space.
-- Numbers are decimal, without leading zeros; cells and outputs are the characters 0, 1 and X.
use Rattle.std.specs.Prelude.{ℕ, suc, List, [], ◌∷◌, ◌++◌, length, codes, decimal, count_by}
use Rattle.card.specs.Netlists.{Netlist}
use Rattle.reading.specs.Refusals.{refusal_line}
use Rattle.vectors.specs.Rows.{printed}
use Rattle.vectors.specs.Vectors.{Cells}
use Rattle.tester.specs.Characters.{characters}
use Rattle.history.specs.Views.{View, is_detected, is_open, is_untestable}
use Rattle.history.specs.declared.mark.Mark.{Mark}
use Rattle.history.specs.declared.mark.Mark.TheVariants.{Open, Detected, Untestable}

-- how many faults there are, and how many of each mark
abbrev pub head_line : ℕ → ℕ → ℕ → ℕ → List ℕ
head_line faults detected untestable open' = codes "faults " ++ decimal faults ++ codes " detected " ++ decimal detected ++ codes " untestable " ++ decimal untestable ++ codes " open " ++ decimal open'

-- a vector's number, its cells from input 0, and the outputs of the good card from output 0
abbrev pub vector_line : Netlist → ℕ → Cells → List ℕ
vector_line c number v = codes "vector " ++ decimal number ++ codes " " ++ printed c.inputs v ++ codes " " ++ characters c v

-- a fault's number, and what is said of it
abbrev pub fault_line : ℕ → List ℕ → List ℕ
fault_line number word = codes "fault " ++ decimal number ++ codes " " ++ word

abbrev pub untestable_line : ℕ → List ℕ
untestable_line number = fault_line number (codes "untestable")

abbrev pub open_line : ℕ → List ℕ
open_line number = fault_line number (codes "open")

-- a vector has one line
abbrev pub vector_rows : Netlist → ℕ → Cells → List (List ℕ)
vector_rows c number v = vector_line c number v ∷ []

-- a fault has one, unless it is detected
abbrev pub fault_rows : ℕ → Mark → List (List ℕ)
fault_rows number Open = open_line number ∷ []
fault_rows number (Detected vector) = []
fault_rows number Untestable = untestable_line number ∷ []

-- the lines of a list, numbered upwards from the first
abbrev pub numbered : {X : Type 0} → (ℕ → X → List (List ℕ)) → ℕ → List X → List (List ℕ)
numbered rows first [] = []
numbered rows first (x ∷ xs) = rows first x ++ numbered rows (suc first) xs

abbrev pub head_of : List Mark → List ℕ
head_of marks = head_line (length marks) (count_by is_detected marks) (count_by is_untestable marks) (count_by is_open marks)

-- the lines of a sheet: the head, the vectors and the faults, from the marks of a card's faults and the list of vectors
abbrev pub sheet_lines : Netlist → List Mark → List Cells → List (List ℕ)
sheet_lines c marks vectors = head_of marks ∷ (numbered (vector_rows c) 0 vectors ++ numbered fault_rows 0 marks)

-- every line ends with byte 0A
abbrev pub ended : List (List ℕ) → List ℕ
ended [] = []
ended (line ∷ lines) = line ++ (10 ∷ ended lines)

unfoldable pub sheet_text : Netlist → List Mark → List Cells → List ℕ
sheet_text c marks vectors = ended (sheet_lines c marks vectors)

-- the sheet of what a job holds
abbrev pub sheet_of : Netlist → View → List ℕ
sheet_of c v = sheet_text c v.marks v.vectors

-- the text of a card that cannot be read is the one line of its refusal
unfoldable pub refusal_text : ℕ → ℕ → List ℕ
refusal_text number offset = ended (refusal_line number offset ∷ [])

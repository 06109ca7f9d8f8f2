-- A worked sheet: card B, whose output always equals input 0, with four untestable faults.
use Rattle.std.specs.Prelude.{◌≡◌, List, [], ◌∷◌, codes}
use Rattle.vectors.specs.Vectors.{Cells, holding}
use Rattle.formula.specs.CardB.{card_b}
use Rattle.history.specs.declared.mark.Mark.{Mark}
use Rattle.history.specs.declared.mark.Mark.TheVariants.{Detected, Untestable}
use Rattle.report.specs.Lines.{ended, refusal_text, sheet_text}

-- the marks of its faults 0 to 11
abbrev pub marks_b : List Mark
marks_b = Detected 0 ∷ Detected 1 ∷ Untestable ∷ Untestable ∷ Untestable ∷ Detected 1 ∷ Detected 0 ∷ Detected 1 ∷ Untestable ∷ Detected 2 ∷ Detected 3 ∷ Detected 1 ∷ []

-- 1X, 0X, 01 and 10: bit j of the two numbers is input j
abbrev pub vectors_b : List Cells
vectors_b = holding 1 1 ∷ holding 1 0 ∷ holding 3 2 ∷ holding 3 1 ∷ []

abbrev pub SheetOfCardB : Type 0
SheetOfCardB =
    sheet_text card_b marks_b vectors_b ≡ ended (codes "faults 12 detected 8 untestable 4 open 0" ∷ codes "vector 0 1X 1" ∷ codes "vector 1 0X 0" ∷ codes "vector 2 01 0" ∷ codes "vector 3 10 1" ∷ codes "fault 2 untestable" ∷ codes "fault 3 untestable" ∷ codes "fault 4 untestable" ∷ codes "fault 8 untestable" ∷ [])

abbrev pub SheetOfABadCard : Type 0
SheetOfABadCard = refusal_text 5 1 ≡ ended (codes "card refused 5 at 1" ∷ [])

-- Sheets: those of card B and of c17 from their bytes, with what the job of B holds at the end; the line of a bad card; how many
-- vectors the sheet of c17 has. Both texts are those of the files in the folder cards, which come from elsewhere than this program.
use Rattle.std.specs.Prelude.{◌≡◌, ℕ, false, List, [], ◌∷◌, length, replicate, codes, count_by}
use Rattle.reading.specs.Reading.{reading}
use Rattle.history.specs.Views.{is_detected}
use Rattle.report.specs.Lines.{ended}
use Rattle.report.specs.Worked.{marks_b, vectors_b}
use Rattle.sheets.specs.Printing.{text_for}
use Rattle.sheets.specs.Working.{sheet_view}
use Rattle.small_cards.specs.Cards.{bytes_b, bytes_c17, c17, card_b}

abbrev pub text_b : List ℕ
text_b = ended (codes "faults 12 detected 8 untestable 4 open 0" ∷ codes "vector 0 1X 1" ∷ codes "vector 1 0X 0" ∷ codes "vector 2 01 0" ∷ codes "vector 3 10 1" ∷ codes "fault 2 untestable" ∷ codes "fault 3 untestable" ∷ codes "fault 4 untestable" ∷ codes "fault 8 untestable" ∷ [])

abbrev pub text_c17 : List ℕ
text_c17 = ended (codes "faults 34 detected 34 untestable 0 open 0" ∷ codes "vector 0 101XX 1X" ∷ codes "vector 1 001XX 0X" ∷ codes "vector 2 X1X00 11" ∷ codes "vector 3 X0X00 X0" ∷ codes "vector 4 XX011 X1" ∷ codes "vector 5 XX111 X0" ∷ codes "vector 6 XX101 X1" ∷ codes "vector 7 X0X01 X1" ∷ codes "vector 8 100XX 0X" ∷ codes "vector 9 X111X X0" ∷ codes "vector 10 X10XX 11" ∷ [])

pub record Sheets : Type 0 where
  pub what_the_job_of_b_holds : sheet_view card_b ≡ record { marks = marks_b; taken = replicate 12 false; vectors = vectors_b }
  pub the_sheet_of_b : text_for (reading bytes_b) ≡ text_b
  pub the_sheet_of_c17 : text_for (reading bytes_c17) ≡ text_c17
  pub the_line_of_a_bad_card : text_for (reading (0x20 ∷ 0x31 ∷ 0 ∷ 0 ∷ 0 ∷ 1 ∷ [])) ≡ ended (codes "card refused 5 at 1" ∷ [])
  pub all_faults_of_c17_are_detected : count_by is_detected (sheet_view c17).marks ≡ 34
  pub the_sheet_of_c17_has_11_vectors : length (sheet_view c17).vectors ≡ 11

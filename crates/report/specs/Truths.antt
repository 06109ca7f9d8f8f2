-- What a sheet tells, read line by line from its bytes, and that it is true of the card.
-- It speaks of the bytes alone, split at each byte 0A, and of the card: whoever holds the paper has no more.
use Rattle.std.specs.Prelude.{◌≡◌, ℕ, ◌<◌, cond, ◌⊎◌, ◌↔◌, List, [], ◌∷◌, ◌++◌, length, slice_index_or, codes, decimal, count_by, ◌==◌}
use Rattle.card.specs.Netlists.{Netlist}
use Rattle.vectors.specs.Rows.{printed}
use Rattle.vectors.specs.Vectors.{Cells}
use Rattle.faults.specs.Sites.{fault_count}
use Rattle.tester.specs.Characters.{Truthful}
use Rattle.history.specs.Promises.{NoSettingShows, ShownByFillings}
use Rattle.history.specs.Views.{View, is_detected, is_open, is_untestable, mark, vector_at}
use Rattle.history.specs.declared.mark.Mark.TheVariants.{Open, Untestable}
use Rattle.report.specs.Lines.{ended, head_line, open_line, sheet_lines, untestable_line, vector_line}

-- the lines of a text, the first of which has begun: each ends at a byte 0A, and what follows the last of these bytes is no line
abbrev pub lines_from : List ℕ → List ℕ → List (List ℕ)
lines_from begun [] = []
lines_from begun (b ∷ bs) = cond (b == 10) (begun ∷ lines_from [] bs) (lines_from (begun ++ (b ∷ [])) bs)

abbrev pub lines : List ℕ → List (List ℕ)
lines text = lines_from [] text

abbrev pub Among : List ℕ → List (List ℕ) → Type 0
Among line [] = ⊥
Among line (l ∷ ls) = (line ≡ l) ⊎ Among line ls

-- the text has this line
abbrev pub Says : List ℕ → List ℕ → Type 0
Says text line = Among line (lines text)

-- the text tells what is held: the mark of each fault, and each vector
pub record Tells (c : Netlist) (v : View) (text : List ℕ) : Type 0 where
  pub has_these_lines_and_no_others : lines text ≡ sheet_lines c v.marks v.vectors
  pub ends_with_its_last_line : ended (lines text) ≡ text
  pub counts_the_marks_of_the_cards_faults : Says text (head_line (fault_count c) (count_by is_detected v.marks) (count_by is_untestable v.marks) (count_by is_open v.marks))
  pub calls_a_fault_untestable_exactly_if_it_is_marked_so : (f : ℕ) → f < fault_count c → Says text (untestable_line f) ↔ (mark v f ≡ Untestable)
  pub calls_a_fault_open_exactly_if_it_is_marked_so : (f : ℕ) → f < fault_count c → Says text (open_line f) ↔ (mark v f ≡ Open)
  pub has_a_line_for_each_vector : (i : ℕ) → i < length v.vectors → Says text (vector_line c i (vector_at v i))
  pub counts_as_many_faults_as_the_card_has : length v.marks ≡ fault_count c

-- the text has the line of a vector each of whose fillings shows the fault, at one and the same output
pub record ShownByAPrintedVector (c : Netlist) (f : ℕ) (text : List ℕ) : Type 0 where
  pub number : ℕ
  pub cells : Cells
  pub is_printed : Says text (vector_line c number cells)
  pub shows : ShownByFillings c f cells

-- the line has a vector's number, its cells, and one character for each output; a character 0 or 1 is what every filling makes there
pub record TrueOfAVector (c : Netlist) (line : List ℕ) : Type 0 where
  pub number : ℕ
  pub cells : Cells
  pub shown : List ℕ
  pub is_the_line : line ≡ codes "vector " ++ decimal number ++ codes " " ++ printed c.inputs cells ++ codes " " ++ shown
  pub one_for_each_output : length shown ≡ length c.outputs
  pub a_bit_is_what_every_filling_makes : Truthful c cells shown

-- what the text tells is true; a line of a vector is one that begins with v
pub record TellsTheTruth (c : Netlist) (text : List ℕ) : Type 0 where
  pub no_setting_shows_a_fault_called_untestable : (f : ℕ) → f < fault_count c → Says text (untestable_line f) → NoSettingShows c f
  pub a_printed_vector_shows_a_fault_that_has_no_line : (f : ℕ) → f < fault_count c → (Says text (untestable_line f) → ⊥) → (Says text (open_line f) → ⊥) → ∥ ShownByAPrintedVector c f text ∥₁
  pub every_filling_makes_the_bits_printed_for_the_outputs : (line : List ℕ) → Says text line → slice_index_or line 0 0 ≡ 0x76 → TrueOfAVector c line

-- What is printed for card bytes: the sheet of the card that they spell, or the line that says why they spell none.
-- One text for every run of bytes; the call `sheet` writes it, answers its length, and leaves the bytes behind it.
use Rattle.std.specs.Prelude.{◌≡◌, ℕ, ◌≤◌, List, ◌++◌, length, drop, Some, None, Ok, Err, Option, Result}
use Rattle.card.specs.Netlists.{Netlist}
use Rattle.reading.specs.Reading.{reading}
use Rattle.reading.specs.Refusals.{refusal_number, refusal_offset}
use Rattle.reading.specs.Rules.{Accepted, Refused}
use Rattle.reading.specs.declared.fault.CardFault.{CardFault}
use Rattle.report.specs.Limits.{sheet_room}
use Rattle.report.specs.Lines.{refusal_text, sheet_of}
use Rattle.report.specs.Truths.{Tells, TellsTheTruth}
use Rattle.sheets.specs.Working.{sheet_view}
use Rattle.sheets.specs.declared.sheet.Sheet.{Sheet}

abbrev pub text_for : Result Netlist CardFault → List ℕ
text_for (Ok c) = sheet_of c (sheet_view c)
text_for (Err e) = refusal_text (refusal_number e) (refusal_offset e)

-- the fault that is carried beside the length
abbrev pub fault_for : Result Netlist CardFault → Option CardFault
fault_for (Ok c) = None
fault_for (Err e) = Some e

-- a sheet was printed from the start of the buffer
pub record Prints (bytes before after : List ℕ) (sheet : Sheet) : Type 0 where
  pub answers_the_length_of_the_text : sheet.length ≡ length (text_for (reading bytes))
  pub carries_the_fault_of_a_bad_card_whole : sheet.fault ≡ fault_for (reading bytes)
  pub writes_the_text_and_leaves_the_bytes_behind_it : after ≡ text_for (reading bytes) ++ drop (length (text_for (reading bytes))) before
  pub the_text_has_at_most_65536_bytes : length (text_for (reading bytes)) ≤ sheet_room
  pub the_sheet_of_a_card_tells_the_truth : (c : Netlist) → Accepted bytes c → TellsTheTruth c (text_for (reading bytes))
  pub the_sheet_of_a_card_tells_what_the_run_reached : (c : Netlist) → Accepted bytes c → Tells c (sheet_view c) (text_for (reading bytes))
  pub a_bad_card_has_the_line_of_its_first_broken_rule : (number offset : ℕ) → Refused bytes number offset → text_for (reading bytes) ≡ refusal_text number offset

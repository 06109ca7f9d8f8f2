-- What is put into the buffer once the work is done, or could not be.
use Rattle.std.specs.Prelude.{◌≡◌, ℕ, ◌≤◌, List, ◌++◌, length, drop, Some, None, Ok, Err, Result}
use Rattle.reading.specs.Refusals.{refusal_number, refusal_offset}
use Rattle.job.specs.Jobs.{card_held, held}
use Rattle.job.specs.declared.job.Job.{Job}
use Rattle.report.specs.Lines.{refusal_text, sheet_of}
use Rattle.report.specs.Truths.{Tells, TellsTheTruth}
use Rattle.sheets.specs.Working.{sheet_view}
use Rattle.sheets.specs.declared.fault.SheetFault.{SheetFault}
use Rattle.sheets.specs.declared.fault.SheetFault.TheVariants.{Card, Memory, Room}
use Rattle.sheets.specs.declared.sheet.Sheet.{Sheet}

-- the job has worked on every fault
abbrev pub Worked : Result Job SheetFault → Type 0
Worked (Ok j) = held j ≡ sheet_view (card_held j)
Worked (Err e) = Unit {0}

-- this text stands first in the buffer, and the bytes behind it stay
pub record Put (text before after : List ℕ) (sheet : Sheet) : Type 0 where
  pub long : sheet.length ≡ length text
  pub stands : after ≡ text ++ drop (length text) before

abbrev pub Puts : Result Job SheetFault → List ℕ → Result Sheet SheetFault → List ℕ → Type 0
Puts (Ok j) before (Ok s) after =
    Put (sheet_of (card_held j) (held j)) before after s × (s.fault ≡ None) × TellsTheTruth (card_held j) (sheet_of (card_held j) (held j)) × Tells (card_held j) (held j) (sheet_of (card_held j) (held j))
Puts (Ok j) before (Err e) after = ⊥
Puts (Err (Card f)) before (Ok s) after = Put (refusal_text (refusal_number f) (refusal_offset f)) before after s × (s.fault ≡ Some f) × (length (refusal_text (refusal_number f) (refusal_offset f)) ≤ 41)
Puts (Err (Card f)) before (Err e) after = ⊥
Puts (Err Memory) before (Ok s) after = ⊥
Puts (Err Memory) before (Err e) after = (e ≡ Memory) × (after ≡ before)
Puts (Err Room) before (Ok s) after = ⊥
Puts (Err Room) before (Err e) after = (e ≡ Room) × (after ≡ before)

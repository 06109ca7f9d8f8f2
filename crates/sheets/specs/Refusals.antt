-- The number and the offset of every way in which a sheet is refused or its card is bad.
use Rattle.std.specs.Prelude.{ℕ}
use Rattle.reading.specs.Refusals.{refusal_number, refusal_offset}
use Rattle.reading.specs.declared.fault.CardFault.{CardFault}
use Rattle.reading.specs.declared.fault.CardFault.TheVariants as card
use Rattle.sheets.specs.declared.fault.SheetFault.{SheetFault}
use Rattle.sheets.specs.declared.fault.SheetFault.TheVariants.{Room, Memory, Card}

-- a card's fault carried whole; want of memory is no fault of the card
abbrev pub sheet_fault_of : CardFault → SheetFault
sheet_fault_of (card.Unknown at) = Card (card.Unknown at)
sheet_fault_of (card.Ended at) = Card (card.Ended at)
sheet_fault_of (card.Operand fault) = Card (card.Operand fault)
sheet_fault_of (card.LateInput at) = Card (card.LateInput at)
sheet_fault_of (card.Limit at) = Card (card.Limit at)
sheet_fault_of (card.NamedTwice at) = Card (card.NamedTwice at)
sheet_fault_of (card.Incomplete at) = Card (card.Incomplete at)
sheet_fault_of (card.Trailing at) = Card (card.Trailing at)
sheet_fault_of card.Memory = Memory

abbrev pub sheet_number : SheetFault → ℕ
sheet_number Room = 24
sheet_number Memory = 0
sheet_number (Card fault) = refusal_number fault

abbrev pub sheet_offset : SheetFault → ℕ
sheet_offset Room = 0
sheet_offset Memory = 0
sheet_offset (Card fault) = refusal_offset fault

-- The number and the offset of every way in which a card is refused, and the line that tells them.
use Rattle.std.specs.Prelude.{ℕ, List, ◌++◌, codes, decimal}
use Rattle.reading.specs.declared.fault.OperandFault.{OperandFault}
use Rattle.reading.specs.declared.fault.OperandFault.TheVariants.{Cut, Undeclared}
use Rattle.reading.specs.declared.fault.CardFault.{CardFault}
use Rattle.reading.specs.declared.fault.CardFault.TheVariants.{Unknown, Ended, Operand, LateInput, Limit, NamedTwice, Incomplete, Trailing, Memory}

abbrev pub operand_number : OperandFault → ℕ
operand_number (Cut o) = 2
operand_number (Undeclared o) = 5

abbrev pub operand_offset : OperandFault → ℕ
operand_offset (Cut o) = o
operand_offset (Undeclared o) = o

-- want of memory breaks no rule and has the number 0
abbrev pub refusal_number : CardFault → ℕ
refusal_number (Unknown o) = 1
refusal_number (Ended o) = 2
refusal_number (Operand f) = operand_number f
refusal_number (LateInput o) = 3
refusal_number (Limit o) = 4
refusal_number (NamedTwice o) = 6
refusal_number (Incomplete o) = 7
refusal_number (Trailing o) = 8
refusal_number Memory = 0

abbrev pub refusal_offset : CardFault → ℕ
refusal_offset (Unknown o) = o
refusal_offset (Ended o) = o
refusal_offset (Operand f) = operand_offset f
refusal_offset (LateInput o) = o
refusal_offset (Limit o) = o
refusal_offset (NamedTwice o) = o
refusal_offset (Incomplete o) = o
refusal_offset (Trailing o) = o
refusal_offset Memory = 0

-- the line of a card that cannot be read: the number of the refusal and its offset
abbrev pub refusal_line : ℕ → ℕ → List ℕ
refusal_line number offset = codes "card refused " ++ decimal number ++ codes " at " ++ decimal offset

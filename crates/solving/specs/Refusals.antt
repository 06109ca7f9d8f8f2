-- What start, append and value answer, and the number of each refusal.
use Rattle.std.specs.Prelude.{ℕ, ◌-◌, Bool, false, cond, ◌&&◌, List, ℤ, Some, None, Ok, Err, Option, Result, nat_le, slice_index_or}
use Rattle.solving.specs.Literals.{all_in_range}
use Rattle.solving.specs.Models.{Model, startable, room_for}
use Rattle.solving.specs.declared.fault.StartFault.{StartFault}
use Rattle.solving.specs.declared.fault.StartFault.TheVariants.{Size}
use Rattle.solving.specs.declared.fault.AppendFault.{AppendFault}
use Rattle.solving.specs.declared.fault.AppendFault.TheVariants.{Literal, Places}
use Rattle.solving.specs.declared.fault.ValueFault.{ValueFault}
use Rattle.solving.specs.declared.fault.ValueFault.TheVariants.{Variable, Reading}

abbrev pub start_number : StartFault → ℕ
start_number Size = 19

abbrev pub append_number : AppendFault → ℕ
append_number Literal = 20
append_number Places = 21

abbrev pub value_number : ValueFault → ℕ
value_number Variable = 22
value_number Reading = 23

abbrev pub started : ℕ → ℕ → Result (Unit {0}) StartFault
started v k = cond (startable v k) (Ok tt) (Err Size)

-- the literals are tested first
abbrev pub appended : Model → List ℤ → Result (Unit {0}) AppendFault
appended m c = cond (all_in_range m.variables c) (cond (room_for m c) (Ok tt) (Err Places)) (Err Literal)

-- (a reading that was found has a bit for each variable)
abbrev pub bit_in : Option (List Bool) → ℕ → Result Bool ValueFault
bit_in None j = Err Reading
bit_in (Some r) j = Ok (slice_index_or r (j - 1) false)

-- the variable is tested first
abbrev pub valued : Model → ℕ → Result Bool ValueFault
valued m j = cond (nat_le 1 j && nat_le j m.variables) (bit_in m.reading j) (Err Variable)

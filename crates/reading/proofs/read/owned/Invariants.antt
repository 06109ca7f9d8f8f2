use Rattle.std.proofs.Common.{◌≡◌, ◌≤◌, length, take, vec_items, vec_len, vec_capacity}
use Rattle.reading.proofs.read.owned.Given as goal

abbrev pub invariant-loop-element : goal.invariant-loop-element
invariant-loop-element g l = (l.element-index ≤ length l.elements)
    × (vec_len l.list ≡ l.element-index)
    × (length l.elements ≤ vec_capacity l.list)
    × (vec_items l.list ≡ take l.element-index l.elements)

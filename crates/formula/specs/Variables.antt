-- The variables of a fault's formula, on a card of n nets: one for each net of the good card, one for each net of the faulty card,
-- one for the stuck line, and one for each output, which says that good and faulty card differ there. They count from 1.
use Rattle.std.specs.Prelude.{ℕ, suc, ◌+◌, length}
use Rattle.card.specs.Netlists.{Netlist, nets}

-- net j of the good card
abbrev pub good : ℕ → ℕ
good j = suc j

-- net j of the faulty card
abbrev pub faulty : ℕ → ℕ → ℕ
faulty n j = suc (n + j)

-- the line that sticks
abbrev pub stuck_line : ℕ → ℕ
stuck_line n = suc (n + n)

-- whether output i differs
abbrev pub difference : ℕ → ℕ → ℕ
difference n i = suc (suc (n + n) + i)

-- how many there are
abbrev pub variables : Netlist → ℕ
variables c = suc (nets c + nets c) + length c.outputs

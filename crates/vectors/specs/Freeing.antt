-- A vector with one cell made free.
-- A number loses a bit by losing its weight; a bit that is not there loses nothing.
use Rattle.std.specs.Prelude.{◌≡◌, ℕ, ◌-◌, ◌^◌, cond, ◌==◌}
use Rattle.signal.specs.declared.ternary.Ternary.TheVariants.{X}
use Rattle.vectors.specs.Vectors.{Cells, bit_at, cell_at, holding}

-- the number without its bit j
abbrev pub without : ℕ → ℕ → ℕ
without n j = cond (bit_at n j) (n - 2 ^ j) n

-- the vector with the cell of input j free
abbrev pub freed : Cells → ℕ → Cells
freed v j = holding (without v.care j) (without v.value j)

-- w has the cells of v, but for that of input j, which is free
abbrev pub FreesOnly : ℕ → Cells → Cells → Type 0
FreesOnly j v w = (i : ℕ) → cell_at w i ≡ cond (i == j) X (cell_at v i)

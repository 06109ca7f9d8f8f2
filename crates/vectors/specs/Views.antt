-- What a vector means: its two numbers.
-- The contracts speak of these cells only, so the type itself stays closed to other crates.
use Rattle.vectors.specs.Vectors.{Cells}
use Rattle.vectors.specs.declared.vector.Vector.{Vector}

abbrev pub cells_of : Vector → Cells
cells_of v = record { care = v.care; value = v.value }

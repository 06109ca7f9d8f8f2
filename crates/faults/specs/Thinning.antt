-- Thinning: each input's cell, in rising order, is tried free on top of those freed so far, and stays free if the vector still catches the fault.
use Rattle.std.specs.Prelude.{◌≡◌, ℕ, zero, suc, ◌<◌, true, false, cond}
use Rattle.card.specs.Netlists.{Netlist}
use Rattle.signal.specs.declared.line.Stuck.{Stuck}
use Rattle.vectors.specs.Freeing.{freed}
use Rattle.vectors.specs.Vectors.{Cells, bit_at}
use Rattle.faults.specs.Catching.{catches}

-- the cell of one input tried
abbrev pub tried : Netlist → Stuck → Cells → ℕ → Cells
tried c s v j = cond (catches c s (freed v j)) (freed v j) v

-- the cells of the first n inputs tried
abbrev pub thinned : Netlist → Stuck → Cells → ℕ → Cells
thinned c s v zero = v
thinned c s v (suc n) = tried c s (thinned c s v n) n

-- no cell that is still fixed can be freed without losing the catch
abbrev pub NoneToFree : Netlist → Stuck → Cells → Type 0
NoneToFree c s v = (j : ℕ) → j < c.inputs → bit_at v.care j ≡ true → catches c s (freed v j) ≡ false

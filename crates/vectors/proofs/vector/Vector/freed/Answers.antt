-- Without a bit of care the value has none there either.
use Rattle.std.proofs.Common.{◌≡◌, sym, ◌∙◌, subst, ap₂}
use lib.Bits.{bit_and}
use Rattle.vectors.specs.Vectors.{Cells, holding}
use Rattle.vectors.specs.Views.{cells_of}
use Rattle.vectors.specs.Freeing.{FreesOnly, freed}
use Rattle.vectors.proofs.Freed.{freed_cells, freed_is_zero}
use Rattle.vectors.proofs.vector.Vector.freed.Goals as goal

pub invariant_of-result : goal.invariant_of-result
invariant_of-result c =
    let v = c.args.self.now in
    record { free_is_zero = ap₂ bit_and c.without-value.ensures.lacks_the_bit c.without-care.ensures.lacks_the_bit ∙ freed_is_zero v.care v.value c.args.input v.free_is_zero ∙ sym c.without-value.ensures.lacks_the_bit }

pub returns-clause-frees_that_cell_alone : goal.returns-clause-frees_that_cell_alone
returns-clause-frees_that_cell_alone c =
    let e : holding c.without-care.result c.without-value.result ≡ freed (cells_of c.args.self.now) c.args.input = ap₂ holding c.without-care.ensures.lacks_the_bit c.without-value.ensures.lacks_the_bit in
    subst (λ (w : Cells). FreesOnly c.args.input (cells_of c.args.self.now) w) (sym e) (freed_cells (cells_of c.args.self.now) c.args.input)

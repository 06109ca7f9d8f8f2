-- The numbers that a refused vector and a refused merging are reported by.
-- Each refusal has one number of its own.
use Rattle.std.specs.Prelude.{ℕ}
use Rattle.vectors.specs.declared.fault.VectorFault.{VectorFault}
use Rattle.vectors.specs.declared.fault.VectorFault.TheVariants.{NotInForm}
use Rattle.vectors.specs.declared.merge_fault.MergeFault.{MergeFault}
use Rattle.vectors.specs.declared.merge_fault.MergeFault.TheVariants.{OppositeBits}

abbrev pub vector_refusal : VectorFault → ℕ
vector_refusal NotInForm = 16

abbrev pub merge_refusal : MergeFault → ℕ
merge_refusal OppositeBits = 18

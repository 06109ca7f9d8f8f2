-- The number that a refused fault number is reported by, and the text that every refusal by number is shown as.
use Rattle.std.specs.Prelude.{ℕ, ◌++◌, List, codes, decimal}
use Rattle.faults.specs.declared.refusal.FaultRefusal.{FaultRefusal}
use Rattle.faults.specs.declared.refusal.FaultRefusal.TheVariants.{NoSuchFault}

abbrev pub fault_refusal : FaultRefusal → ℕ
fault_refusal NoSuchFault = 9

abbrev pub refused_text : ℕ → List ℕ
refused_text number = codes "refused " ++ decimal number

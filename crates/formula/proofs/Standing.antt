-- The laws of fault formulas, together.
use Rattle.formula.specs.Meanings.{FormulaStands}
use Rattle.formula.proofs.Leading.{led}
use Rattle.formula.proofs.Meant.{means}
use Rattle.formula.proofs.Sizes.{fits}

pub formula_stands : FormulaStands
formula_stands c s lawful = record { means = means c s lawful; led = led c s lawful; fits = fits c s lawful }

-- What a store means: the model of a solver that keeps its formula there.
use Rattle.std.specs.Prelude.{cond, Some, None, vec_items}
use Rattle.solving.specs.Settings.{reading_of}
use Rattle.solving.specs.Models.{Model}
use Rattle.solvers.specs.declared.store.Store.{Store}
use Rattle.propagation.specs.Scanning.{clauses_from}

abbrev pub model_of : Store → Model
model_of s = record { variables = s.variables; leading = s.leading; clauses = clauses_from (vec_items s.literals) 0 (vec_items s.ends); reading = cond s.read (Some (reading_of (vec_items s.values))) None }

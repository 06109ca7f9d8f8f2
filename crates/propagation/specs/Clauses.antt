-- The clauses of a formula, as a row holds them and as closure reads them, as a list of lists of literals.
use Rattle.std.specs.Prelude.{List, ℤ}
use Rattle.propagation.specs.Scanning.{clauses_from}
use Rattle.propagation.specs.Occurrences.{Listed}
use Rattle.propagation.specs.declared.clauses.Clauses.{Clauses}
use Rattle.propagation.specs.declared.lists.Lists.{Lists}
use Rattle.propagation.specs.declared.row.Row.{Row}

abbrev pub clauses_in : Row → List (List ℤ)
clauses_in row = clauses_from row.literals.now 0 row.ends.now

abbrev pub clauses_of : Clauses → List (List ℤ)
clauses_of c = clauses_in c.row

-- as plain slices hold them
abbrev pub clauses_listed : Lists → List (List ℤ)
clauses_listed c = clauses_from c.literals.now 0 c.ends.now

-- every place of the slices is listed
abbrev pub listed : Lists → Type 0
listed c = Listed c.literals.now c.ends.now c.lasts.now c.places.now

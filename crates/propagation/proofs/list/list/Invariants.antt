use Rattle.std.proofs.Common.{◌≡◌, length}
use Rattle.propagation.specs.Occurrences.{start_of, Headed, Linked, Paired, Spanned}
use Rattle.propagation.proofs.list.list.Given as goal

abbrev pub invariant-loop-to : goal.invariant-loop-to
invariant-loop-to l =
    (l.from ≡ start_of l.row.ends.now l.to-index)
    × Headed l.row.literals.now l.lasts l.from
    × Linked l.row.literals.now (length l.initial.lasts) l.places l.from
    × Paired l.row.literals.now l.places l.from
    × Spanned l.row.ends.now l.places l.to-index

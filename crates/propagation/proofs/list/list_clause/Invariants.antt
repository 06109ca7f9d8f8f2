use Rattle.std.proofs.Common.{◌≡◌, ℕ, ◌<◌, ◌≤◌, length, get_or}
use Rattle.propagation.specs.Occurrences.{nowhere, Headed, Linked, Paired}
use Rattle.propagation.proofs.list.list_clause.Given as goal

abbrev pub invariant-loop-p : goal.invariant-loop-p
invariant-loop-p l =
    Headed l.literals l.lasts l.p
    × Linked l.literals (length l.initial.lasts) l.places l.p
    × Paired l.literals l.places l.p
    × ((q : ℕ) → l.from ≤ q → q < l.p → ((get_or l.places q nowhere).from ≡ l.from) × ((get_or l.places q nowhere).to ≡ l.to))
    × ((q : ℕ) → q < l.from → get_or l.places q nowhere ≡ get_or l.initial.places q nowhere)

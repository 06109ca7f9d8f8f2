-- The readers listed so far and those of the gates from i on are all readers.
use Rattle.std.proofs.Common.{◌≡◌, ◌+◌, ◌++◌, drop, vec_items}
use Rattle.faults.specs.Readers.{gate_readers}
use Rattle.faults.proofs.readers.Readers.of.Given as goal

abbrev pub invariant-loop-i : goal.invariant-loop-i
invariant-loop-i l = vec_items l.list ++ gate_readers (l.inputs + l.i) (drop l.i l.gate-items) ≡ gate_readers l.inputs l.gate-items

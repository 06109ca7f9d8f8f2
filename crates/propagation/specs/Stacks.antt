-- What a stack holds, the latest entry last, and how many it has room for.
use Rattle.std.specs.Prelude.{ℕ, List, length, take}
use Rattle.propagation.specs.declared.stack.Stack.{Stack}

abbrev pub held : {T : Type 0} → Stack T → List T
held s = take s.len s.entries.now

abbrev pub room : {T : Type 0} → Stack T → ℕ
room s = length s.entries.now

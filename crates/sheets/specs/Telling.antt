-- Who waits for a sheet is told of each fault before it is worked on, and of how many there are.
use Rattle.std.specs.Prelude.{◌≡◌, ℕ, zero, suc, Ok, Err, Result}
use Rattle.card.specs.Netlists.{Netlist}
use Rattle.faults.specs.Sites.{fault_count}
use Rattle.reading.specs.declared.fault.CardFault.{CardFault}

-- told of the faults below n, rising, of so many; tells says what the listener becomes by being told of one
abbrev pub Told : {X : Type 0} → (X → ℕ → ℕ → X → Type 0) → ℕ → ℕ → X → X → Type 0
Told tells zero faults before after = after ≡ before
Told {X} tells (suc n) faults before after = (between : X) × Told tells n faults before between × tells between n faults after

-- told of every fault of the card, and of nothing where there is none
abbrev pub ToldFor : {X : Type 0} → (X → ℕ → ℕ → X → Type 0) → Result Netlist CardFault → X → X → Type 0
ToldFor tells (Ok c) before after = Told tells (fault_count c) (fault_count c) before after
ToldFor tells (Err e) before after = after ≡ before

-- Catching a fault by its number: what it says of settings, and that a vector that fixes more catches it too.
use Rattle.std.proofs.Common.{◌≡◌, ℕ, true, Some, None, Option, refl, ap, ◌∙◌}
use Rattle.std.proofs.lemmas.Bool.{false≢true}
use Rattle.card.specs.Netlists.{Netlist}
use Rattle.signal.specs.declared.line.Stuck.{Stuck}
use Rattle.vectors.specs.Extending.{Extends}
use Rattle.vectors.specs.Vectors.{Cells}
use Rattle.faults.specs.Catching.{catches, catches_fault, caught_if}
use Rattle.faults.specs.Sites.{stuck_of}
use Rattle.faults.proofs.Caught.{catch_shown}
use Rattle.faults.proofs.Refined.{catches_more}
use Rattle.history.specs.Promises.{ShownByFillings}

-- a vector that catches the line of a fault catches the fault
pub fault_caught : (c : Netlist) (f : ℕ) (x : Cells) (s : Stuck) → stuck_of c f ≡ Some s → catches c s x ≡ true → catches_fault c f x ≡ true
unfolding catches_fault
fault_caught c f x s e told = ap (λ (t : Option Stuck). caught_if c t x) e ∙ told

-- every filling of it shows the fault
shown_if : (c : Netlist) (f : ℕ) (x : Cells) (t : Option Stuck) → stuck_of c f ≡ t → caught_if c t x ≡ true → ShownByFillings c f x
shown_if c f x None e told = absurd (false≢true told)
shown_if c f x (Some s) e told = record { stuck = s; is_the_faults_line = e; shown = catch_shown c s x told }

pub catches_shown : (c : Netlist) (f : ℕ) (x : Cells) → catches_fault c f x ≡ true → ShownByFillings c f x
unfolding catches_fault
catches_shown c f x told = shown_if c f x (stuck_of c f) refl told

-- and what extends it catches the fault
more_if : (c : Netlist) (x y : Cells) (t : Option Stuck) → Extends y x → caught_if c t x ≡ true → caught_if c t y ≡ true
more_if c x y None e told = told
more_if c x y (Some s) e told = catches_more c s y x e told

pub fault_caught_more : (c : Netlist) (f : ℕ) (x y : Cells) → Extends y x → catches_fault c f x ≡ true → catches_fault c f y ≡ true
unfolding catches_fault
fault_caught_more c f x y e told = more_if c x y (stuck_of c f) e told

-- What follows of a catch by a fault's number, from what follows of it for the number's line.
-- A fault that the card does not have is caught by no vector.
use Rattle.std.proofs.Common.{◌≡◌, ℕ, Bool, true, Decides, IfSome, List, Some, None, Option, ◌∙◌, sym}
use Rattle.std.proofs.lemmas.Bool.{false≢true}
use Rattle.std.proofs.lemmas.Bool.Decides.{Decides-at}
use Rattle.std.specs.Option.{IsSomeAnd}
use Rattle.card.specs.Netlists.{Lawful, Netlist}
use Rattle.signal.specs.declared.line.Stuck.{Stuck}
use Rattle.vectors.specs.Extending.{Extends}
use Rattle.vectors.specs.Vectors.{Cells, Fills}
use Rattle.faults.specs.Catching.{AllFixed, FaultCaughtByMore, FaultDecided, FaultShownByEveryFilling, FaultShownWhereCaught, ShownByEveryFilling, ShownWhereCaught, catches_fault, caught_if}
use Rattle.faults.specs.Showing.{Shows}
use Rattle.faults.specs.Sites.{stuck_of}
use Rattle.faults.proofs.Caught.{catch_shown, caught_shows, fixed_catches}
use Rattle.faults.proofs.Refined.{catches_more}

module _ (c : Netlist) where
  shown_of : (t : Option Stuck) (v : Cells) → caught_if c t v ≡ true → IsSomeAnd t (λ s. ShownByEveryFilling c s v)
  shown_of None v told = absurd (false≢true told)
  shown_of (Some s) v told = catch_shown c s v told

  pub fault_shown : (f : ℕ) (v : Cells) (answer : Bool) → answer ≡ catches_fault c f v → answer ≡ true → FaultShownByEveryFilling c f v
  unfolding catches_fault
  fault_shown f v answer e told = shown_of (stuck_of c f) v (sym e ∙ told)

  where_of : (t : Option Stuck) (v : Cells) → IfSome t (λ s. ShownWhereCaught c s v)
  where_of None v = tt
  where_of (Some s) v = caught_shows c s v

  pub fault_shown_where : (f : ℕ) (v : Cells) → FaultShownWhereCaught c f v
  fault_shown_where f v = where_of (stuck_of c f) v

  more_of : (t : Option Stuck) (v w : Cells) → Extends w v → caught_if c t v ≡ true → caught_if c t w ≡ true
  more_of None v w x told = told
  more_of (Some s) v w x told = catches_more c s w v x told

  pub fault_more : (f : ℕ) (v : Cells) (answer : Bool) → answer ≡ catches_fault c f v → answer ≡ true → FaultCaughtByMore c f v
  unfolding catches_fault
  fault_more f v answer e told w x = more_of (stuck_of c f) v w x (sym e ∙ told)

  decided_of : (t : Option Stuck) (v : Cells) (answer : Bool) → Lawful c → answer ≡ caught_if c t v
      → IfSome t (λ s. AllFixed c.inputs v → (bits : List Bool) → Fills c.inputs v bits → Decides answer (Shows c s bits))
  decided_of None v answer l e = tt
  decided_of (Some s) v answer l e = λ a bits f. Decides-at answer (caught_if c (Some s) v) e (fixed_catches c s v bits l a f)

  pub fault_decided : (f : ℕ) (v : Cells) (answer : Bool) → Lawful c → answer ≡ catches_fault c f v → FaultDecided c f v answer
  unfolding catches_fault
  fault_decided f v answer l e = decided_of (stuck_of c f) v answer l e

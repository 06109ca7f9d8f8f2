-- What it is for a vector to catch a fault: with three values, good and faulty card have opposite definite bits at an output.
-- X against 0 or 1 is no difference.
use Rattle.std.specs.Prelude.{◌≡◌, ℕ, ◌<◌, Bool, true, false, Decides, IfSome, List, length, Some, None, Option, slice_index_or}
use Rattle.std.specs.List.{list_any}
use Rattle.std.specs.Option.{IsSomeAnd}
use Rattle.card.specs.Netlists.{Netlist}
use Rattle.signal.specs.declared.line.Stuck.{Stuck}
use Rattle.signal.specs.declared.ternary.Ternary.{Ternary}
use Rattle.signal.specs.declared.ternary.Ternary.TheVariants.{Low, High, X}
use Rattle.signal.specs.Ternaries.{ternary_operations}
use Rattle.signal.specs.Walks.{net_values}
use Rattle.vectors.specs.Extending.{Extends}
use Rattle.vectors.specs.Vectors.{Cells, Fills, bit_at, start}
use Rattle.faults.specs.Showing.{Shows, ShowsAt, output_net}
use Rattle.faults.specs.Sites.{stuck_of}

-- one of the two is 0 and the other 1
abbrev pub opposite : Ternary → Ternary → Bool
opposite Low Low = false
opposite Low High = true
opposite Low X = false
opposite High Low = true
opposite High High = false
opposite High X = false
opposite X y = false

-- the two are one value
abbrev pub same : Ternary → Ternary → Bool
same Low Low = true
same Low High = false
same Low X = false
same High Low = false
same High High = true
same High X = false
same X Low = false
same X High = false
same X X = true

-- the three values of every net, from the cells of a vector, of the card with this line stuck, or of the good card
abbrev pub ternary_nets : Netlist → Option Stuck → Cells → List Ternary
ternary_nets c t v = net_values ternary_operations t c (start c.inputs v)

-- the values of a net are opposite
abbrev pub opposite_at : List Ternary → List Ternary → ℕ → Bool
opposite_at good faulty net = opposite (slice_index_or good net X) (slice_index_or faulty net X)

-- the values of some net of a list are opposite
abbrev pub opposite_somewhere : List Ternary → List Ternary → List ℕ → Bool
opposite_somewhere good faulty nets = list_any (opposite_at good faulty) nets

-- the vector catches the fault at output i (asked of outputs that the card has)
abbrev pub caught_at : Netlist → Stuck → Cells → ℕ → Bool
caught_at c s v i = opposite_at (ternary_nets c None v) (ternary_nets c (Some s) v) (output_net c i)

-- the vector catches the fault at some output
abbrev pub catches : Netlist → Stuck → Cells → Bool
catches c s v = opposite_somewhere (ternary_nets c None v) (ternary_nets c (Some s) v) c.outputs

-- the vector catches the fault, if the card has it
abbrev pub caught_if : Netlist → Option Stuck → Cells → Bool
caught_if c None x = false
caught_if c (Some s) x = catches c s x

unfoldable pub catches_fault : Netlist → ℕ → Cells → Bool
catches_fault c f x = caught_if c (stuck_of c f) x

-- there is one output at which every filling of the vector shows the fault
pub record ShownByEveryFilling (c : Netlist) (s : Stuck) (v : Cells) : Type 0 where
  pub output : ℕ
  pub shown : (bits : List Bool) → Fills c.inputs v bits → ShowsAt c s bits output

-- wherever the vector catches the fault, every filling shows it there
abbrev pub ShownWhereCaught : Netlist → Stuck → Cells → Type 0
ShownWhereCaught c s v = (i : ℕ) → i < length c.outputs → caught_at c s v i ≡ true → (bits : List Bool) → Fills c.inputs v bits → ShowsAt c s bits i

-- every one of k inputs is fixed
abbrev pub AllFixed : ℕ → Cells → Type 0
AllFixed k v = (j : ℕ) → j < k → bit_at v.care j ≡ true

-- ---- by a fault's number

-- the card has the fault, and there is one output at which every filling of the vector shows it
abbrev pub FaultShownByEveryFilling : Netlist → ℕ → Cells → Type 0
FaultShownByEveryFilling c f v = IsSomeAnd (stuck_of c f) (λ s. ShownByEveryFilling c s v)

-- wherever the vector catches the fault, every filling shows it there
abbrev pub FaultShownWhereCaught : Netlist → ℕ → Cells → Type 0
FaultShownWhereCaught c f v = IfSome (stuck_of c f) (λ s. ShownWhereCaught c s v)

-- every vector that extends this one catches the fault
abbrev pub FaultCaughtByMore : Netlist → ℕ → Cells → Type 0
FaultCaughtByMore c f v = (w : Cells) → Extends w v → catches_fault c f w ≡ true

-- where the vector has no free cell, the answer is whether its one filling shows the fault
abbrev pub FaultDecided : Netlist → ℕ → Cells → Bool → Type 0
FaultDecided c f v answer = IfSome (stuck_of c f) (λ s. AllFixed c.inputs v → (bits : List Bool) → Fills c.inputs v bits → Decides answer (Shows c s bits))

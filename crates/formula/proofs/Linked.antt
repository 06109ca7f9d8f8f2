-- The links of a lawful card: each has as many pins as its function asks, and each gate's pins read nets before it.
use Rattle.std.proofs.Common.{◌≡◌, ℕ, zero, suc, Bool, true, false, cond, List, [], ◌∷◌, length, get_or, Some, None, Option, sym, refl, ap, ◌∙◌, add-zero, add-suc, suc-add, arith}
use Rattle.std.proofs.ByRecursion.{All-append}
use Rattle.std.specs.List.{AllByRecursion as All}
use Rattle.card.specs.declared.function.Function.{Function}
use Rattle.card.specs.declared.gate.Gate.{Gate}
use Rattle.card.specs.Functions.{pin_count}
use Rattle.card.specs.Netlists.{Netlist, Lawful, Ordered, PinsMatch, all_below, nets, pins_of}
use Rattle.signal.specs.declared.line.Stuck.{Stuck}
use Rattle.signal.specs.Walks.{sticks_net}
use Rattle.formula.specs.Links.{Link, copies, gate_links, input_links, link, links, output_links, pin_variables, tied}
use Rattle.formula.specs.Variables.{faulty, good, stuck_line}
use Rattle.formula.proofs.Ruled.{Fitted}

-- gates in order, the first and then the others
pub ordered_head : (j : ℕ) (g : Gate) (gs : List Gate) → Ordered j (g ∷ gs) → all_below j (pins_of g) ≡ true
ordered_head j g gs r = ap (λ m. all_below m (pins_of g)) (sym (add-zero j)) ∙ r 0 g (omega arith)

pub ordered_tail : (j : ℕ) (g : Gate) (gs : List Gate) → Ordered j (g ∷ gs) → Ordered (suc j) gs
ordered_tail j g gs r i d h = ap (λ m. all_below m (pins_of (get_or gs i d))) (suc-add j i ∙ sym (add-suc j i)) ∙ r (suc i) d (omega arith)

gate_fitted : (f : Function) (x line : ℕ) (ys : List ℕ) (b : Bool) → length ys ≡ pin_count f → Fitted (cond b (copies x line) (link f x ys))
gate_fitted f x line ys true h = refl
gate_fitted f x line ys false h = h

module _ (v : ℕ → ℕ) (line : ℕ) (t : Option Stuck) where
  pub length_pin_variables : (j p : ℕ) (reads : List ℕ) → length (pin_variables v line t j p reads) ≡ length reads
  length_pin_variables j p [] = refl
  length_pin_variables j p (a ∷ reads) = ap suc (length_pin_variables j (suc p) reads)

  gates_fitted : (j : ℕ) (gs : List Gate) → PinsMatch gs → All Fitted (gate_links v line t j gs)
  gates_fitted j [] r = tt
  gates_fitted j (g ∷ gs) r = (
    gate_fitted g.function (v j) line (pin_variables v line t j 0 (pins_of g)) (sticks_net t j) (length_pin_variables j 0 (pins_of g) ∙ r 0 g (omega arith)),
    gates_fitted (suc j) gs (λ i d h. r (suc i) d (omega arith)),
  )

inputs_fitted : (n : ℕ) (t : Option Stuck) (j m : ℕ) → All Fitted (input_links n t j m)
inputs_fitted n t j zero = tt
inputs_fitted n t j (suc m) = (refl, inputs_fitted n t (suc j) m)

outputs_fitted : (n i : ℕ) (os : List ℕ) → All Fitted (output_links n i os)
outputs_fitted n i [] = tt
outputs_fitted n i (o ∷ os) = (refl, outputs_fitted n (suc i) os)

tied_fitted : (b : Bool) (x : ℕ) → Fitted (link (tied b) x [])
tied_fitted true x = refl
tied_fitted false x = refl

-- what holds of each of a card's links, by their groups
pub all_links : (P : Link → Type 0) (c : Netlist) (s : Stuck) → All P (gate_links good (stuck_line (nets c)) None c.inputs c.gates) → P (link (tied s.level) (stuck_line (nets c)) [])
    → All P (input_links (nets c) (Some s) 0 c.inputs) → All P (gate_links (faulty (nets c)) (stuck_line (nets c)) (Some s) c.inputs c.gates) → All P (output_links (nets c) 0 c.outputs) → All P (links c s)
all_links P c s goods line ins faults outs = All-append P _ _ goods (line, All-append P _ _ ins (All-append P _ _ faults outs))

pub links_fitted : (c : Netlist) (s : Stuck) → Lawful c → All Fitted (links c s)
links_fitted c s w =
    all_links Fitted c s (gates_fitted good (stuck_line (nets c)) None c.inputs c.gates w.pins_match) (tied_fitted s.level (stuck_line (nets c))) (inputs_fitted (nets c) (Some s) 0 c.inputs)
    (gates_fitted (faulty (nets c)) (stuck_line (nets c)) (Some s) c.inputs c.gates w.pins_match) (outputs_fitted (nets c) 0 c.outputs)

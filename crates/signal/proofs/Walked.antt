-- The nets of a walk one by one: how many there are, that the inputs come first, and that each gate's net has its gate's value.
-- The gate's value is taken at the whole list of nets, so that a reader need not know how far the walk had come.
use Rattle.std.proofs.Common.{◌≡◌, ℕ, zero, suc, ◌+◌, ◌<◌, true, List, [], ◌∷◌, ◌++◌, length, get_or, take, Option, sym, refl, ap, ◌∙◌, append_assoc, add-zero, add-suc, suc-add, arith, length-append, take_at}
use Rattle.std.proofs.lemmas.List.{append-nil, get_or_append_left, get_or_push}
use Rattle.card.specs.declared.gate.Gate.{Gate}
use Rattle.card.specs.declared.function.Function.{Function}
use Rattle.card.specs.declared.function.Function.TheVariants.{Ida, And2, Or2, Xor2, Inva, Nand2, Nor2, Xnor2, Zero, One}
use Rattle.card.specs.Netlists.{Netlist, nets, Ordered, Lawful, all_below, pins_of}
use Rattle.signal.specs.declared.line.Stuck.{Stuck}
use Rattle.signal.specs.Operations.{Operations}
use Rattle.signal.specs.Gates.{joined, truth}
use Rattle.signal.specs.Joins.{joins, unit, ended}
use Rattle.signal.specs.Walks.{unless_stuck, sticks_net, gate_net, walked, entered, net_values}
use Rattle.signal.proofs.Entering.{length_entered, entered_at}
use Rattle.signal.proofs.Steps.{gate_of_front}

-- a gate's answer in three parts
pub truth_in_parts : {S : Type 0} (o : Operations S) (f : Function) (pins : List S) → truth o f pins ≡ ended o f (joined (joins o f) (unit o f) pins)
truth_in_parts o Ida pins = refl
truth_in_parts o And2 pins = refl
truth_in_parts o Or2 pins = refl
truth_in_parts o Xor2 pins = refl
truth_in_parts o Inva pins = refl
truth_in_parts o Nand2 pins = refl
truth_in_parts o Nor2 pins = refl
truth_in_parts o Xnor2 pins = refl
truth_in_parts o Zero pins = refl
truth_in_parts o One pins = refl

module _ {S : Type 0} (o : Operations S) (t : Option Stuck) where
  -- a walk begins with the nets that it starts from
  walked_front : (gs : List Gate) (j : ℕ) (xs : List S) → (ys : List S) × (walked o t j xs gs ≡ xs ++ ys) × (length ys ≡ length gs)
  walked_front [] j xs = ([], sym (append-nil xs), refl)
  walked_front (g ∷ gs) j xs =
      let v = gate_net o t xs j g in
      let r = walked_front gs (suc j) (xs ++ (v ∷ [])) in
      (v ∷ r.0, r.1 ∙ append_assoc xs (v ∷ []) r.0, ap suc r.2)

  pub length_walked : (gs : List Gate) (j : ℕ) (xs : List S) → length (walked o t j xs gs) ≡ length xs + length gs
  length_walked gs j xs = let r = walked_front gs j xs in ap length r.1 ∙ length-append xs r.0 ∙ ap (λ m. length xs + m) r.2

  pub take_walked : (gs : List Gate) (j n : ℕ) (xs : List S) → length xs ≡ n → take n (walked o t j xs gs) ≡ xs
  take_walked gs j n xs e = let r = walked_front gs j xs in ap (take n) r.1 ∙ take_at xs r.0 n e

  pub walked_keeps : (gs : List Gate) (j : ℕ) (xs : List S) (i : ℕ) (d : S) → i < length xs → get_or (walked o t j xs gs) i d ≡ get_or xs i d
  walked_keeps gs j xs i d h = let r = walked_front gs j xs in ap (λ ys. get_or ys i d) r.1 ∙ get_or_append_left xs r.0 d i h

  ordered_more : (j : ℕ) (g : Gate) (gs : List Gate) → Ordered j (g ∷ gs) → Ordered (suc j) gs
  ordered_more j g gs r i d h = ap (λ m. all_below m (pins_of (get_or gs i d))) (suc-add j i ∙ sym (add-suc j i)) ∙ r (suc i) d (omega arith)

  -- net j + i has the value of gate i at all nets
  pub walked_at : (gs : List Gate) (j : ℕ) (xs : List S) (i : ℕ) (g : Gate) (d : S) → length xs ≡ j → Ordered j gs → i < length gs
      → get_or (walked o t j xs gs) (j + i) d ≡ gate_net o t (walked o t j xs gs) (j + i) (get_or gs i g)
  walked_at [] j xs i g d e r h = absurd (omega arith)
  walked_at (f ∷ gs) j xs zero g d e r h =
      let v = gate_net o t xs j f in
      let w = walked o t j xs (f ∷ gs) in
      let pins : all_below j (pins_of f) ≡ true = ap (λ m. all_below m (pins_of f)) (sym (add-zero j)) ∙ r 0 f (omega arith) in
      let made : get_or w j d ≡ v = walked_keeps gs (suc j) (xs ++ (v ∷ [])) j d (simp length-append (omega arith)) ∙ get_or_push xs v d j e in
      ap (λ m. get_or w m d) (add-zero j) ∙ made ∙ ap (λ ys. gate_net o t ys j f) (sym (take_walked (f ∷ gs) j j xs e)) ∙ gate_of_front o t j w j f pins ∙ ap (λ m. gate_net o t w m f) (sym (add-zero j))
  walked_at (f ∷ gs) j xs (suc i) g d e r h =
      let ys = xs ++ (gate_net o t xs j f ∷ []) in
      let w = walked o t (suc j) ys gs in
      let n : j + suc i ≡ suc j + i = add-suc j i ∙ sym (suc-add j i) in
      ap (λ m. get_or w m d) n ∙ walked_at gs (suc j) ys i g d (simp length-append (omega arith)) (ordered_more j f gs r) (omega arith) ∙ ap (λ m. gate_net o t w m (get_or gs i g)) (sym n)

  module _ (c : Netlist) (xs : List S) (fits : length xs ≡ c.inputs) where
    pub length_net_values : length (net_values o t c xs) ≡ nets c
    length_net_values = length_walked c.gates c.inputs (entered o t 0 xs) ∙ ap (λ m. m + length c.gates) (length_entered o t 0 xs ∙ fits)

    -- the net of an input has the input's value, unless it sticks
    pub net_value_of_input : (j : ℕ) (d : S) → j < c.inputs → get_or (net_values o t c xs) j d ≡ unless_stuck o t (sticks_net t j) (get_or xs j d)
    net_value_of_input j d h =
        walked_keeps c.gates c.inputs (entered o t 0 xs) j d (simp length_entered (omega arith))
        ∙ entered_at o t 0 xs j d (omega arith) ∙ ap (λ m. unless_stuck o t (sticks_net t m) (get_or xs j d)) (omega arith)

    -- the net of a gate has its gate's value at all nets
    pub net_value_of_gate : Lawful c → (i : ℕ) (g : Gate) (d : S) → i < length c.gates
        → get_or (net_values o t c xs) (c.inputs + i) d ≡ gate_net o t (net_values o t c xs) (c.inputs + i) (get_or c.gates i g)
    net_value_of_gate r i g d h = walked_at c.gates c.inputs (entered o t 0 xs) i g d (length_entered o t 0 xs ∙ fits) r.ordered h

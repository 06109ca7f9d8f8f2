-- The reading that a setting determines: the good nets, the faulty nets, the stuck line, and the differences at the outputs.
-- Every link holds there.
use Rattle.std.proofs.Common.{◌≡◌, ℕ, zero, suc, pred, ◌+◌, ◌-◌, ◌<◌, ◌≤◌, Bool, true, false, cond, List, [], ◌∷◌, ◌++◌, map, length, get_or, take, Some, None, Option, sym, refl, ap, ◌∙◌, ap₂, add-zero, add-suc, suc-add, arith, length-append}
use mathlib.Core.Bool.{false≢true}
use lib.ListN.{length-map}
use Rattle.std.proofs.lemmas.List.{ext_get_or, get_or_append_left, get_or-append_right, get_or-map, get_or-take, length-take-le, take-append-le}
use Rattle.std.specs.List.{AllByRecursion as All}
use Rattle.card.specs.declared.function.Function.{Function}
use Rattle.card.specs.declared.gate.Gate.{Gate}
use Rattle.card.specs.Netlists.{Netlist, Lawful, Ordered, all_below, nets, pins_of}
use Rattle.card.proofs.Below.{below_head, below_tail}
use Rattle.signal.specs.declared.line.Stuck.{Stuck}
use Rattle.signal.specs.Gates.{truth}
use Rattle.signal.specs.Operations.{bit_operations, differ}
use Rattle.signal.specs.Walks.{gate_net, level_of, net_values, pin_values, sticks_net, sticks_pin}
use Rattle.signal.proofs.Walked.{length_net_values, net_value_of_gate, net_value_of_input}
use Rattle.formula.specs.Links.{copies, gate_links, input_links, link, links, output_links, pin_variables, tied}
use Rattle.formula.specs.Variables.{difference, faulty, good, stuck_line, variables}
use Rattle.formula.proofs.Linked.{all_links, ordered_head, ordered_tail}
use Rattle.formula.proofs.Renamed.{read_bits}
use Rattle.formula.proofs.Ruled.{Holds}

-- the bit of a variable
abbrev pub bit_at : List Bool → ℕ → Bool
bit_at r v = get_or r (pred v) false

-- links hold where the variables of nets have the values of a walk
module _ (r : List Bool) where
  pin_holds : (line x : ℕ) (level p b : Bool) → (b ≡ true → bit_at r line ≡ level) → bit_at r x ≡ p → bit_at r (cond b line x) ≡ cond b level p
  pin_holds line x level p true h e = h refl
  pin_holds line x level p false h e = e

  gate_holds : (f : Function) (x line : ℕ) (ys : List ℕ) (level b : Bool) (bits : List Bool) → (b ≡ true → bit_at r line ≡ level) → read_bits r ys ≡ bits
      → bit_at r x ≡ cond b level (truth bit_operations f bits) → Holds r (cond b (copies x line) (link f x ys))
  gate_holds f x line ys level true bits h k e = e ∙ sym (h refl)
  gate_holds f x line ys level false bits h k e = e ∙ ap (truth bit_operations f) (sym k)

  module _ (v : ℕ → ℕ) (line : ℕ) (t : Option Stuck) (w : List Bool) (hn : (j : ℕ) → sticks_net t j ≡ true → bit_at r line ≡ level_of t) (hp : (j p : ℕ) → sticks_pin t j p ≡ true → bit_at r line ≡ level_of t) where
    pins_hold : (j p : ℕ) (reads : List ℕ) → all_below j reads ≡ true → ((i : ℕ) → i < j → bit_at r (v i) ≡ get_or w i false)
        → read_bits r (pin_variables v line t j p reads) ≡ pin_values bit_operations t w j p reads
    pins_hold j p [] e h = refl
    pins_hold j p (a ∷ reads) e h =
        ap₂ (λ x xs. x ∷ xs) (pin_holds line (v a) (level_of t) (get_or w a false) (sticks_pin t j p) (hp j p) (h a (below_head j a reads e))) (pins_hold j (suc p) reads (below_tail j a reads e) h)

    gates_hold : (gs : List Gate) (j : ℕ) → Ordered j gs → ((i : ℕ) → i < j + length gs → bit_at r (v i) ≡ get_or w i false)
        → ((i : ℕ) (d : Gate) → i < length gs → get_or w (j + i) false ≡ gate_net bit_operations t w (j + i) (get_or gs i d)) → All (Holds r) (gate_links v line t j gs)
    gates_hold [] j o h made = tt
    gates_hold (g ∷ gs) j o h made =
        let here : get_or w j false ≡ gate_net bit_operations t w j g = ap (λ m. get_or w m false) (sym (add-zero j)) ∙ made 0 g (omega arith) ∙ ap (λ m. gate_net bit_operations t w m g) (add-zero j) in (
          gate_holds g.function (v j) line (pin_variables v line t j 0 (pins_of g)) (level_of t) (sticks_net t j) (pin_values bit_operations t w j 0 (pins_of g)) (hn j)
              (pins_hold j 0 (pins_of g) (ordered_head j g gs o) (λ i l. h i (omega arith))) (h j (omega arith) ∙ here),
          gates_hold gs (suc j) (ordered_tail j g gs o) (λ i l. h i (omega arith))
              (λ i d l. let e = suc-add j i ∙ sym (add-suc j i) in ap (λ m. get_or w m false) e ∙ made (suc i) d (omega arith) ∙ ap (λ m. gate_net bit_operations t w m (get_or gs i d)) (sym e)),
        )

  inputs_hold : (n : ℕ) (s : Stuck) (xs : List Bool) → bit_at r (stuck_line n) ≡ s.level → (m j : ℕ) → ((i : ℕ) → i < j + m → bit_at r (good i) ≡ get_or xs i false)
      → ((i : ℕ) → i < j + m → bit_at r (faulty n i) ≡ cond (sticks_net (Some s) i) s.level (get_or xs i false)) → All (Holds r) (input_links n (Some s) j m)
  inputs_hold n s xs hl zero j hg hf = tt
  inputs_hold n s xs hl (suc m) j hg hf = (
    hf j (omega arith) ∙ sym (pin_holds (stuck_line n) (good j) s.level (get_or xs j false) (sticks_net (Some s) j) (λ _. hl) (hg j (omega arith))),
    inputs_hold n s xs hl m (suc j) (λ i l. hg i (omega arith)) (λ i l. hf i (omega arith)),
  )

  outputs_hold : (n : ℕ) (v w : List Bool) (os : List ℕ) (j : ℕ) → ((i : ℕ) → i < n → bit_at r (good i) ≡ get_or v i false) → ((i : ℕ) → i < n → bit_at r (faulty n i) ≡ get_or w i false)
      → all_below n os ≡ true → ((i : ℕ) → i < length os → bit_at r (difference n (j + i)) ≡ differ (get_or v (get_or os i 0) false) (get_or w (get_or os i 0) false)) → All (Holds r) (output_links n j os)
  outputs_hold n v w [] j hg hf hn e = tt
  outputs_hold n v w (o ∷ os) j hg hf hn e =
      let lt = below_head n o os hn in (
        ap (λ m. bit_at r (difference n m)) (sym (add-zero j)) ∙ e 0 (omega arith) ∙ ap₂ differ (sym (hg o lt)) (sym (hf o lt)),
        outputs_hold n v w os (suc j) hg hf (below_tail n o os hn) (λ i l. ap (λ m. bit_at r (difference n m)) (suc-add j i ∙ sym (add-suc j i)) ∙ e (suc i) (omega arith)),
      )

tied_holds : (r : List Bool) (b : Bool) (x : ℕ) → bit_at r x ≡ b → Holds r (link (tied b) x [])
tied_holds r true x e = e
tied_holds r false x e = e

abbrev pub bit_nets : Netlist → Option Stuck → List Bool → List Bool
bit_nets c t xs = net_values bit_operations t c xs

-- whether the good and the faulty value of a net differ
abbrev pub differs_at : Netlist → Stuck → List Bool → ℕ → Bool
differs_at c s xs o = differ (get_or (bit_nets c None xs) o false) (get_or (bit_nets c (Some s) xs) o false)

abbrev behind : Netlist → Stuck → List Bool → List Bool
behind c s xs = s.level ∷ map (differs_at c s xs) c.outputs

abbrev pub canonical : Netlist → Stuck → List Bool → List Bool
canonical c s xs = bit_nets c None xs ++ (bit_nets c (Some s) xs ++ behind c s xs)

module _ (c : Netlist) (s : Stuck) (lawful : Lawful c) (xs : List Bool) (fits : length xs ≡ c.inputs) where
  good_length : length (bit_nets c None xs) ≡ nets c
  good_length = length_net_values bit_operations None c xs fits

  faulty_length : length (bit_nets c (Some s) xs) ≡ nets c
  faulty_length = length_net_values bit_operations (Some s) c xs fits

  at_good : (i : ℕ) → i < nets c → bit_at (canonical c s xs) (good i) ≡ get_or (bit_nets c None xs) i false
  at_good i l = get_or_append_left (bit_nets c None xs) _ false i (omega (arith, good_length))

  past : (i : ℕ) → nets c ≤ i → get_or (canonical c s xs) i false ≡ get_or (bit_nets c (Some s) xs ++ behind c s xs) (i - nets c) false
  past i l = get_or-append_right (bit_nets c None xs) (bit_nets c (Some s) xs ++ behind c s xs) (nets c) i false good_length l

  at_faulty : (i : ℕ) → i < nets c → bit_at (canonical c s xs) (faulty (nets c) i) ≡ get_or (bit_nets c (Some s) xs) i false
  at_faulty i l =
      let e : (nets c + i) - nets c ≡ i = omega arith in
      past (nets c + i) (omega arith) ∙ ap (λ m. get_or (bit_nets c (Some s) xs ++ behind c s xs) m false) e ∙ get_or_append_left (bit_nets c (Some s) xs) (behind c s xs) false i (omega (arith, faulty_length))

  past_both : (i : ℕ) → nets c + nets c ≤ i → get_or (canonical c s xs) i false ≡ get_or (behind c s xs) (i - (nets c + nets c)) false
  past_both i l =
      let e : (i - nets c) - nets c ≡ i - (nets c + nets c) = omega arith in
      past i (omega arith) ∙ get_or-append_right (bit_nets c (Some s) xs) (behind c s xs) (nets c) (i - nets c) false faulty_length (omega arith) ∙ ap (λ m. get_or (behind c s xs) m false) e

  at_line : bit_at (canonical c s xs) (stuck_line (nets c)) ≡ s.level
  at_line =
      let e : (nets c + nets c) - (nets c + nets c) ≡ 0 = omega arith in
      past_both (nets c + nets c) (omega arith) ∙ ap (λ m. get_or (behind c s xs) m false) e

  pub at_difference : (i : ℕ) → i < length c.outputs → bit_at (canonical c s xs) (difference (nets c) i) ≡ differs_at c s xs (get_or c.outputs i 0)
  at_difference i l =
      let e : (suc (nets c + nets c) + i) - (nets c + nets c) ≡ suc i = omega arith in
      past_both (suc (nets c + nets c) + i) (omega arith) ∙ ap (λ m. get_or (behind c s xs) m false) e ∙ get_or-map (differs_at c s xs) c.outputs i 0 false l

  good_input : (i : ℕ) → i < c.inputs → get_or (bit_nets c None xs) i false ≡ get_or xs i false
  good_input i l = net_value_of_input bit_operations None c xs fits i false l

  pub links_hold : All (Holds (canonical c s xs)) (links c s)
  links_hold =
      let r = canonical c s xs in
      let n = nets c in
      all_links (Holds r) c s
      (gates_hold r good (stuck_line n) None (bit_nets c None xs) (λ j x. absurd (false≢true x)) (λ j p x. absurd (false≢true x)) c.gates c.inputs lawful.ordered at_good
      (λ i d l. net_value_of_gate bit_operations None c xs fits lawful i d false l))
      (tied_holds r s.level (stuck_line n) at_line)
      (inputs_hold r n s xs at_line c.inputs 0 (λ i l. at_good i (omega arith) ∙ good_input i (omega arith)) (λ i l. at_faulty i (omega arith) ∙ net_value_of_input bit_operations (Some s) c xs fits i false (omega arith)))
      (gates_hold r (faulty n) (stuck_line n) (Some s) (bit_nets c (Some s) xs) (λ j x. at_line) (λ j p x. at_line) c.gates c.inputs lawful.ordered at_faulty
      (λ i d l. net_value_of_gate bit_operations (Some s) c xs fits lawful i d false l))
      (outputs_hold r n (bit_nets c None xs) (bit_nets c (Some s) xs) c.outputs 0 at_good at_faulty lawful.outputs_declared (λ i l. let e : 0 + i ≡ i = omega arith in ap (λ x. bit_at r (difference n x)) e ∙ at_difference i l))

  pub canonical_length : length (canonical c s xs) ≡ variables c
  canonical_length =
      let e = length-append (bit_nets c None xs) (bit_nets c (Some s) xs ++ behind c s xs) in
      let f = length-append (bit_nets c (Some s) xs) (behind c s xs) in
      let k = length-map c.outputs (differs_at c s xs) in
      omega (arith, good_length, faulty_length)

  pub canonical_begins : take c.inputs (canonical c s xs) ≡ xs
  canonical_begins =
      take-append-le c.inputs (bit_nets c None xs) _ (omega (arith, good_length))
      ∙ ext_get_or false (take c.inputs (bit_nets c None xs)) xs (length-take-le c.inputs (bit_nets c None xs) (omega (arith, good_length)) ∙ sym fits)
      (λ i l. let h : i < c.inputs = omega (arith, length-take-le c.inputs (bit_nets c None xs) (omega (arith, good_length))) in get_or-take c.inputs (bit_nets c None xs) i false h ∙ good_input i h)

-- Two walks that differ in the stuck line alone. Beside the line's net each gate makes the same of equal nets, so the nets before it are
-- those of the good card, and where the line's net keeps its value every net does.
use Rattle.std.proofs.Common.{◌≡◌, ℕ, zero, suc, ◌+◌, ◌<◌, ◌≤◌, Bool, false, ◌&&◌, ◌⊎◌, eqb, List, [], ◌∷◌, ◌++◌, length, get_or, take, drop, Some, None, Option, sym, refl, ap, ◌∙◌, ap₂, subst, ⊎_elim, add-zero, add-suc, suc-add, arith, ext_get_or, get_or-take, length-take-le, ne_eqb, take-append-drop, take-take, zero-add}
use Rattle.std.proofs.lemmas.List.{get_or_default}
use Rattle.std.proofs.lemmas.Bool.{cases_eq}
use Rattle.card.specs.declared.gate.Gate.{Gate}
use Rattle.card.specs.Netlists.{Netlist, Lawful, nets, pins_of}
use Rattle.signal.specs.declared.line.Line.{Line}
use Rattle.signal.specs.declared.line.Line.TheVariants.{Net, Pin}
use Rattle.signal.specs.declared.line.Stuck.{Stuck}
use Rattle.signal.specs.Operations.{Operations}
use Rattle.signal.specs.Gates.{truth}
use Rattle.signal.specs.Walks.{entered, gate_net, is_net, is_pin, net_of, net_values, pin_values, sticks_net, unless_stuck, walked}
use Rattle.signal.proofs.Entering.{entered_at, entered_none, length_entered}
use Rattle.signal.proofs.Steps.{gate_of_front}
use Rattle.signal.proofs.Walked.{length_walked, net_value_of_gate, net_value_of_input, take_walked}

-- ---- a line at any other net

not_the_net : (l : Line) (j : ℕ) → (net_of l ≡ j → ⊥) → is_net l j ≡ false
not_the_net (Net i) j h = ne_eqb i j h
not_the_net (Pin i q) j h = refl

not_the_pin : (l : Line) (j p : ℕ) → (net_of l ≡ j → ⊥) → is_pin l j p ≡ false
not_the_pin (Net i) j p h = refl
not_the_pin (Pin i q) j p h = ap (λ (b : Bool). b && eqb q p) (ne_eqb i j h)

module _ {S : Type 0} (o : Operations S) (s : Stuck) where
  pins_elsewhere : (xs : List S) (j p : ℕ) (reads : List ℕ) → (net_of s.line ≡ j → ⊥) → pin_values o (Some s) xs j p reads ≡ pin_values o None xs j p reads
  pins_elsewhere xs j p [] h = refl
  pins_elsewhere xs j p (a ∷ reads) h =
      ap₂ (λ (b : Bool) (vs : List S). unless_stuck o (Some s) b (get_or xs a (o.constant false)) ∷ vs) (not_the_pin s.line j p h) (pins_elsewhere xs j (suc p) reads h)

  -- a gate that makes another net makes what it makes on the good card
  gate_elsewhere : (xs : List S) (j : ℕ) (g : Gate) → (net_of s.line ≡ j → ⊥) → gate_net o (Some s) xs j g ≡ gate_net o None xs j g
  gate_elsewhere xs j g h =
      ap₂ (λ (b : Bool) (vs : List S). unless_stuck o (Some s) b (truth o g.function vs)) (not_the_net s.line j h) (pins_elsewhere xs j 0 (pins_of g) h)

  -- inputs before the line's net are entered as they are
  entered_before : (j : ℕ) (xs : List S) → j + length xs ≤ net_of s.line → entered o (Some s) j xs ≡ xs
  entered_before j [] h = refl
  entered_before j (x ∷ xs) h =
      ap₂ (λ (b : Bool) (ys : List S). unless_stuck o (Some s) b x ∷ ys) (not_the_net s.line j (λ e. omega arith)) (entered_before (suc j) xs (omega arith))

-- ---- parts of a walk

module _ {S : Type 0} (o : Operations S) (t : Option Stuck) where
  -- the first m gates, and then the others
  pub walked_split : (gs : List Gate) (k m : ℕ) (ys : List S) → m ≤ length gs → walked o t (k + m) (walked o t k ys (take m gs)) (drop m gs) ≡ walked o t k ys gs
  walked_split gs k zero ys h = ap (λ j. walked o t j ys gs) (add-zero k)
  walked_split [] k (suc m) ys h = absurd (omega arith)
  walked_split (g ∷ gs) k (suc m) ys h =
      let zs = ys ++ (gate_net o t ys k g ∷ []) in
      ap (λ j. walked o t j (walked o t (suc k) zs (take m gs)) (drop m gs)) (add-suc k m ∙ sym (suc-add k m)) ∙ walked_split gs (suc k) m zs (omega arith)

  -- the nets before gate m are those that the first m gates make
  pub take_of_walked : (gs : List Gate) (k m : ℕ) (ys : List S) → length ys ≡ k → m ≤ length gs → take (k + m) (walked o t k ys gs) ≡ walked o t k ys (take m gs)
  take_of_walked gs k m ys e h =
      ap (take (k + m)) (sym (walked_split gs k m ys h))
      ∙ take_walked o t (drop m gs) (k + m) (k + m) (walked o t k ys (take m gs)) (length_walked o t (take m gs) k ys ∙ ap₂ ◌+◌ e (length-take-le m gs h))

-- two walks are the same if each gate makes the same from the nets before it
walked_alike : {S : Type 0} (o : Operations S) (t u : Option Stuck) (gs : List Gate) (k : ℕ) (ys : List S)
    → ((i : ℕ) (d : Gate) → i < length gs → gate_net o t (walked o u k ys (take i gs)) (k + i) (get_or gs i d) ≡ gate_net o u (walked o u k ys (take i gs)) (k + i) (get_or gs i d))
    → walked o t k ys gs ≡ walked o u k ys gs
walked_alike o t u [] k ys h = refl
walked_alike o t u (g ∷ gs) k ys h =
    let here : gate_net o t ys k g ≡ gate_net o u ys k g = subst (λ (j : ℕ). gate_net o t ys j g ≡ gate_net o u ys j g) (add-zero k) (h 0 g (omega arith)) in
    let zs = ys ++ (gate_net o u ys k g ∷ []) in
    ap (λ v. walked o t (suc k) (ys ++ (v ∷ [])) gs) here
    ∙ walked_alike o t u gs (suc k) zs (λ i d l.
    let ws = walked o u (suc k) zs (take i gs) in
    subst (λ (j : ℕ). gate_net o t ws j (get_or gs i d) ≡ gate_net o u ws j (get_or gs i d)) (add-suc k i ∙ sym (suc-add k i)) (h (suc i) d (omega arith)))

module _ {S : Type 0} (o : Operations S) (s : Stuck) (c : Netlist) (xs : List S) (fits : length xs ≡ c.inputs) where
  -- gates before the line's net make what they make on the good card
  walked_before : (m : ℕ) → m ≤ length c.gates → c.inputs + m ≤ net_of s.line → walked o (Some s) c.inputs xs (take m c.gates) ≡ walked o None c.inputs xs (take m c.gates)
  walked_before m h b =
      walked_alike o (Some s) None (take m c.gates) c.inputs xs (λ i d l.
      let e : length (take m c.gates) ≡ m = length-take-le m c.gates h in
      gate_elsewhere o s (walked o None c.inputs xs (take i (take m c.gates))) (c.inputs + i) (get_or (take m c.gates) i d) (λ q. omega (arith, e, l, b, q)))

  good_from_inputs : net_values o None c xs ≡ walked o None c.inputs xs c.gates
  good_from_inputs = ap (λ ys. walked o None c.inputs ys c.gates) (entered_none o 0 xs)

  -- the good card's nets begin with the inputs
  pub good_inputs : (ns : List S) → take (nets c) ns ≡ net_values o None c xs → take c.inputs ns ≡ xs
  good_inputs ns e =
      sym (take-take c.inputs (nets c) ns (omega arith)) ∙ ap (take c.inputs) (e ∙ good_from_inputs) ∙ take_walked o None c.gates c.inputs c.inputs xs fits

  -- what the walk with the stuck line begins with: the good card's nets before the line's, with a stuck input entered
  pub begun : (mid old : List S) (m : ℕ) → take (nets c) old ≡ net_values o None c xs → take c.inputs mid ≡ entered o (Some s) 0 (take c.inputs old) → drop c.inputs mid ≡ drop c.inputs old
      → m ≤ length c.gates → (m ≡ 0) ⊎ (c.inputs + m ≤ net_of s.line) → take (c.inputs + m) mid ≡ walked o (Some s) c.inputs (entered o (Some s) 0 xs) (take m c.gates)
  begun mid old m good front rest h at =
      let k = c.inputs in
      let start : take k mid ≡ entered o (Some s) 0 xs = front ∙ ap (entered o (Some s) 0) (good_inputs old good) in
      ⊎_elim {C = take (k + m) mid ≡ walked o (Some s) k (entered o (Some s) 0 xs) (take m c.gates)}
      (λ z. ap (λ n. take n mid) (ap (λ n. k + n) z ∙ add-zero k) ∙ start ∙ sym (ap (λ n. walked o (Some s) k (entered o (Some s) 0 xs) (take n c.gates)) z))
      (λ b.
      let free : entered o (Some s) 0 xs ≡ xs = entered_before o s 0 xs (omega (arith, fits, b)) in
      let same : mid ≡ old = sym (take-append-drop k mid) ∙ ap₂ ◌++◌ (start ∙ free ∙ sym (good_inputs old good)) rest ∙ take-append-drop k old in
      ap (take (k + m)) same ∙ sym (take-take (k + m) (nets c) old (omega (arith, h))) ∙ ap (take (k + m)) (good ∙ good_from_inputs)
      ∙ take_of_walked o None c.gates k m xs fits h ∙ sym (walked_before m h b) ∙ ap (λ ys. walked o (Some s) k ys (take m c.gates)) (sym free))
      at

  -- and ends with the nets of the card where the line sticks
  pub begun_walk : (mid old new : List S) (m n : ℕ) → take n new ≡ walked o (Some s) (c.inputs + m) (take (c.inputs + m) mid) (drop m c.gates)
      → take (nets c) old ≡ net_values o None c xs → take c.inputs mid ≡ entered o (Some s) 0 (take c.inputs old) → drop c.inputs mid ≡ drop c.inputs old
      → m ≤ length c.gates → (m ≡ 0) ⊎ (c.inputs + m ≤ net_of s.line) → take n new ≡ net_values o (Some s) c xs
  begun_walk mid old new m n ran good front rest h at =
      ran ∙ ap (λ ys. walked o (Some s) (c.inputs + m) ys (drop m c.gates)) (begun mid old m good front rest h at)
      ∙ walked_split o (Some s) c.gates c.inputs m (entered o (Some s) 0 xs) h

  -- up to the line's net both cards have the same nets
  nets_before : (i : ℕ) → i ≤ length c.gates → c.inputs + i ≤ net_of s.line → take (c.inputs + i) (net_values o (Some s) c xs) ≡ take (c.inputs + i) (net_values o None c xs)
  nets_before i h b =
      let k = c.inputs in
      let free : entered o (Some s) 0 xs ≡ xs = entered_before o s 0 xs (omega (arith, fits, b)) in
      ap (λ ys. take (k + i) (walked o (Some s) k ys c.gates)) free ∙ take_of_walked o (Some s) c.gates k i xs fits h ∙ walked_before i h b
      ∙ sym (take_of_walked o None c.gates k i xs fits h) ∙ ap (take (k + i)) (sym good_from_inputs)

  -- what the gate of the line's net makes of the good card's nets is the net's value where the line sticks
  pub stuck_gate_value : Lawful c → (good : List S) (i : ℕ) (g : Gate) (d : S) → take (nets c) good ≡ net_values o None c xs → i < length c.gates → net_of s.line ≡ c.inputs + i
      → gate_net o (Some s) good (c.inputs + i) (get_or c.gates i g) ≡ get_or (net_values o (Some s) c xs) (c.inputs + i) d
  stuck_gate_value lawful good i g d e h at =
      let n = c.inputs + i in
      let gate = get_or c.gates i g in
      let faulty = net_values o (Some s) c xs in
      let front : take n good ≡ take n faulty = sym (take-take n (nets c) good (omega (arith, h))) ∙ ap (take n) e ∙ sym (nets_before i (omega (arith, h)) (omega (arith, at))) in
      sym (gate_of_front o (Some s) n good n gate (lawful.ordered i g h)) ∙ ap (λ ns. gate_net o (Some s) ns n gate) front
      ∙ gate_of_front o (Some s) n faulty n gate (lawful.ordered i g h) ∙ sym (net_value_of_gate o (Some s) c xs fits lawful i g d h)

  -- an input's net has the input's value, or the stuck level
  pub stuck_input_value : (good : List S) (n : ℕ) (d e : S) → take (nets c) good ≡ net_values o None c xs → n < c.inputs
      → unless_stuck o (Some s) (sticks_net (Some s) n) (get_or good n e) ≡ get_or (net_values o (Some s) c xs) n d
  stuck_input_value good n d e g h =
      let read : get_or good n e ≡ get_or xs n d = sym (get_or-take c.inputs good n e h) ∙ ap (λ ys. get_or ys n e) (good_inputs good g) ∙ get_or_default xs n e d (omega (arith, fits, h)) in
      ap (unless_stuck o (Some s) (sticks_net (Some s) n)) read ∙ sym (net_value_of_input o (Some s) c xs fits n d h)

  -- where the line's net keeps its value every net does
  pub every_net_keeps : Lawful c → (d : S) → get_or (net_values o (Some s) c xs) (net_of s.line) d ≡ get_or (net_values o None c xs) (net_of s.line) d → net_values o (Some s) c xs ≡ net_values o None c xs
  every_net_keeps lawful d e =
      let k = c.inputs in
      let n = net_of s.line in
      let faulty = net_values o (Some s) c xs in
      let good = net_values o None c xs in
      let input : (i : ℕ) → i < k → unless_stuck o (Some s) (sticks_net (Some s) i) (get_or xs i d) ≡ get_or xs i d =
      λ i h. ⊎_elim {C = unless_stuck o (Some s) (sticks_net (Some s) i) (get_or xs i d) ≡ get_or xs i d}
      (λ q.
      let here : get_or faulty i d ≡ get_or good i d = subst (λ (j : ℕ). get_or faulty j d ≡ get_or good j d) q e in
      sym (net_value_of_input o (Some s) c xs fits i d h) ∙ here ∙ net_value_of_input o None c xs fits i d h)
      (λ q. ap (λ (b : Bool). unless_stuck o (Some s) b (get_or xs i d)) (not_the_net s.line i q))
      (cases_eq n i) in
      let free : entered o (Some s) 0 xs ≡ xs =
      ext_get_or d (entered o (Some s) 0 xs) xs (length_entered o (Some s) 0 xs) (λ i h.
      let l : i < length xs = let w = length_entered o (Some s) 0 xs in omega (arith, h, w) in
      entered_at o (Some s) 0 xs i d l ∙ ap (λ m. unless_stuck o (Some s) (sticks_net (Some s) m) (get_or xs i d)) (zero-add i) ∙ input i (omega (arith, fits, l))) in
      let gate : (i : ℕ) (g : Gate) → i < length c.gates
      → gate_net o (Some s) (walked o None k xs (take i c.gates)) (k + i) (get_or c.gates i g) ≡ gate_net o None (walked o None k xs (take i c.gates)) (k + i) (get_or c.gates i g) =
      λ i g h.
      let front = walked o None k xs (take i c.gates) in
      let own = get_or c.gates i g in
      let pins = lawful.ordered i g h in
      ⊎_elim {C = gate_net o (Some s) front (k + i) own ≡ gate_net o None front (k + i) own}
      (λ q.
      let w : take (k + i) good ≡ front = ap (take (k + i)) good_from_inputs ∙ take_of_walked o None c.gates k i xs fits (omega (arith, h)) in
      let v : take (k + i) faulty ≡ front = nets_before i (omega (arith, h)) (omega (arith, q)) ∙ w in
      let here : get_or faulty (k + i) d ≡ get_or good (k + i) d = subst (λ (j : ℕ). get_or faulty j d ≡ get_or good j d) q e in
      ap (λ ns. gate_net o (Some s) ns (k + i) own) (sym v) ∙ gate_of_front o (Some s) (k + i) faulty (k + i) own pins ∙ sym (net_value_of_gate o (Some s) c xs fits lawful i g d h)
      ∙ here ∙ net_value_of_gate o None c xs fits lawful i g d h ∙ sym (gate_of_front o None (k + i) good (k + i) own pins) ∙ ap (λ ns. gate_net o None ns (k + i) own) w)
      (λ q. gate_elsewhere o s front (k + i) own q)
      (cases_eq n (k + i)) in
      ap (λ ys. walked o (Some s) k ys c.gates) free ∙ walked_alike o (Some s) None c.gates k xs gate ∙ sym good_from_inputs

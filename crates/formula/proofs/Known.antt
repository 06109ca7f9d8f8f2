-- What passes from the pins of each link to its variable, and holds of the leading variables, holds of every variable.
-- Taken at 'two readings agree there' this is uniqueness, and at 'has a bit' it is that the formula is led.
use Rattle.std.proofs.Common.{◌≡◌, ℕ, zero, suc, ◌+◌, ◌-◌, ◌<◌, ◌≤◌, Bool, true, false, cond, ◌⊎◌, List, [], ◌∷◌, ◌++◌, length, Some, None, Option, sym, refl, subst, inl, inr, arith}
use mathlib.Core.Bool.{false≢true}
use Rattle.std.proofs.lemmas.Bool.{cases_eq, cases_lt}
use Rattle.std.specs.List.{AllByRecursion as All}
use Rattle.card.specs.declared.function.Function.{Function}
use Rattle.card.specs.declared.gate.Gate.{Gate}
use Rattle.card.specs.Netlists.{Netlist, Lawful, Ordered, all_below, nets, pins_of}
use Rattle.card.proofs.Below.{below_head, below_tail}
use Rattle.signal.specs.declared.line.Stuck.{Stuck}
use Rattle.signal.specs.Walks.{sticks_net, sticks_pin}
use Rattle.formula.specs.Links.{Link, copies, gate_links, input_links, link, links, output_links, pin_variables, tied}
use Rattle.formula.specs.Variables.{difference, faulty, good, stuck_line, variables}
use Rattle.formula.proofs.Linked.{ordered_head, ordered_tail}
use Rattle.formula.proofs.Parts.{all_left, all_right}

module _ (P : ℕ → Type 0) where
  abbrev pub Step : Link → Type 0
  Step l = All P l.pins → P l.out

  one_more : (v : ℕ → ℕ) (j : ℕ) → ((i : ℕ) → i < j → P (v i)) → P (v j) → (i : ℕ) → i < suc j → P (v i)
  one_more v j h p i l = elim (cases_lt i j) [ inl k ↦ h i k | inr k ↦ (let e : j ≡ i = omega arith in subst (λ x. P (v x)) e p) ]

  pin_known : (line x : ℕ) (b : Bool) → (b ≡ true → P line) → P x → P (cond b line x)
  pin_known line x true h p = h refl
  pin_known line x false h p = p

  gate_known : (f : Function) (x line : ℕ) (ys : List ℕ) (b : Bool) → (b ≡ true → P line) → All P ys → Step (cond b (copies x line) (link f x ys)) → P x
  gate_known f x line ys true h k step = step (h refl, tt)
  gate_known f x line ys false h k step = step k

  module _ (v : ℕ → ℕ) (line : ℕ) (t : Option Stuck) (hn : (j : ℕ) → sticks_net t j ≡ true → P line) (hp : (j p : ℕ) → sticks_pin t j p ≡ true → P line) where
    pins_known : (j p : ℕ) (reads : List ℕ) → all_below j reads ≡ true → ((i : ℕ) → i < j → P (v i)) → All P (pin_variables v line t j p reads)
    pins_known j p [] e h = tt
    pins_known j p (a ∷ reads) e h =
        (pin_known line (v a) (sticks_pin t j p) (hp j p) (h a (below_head j a reads e)), pins_known j (suc p) reads (below_tail j a reads e) h)

    gates_known : (gs : List Gate) (j : ℕ) → Ordered j gs → ((i : ℕ) → i < j → P (v i)) → All Step (gate_links v line t j gs) → (i : ℕ) → i < j + length gs → P (v i)
    gates_known [] j o h e i l = h i (omega arith)
    gates_known (g ∷ gs) j o h e i l =
        let pins = pins_known j 0 (pins_of g) (ordered_head j g gs o) h in
        let made = gate_known g.function (v j) line (pin_variables v line t j 0 (pins_of g)) (sticks_net t j) (hn j) pins e.0 in
        gates_known gs (suc j) (ordered_tail j g gs o) (one_more v j h made) e.1 i (omega arith)

  inputs_known : (n : ℕ) (t : Option Stuck) (m j : ℕ) → P (stuck_line n) → ((i : ℕ) → i < j + m → P (good i)) → ((i : ℕ) → i < j → P (faulty n i))
      → All Step (input_links n t j m) → (i : ℕ) → i < j + m → P (faulty n i)
  inputs_known n t zero j hl hg h e i l = h i (omega arith)
  inputs_known n t (suc m) j hl hg h e i l =
      let pin = pin_known (stuck_line n) (good j) (sticks_net t j) (λ _. hl) (hg j (omega arith)) in
      inputs_known n t m (suc j) hl (λ x k. hg x (omega arith)) (one_more (faulty n) j h (e.0 (pin, tt))) e.1 i (omega arith)

  outputs_known : (n : ℕ) (os : List ℕ) (j : ℕ) → ((i : ℕ) → i < n → P (good i)) → ((i : ℕ) → i < n → P (faulty n i)) → all_below n os ≡ true
      → ((i : ℕ) → i < j → P (difference n i)) → All Step (output_links n j os) → (i : ℕ) → i < j + length os → P (difference n i)
  outputs_known n [] j hg hf hn h e i l = h i (omega arith)
  outputs_known n (o ∷ os) j hg hf hn h e i l =
      let lt = below_head n o os hn in
      outputs_known n os (suc j) hg hf (below_tail n o os hn) (one_more (difference n) j h (e.0 (hg o lt, (hf o lt, tt)))) e.1 i (omega arith)

  -- every variable, by its group
  pub record Known (c : Netlist) : Type 0 where
    pub goods : (i : ℕ) → i < nets c → P (good i)
    pub faults : (i : ℕ) → i < nets c → P (faulty (nets c) i)
    pub line : P (stuck_line (nets c))
    pub outs : (i : ℕ) → i < length c.outputs → P (difference (nets c) i)

  pub known : (c : Netlist) (s : Stuck) → Lawful c → ((i : ℕ) → i < c.inputs → P (good i)) → All Step (links c s) → Known c
  known c s w h e =
      let n = nets c in
      let gs = gate_links good (stuck_line n) None c.inputs c.gates in
      let is = input_links n (Some s) 0 c.inputs in
      let bs = gate_links (faulty n) (stuck_line n) (Some s) c.inputs c.gates in
      let os = output_links n 0 c.outputs in
      let rest = link (tied s.level) (stuck_line n) [] ∷ (is ++ (bs ++ os)) in
      let e2 = all_right Step gs rest e in
      let e4 = all_right Step is (bs ++ os) e2.1 in
      let goods : ((i : ℕ) → i < n → P (good i)) = gates_known good (stuck_line n) None (λ j x. absurd (false≢true x)) (λ j p x. absurd (false≢true x)) c.gates c.inputs w.ordered h (all_left Step gs rest e) in
      let line : P (stuck_line n) = e2.0 tt in
      let ins : ((i : ℕ) → i < c.inputs → P (faulty n i)) = λ i l. inputs_known n (Some s) c.inputs 0 line (λ x k. goods x (omega arith)) (λ x k. absurd (omega arith)) (all_left Step is (bs ++ os) e2.1) i (omega arith) in
      let faults : ((i : ℕ) → i < n → P (faulty n i)) = gates_known (faulty n) (stuck_line n) (Some s) (λ j x. line) (λ j p x. line) c.gates c.inputs w.ordered ins (all_left Step bs os e4) in
      record { goods = goods; faults = faults; line = line; outs = λ i l. outputs_known n c.outputs 0 goods faults w.outputs_declared (λ x k. absurd (omega arith)) (all_right Step bs os e4) i (omega arith) }

  -- a variable by its place
  pub known_at : (c : Netlist) → Known c → (i : ℕ) → i < variables c → P (suc i)
  known_at c k i l = go (cases_lt i (nets c)) (cases_lt i (nets c + nets c)) (cases_eq i (nets c + nets c)) where
    go : (i < nets c) ⊎ (nets c ≤ i) → (i < nets c + nets c) ⊎ (nets c + nets c ≤ i) → (i ≡ nets c + nets c) ⊎ (i ≡ nets c + nets c → ⊥) → P (suc i)
    go (inl x) y z = k.goods i x
    go (inr x) (inl y) z = let e : nets c + (i - nets c) ≡ i = omega arith in subst (λ m. P (suc m)) e (k.faults (i - nets c) (omega arith))
    go (inr x) (inr y) (inl z) = subst (λ m. P (suc m)) (sym z) k.line
    go (inr x) (inr y) (inr z) =
        let u : nets c + nets c < i = omega arith in
        let e : suc (nets c + nets c) + (i - suc (nets c + nets c)) ≡ i = omega arith in
        subst (λ m. P (suc m)) e (k.outs (i - suc (nets c + nets c)) (omega arith))

-- The tests of alikeness decide it, and it is an equivalence.
use Rattle.std.proofs.Common.{◌≡◌, ℕ, zero, suc, ◌<◌, Bool, true, false, ◌&&◌, eqb, List, [], ◌∷◌, length, get_or, Decides, sym, refl, ap, ◌∙◌, ⊎_elim, le_of_suc-le-suc, not-suc-le-zero, arith}
use Rattle.std.specs.List.{list_all, zip}
use Rattle.std.proofs.lemmas.Bool.{and_from, and_parts, and_right, eq-eqb, eqb-true, false≢true, or_cases, or_left, or_right}
use Rattle.card.specs.declared.function.Function.{Function}
use Rattle.card.specs.declared.function.Function.TheVariants.{Ida, And2, Or2, Xor2, Inva, Nand2, Nor2, Xnor2, Zero, One as High}
use Rattle.card.specs.declared.gate.Gate.{Gate}
use Rattle.card.specs.declared.gate.Operands.{Operands}
use Rattle.card.specs.declared.gate.Operands.TheVariants.{None, One, Two}
use Rattle.card.specs.Alikes.{Alike, AlikeLaws, AsOften, SameGate, same_gate, same_gates, same_operands, times}
use Rattle.card.specs.Functions.{function_number, function_of}
use Rattle.card.specs.Netlists.{Netlist, nets_read}
use Rattle.card.proofs.Oftens.{never_none_one, never_none_two, never_one_two, often_one, often_two, swapped_often}

-- lists of different lengths are not the same
pub unlike_lengths : (gs hs : List Gate) → (length gs ≡ length hs → ⊥) → false ≡ same_gates gs hs
unlike_lengths [] [] n = absurd (n refl)
unlike_lengths [] (h ∷ hs) n = refl
unlike_lengths (g ∷ gs) [] n = refl
unlike_lengths (g ∷ gs) (h ∷ hs) n = sym (and_right (same_gate g h) (same_gates gs hs) (sym (unlike_lengths gs hs (λ e. n (ap suc e)))))

-- two lists of one length, gate by gate
pub gates_in_pairs : (gs hs : List Gate) → length gs ≡ length hs → list_all (λ p. same_gate p.0 p.1) (zip gs hs) ≡ same_gates gs hs
gates_in_pairs [] [] e = refl
gates_in_pairs [] (h ∷ hs) e = absurd (omega arith)
gates_in_pairs (g ∷ gs) [] e = absurd (omega arith)
gates_in_pairs (g ∷ gs) (h ∷ hs) e = ap (λ b. same_gate g h && b) (gates_in_pairs gs hs (omega arith))

-- the number of a function tells it
numbered : (f : Function) → function_of (function_number f) ≡ f
numbered Ida = refl
numbered And2 = refl
numbered Or2 = refl
numbered Xor2 = refl
numbered Inva = refl
numbered Nand2 = refl
numbered Nor2 = refl
numbered Xnor2 = refl
numbered Zero = refl
numbered High = refl

same_function : (f g : Function) → function_number f ≡ function_number g → f ≡ g
same_function f g e = sym (numbered f) ∙ ap function_of e ∙ numbered g

-- the test of operands
often : (a b : Operands) → same_operands a b ≡ true → AsOften (nets_read a) (nets_read b)
often None None e n = refl
often None (One y) e n = absurd (false≢true e)
often None (Two x y) e n = absurd (false≢true e)
often (One x) None e n = absurd (false≢true e)
often (One x) (One y) e n = ap (λ z. times n (z ∷ [])) (eqb-true x y e)
often (One z) (Two x y) e n = absurd (false≢true e)
often (Two p q) None e n = absurd (false≢true e)
often (Two p q) (One y) e n = absurd (false≢true e)
often (Two p q) (Two x y) e n =
    ⊎_elim
    (λ t. let u = and_parts (eqb p x) (eqb q y) t in
    ap (λ z. times n (z ∷ q ∷ [])) (eqb-true p x u.0) ∙ ap (λ z. times n (x ∷ z ∷ [])) (eqb-true q y u.1))
    (λ t. let u = and_parts (eqb p y) (eqb q x) t in
    ap (λ z. times n (z ∷ q ∷ [])) (eqb-true p y u.0) ∙ ap (λ z. times n (y ∷ z ∷ [])) (eqb-true q x u.1) ∙ swapped_often y x n)
    (or_cases (eqb p x && eqb q y) (eqb p y && eqb q x) e)

tested : (a b : Operands) → AsOften (nets_read a) (nets_read b) → same_operands a b ≡ true
tested None None o = refl
tested None (One y) o = absurd (never_none_one y o)
tested None (Two x y) o = absurd (never_none_two x y o)
tested (One x) None o = absurd (never_none_one x (λ n. sym (o n)))
tested (One x) (One y) o = eq-eqb x y (often_one x y o)
tested (One z) (Two x y) o = absurd (never_one_two z x y o)
tested (Two p q) None o = absurd (never_none_two p q (λ n. sym (o n)))
tested (Two p q) (One y) o = absurd (never_one_two y p q (λ n. sym (o n)))
tested (Two p q) (Two x y) o =
    ⊎_elim
    (λ e. or_left (eqb p x && eqb q y) _ (and_from (eqb p x) (eqb q y) (eq-eqb p x e.0) (eq-eqb q y e.1)))
    (λ e. or_right (eqb p x && eqb q y) _ (and_from (eqb p y) (eqb q x) (eq-eqb p y e.0) (eq-eqb q x e.1)))
    (often_two p q x y o)

gate_same : (g h : Gate) → same_gate g h ≡ true → SameGate g h
gate_same g h e =
    let p = and_parts (eqb (function_number g.function) (function_number h.function)) _ e in
    record { function = same_function g.function h.function (eqb-true _ _ p.0); operands = often g.operands h.operands p.1 }

same_gate_lem : (g h : Gate) → SameGate g h → same_gate g h ≡ true
same_gate_lem g h s = and_from (eqb (function_number g.function) (function_number h.function)) _ (eq-eqb _ _ (ap function_number s.function)) (tested g.operands h.operands s.operands)

pub record Each (gs hs : List Gate) : Type 0 where
  pub long : length gs ≡ length hs
  pub each : (i : ℕ) (d : Gate) → i < length gs → SameGate (get_or gs i d) (get_or hs i d)

gates_same : (gs hs : List Gate) → same_gates gs hs ≡ true → Each gs hs
gates_same [] [] e = record { long = refl; each = λ i d h. absurd (not-suc-le-zero h) }
gates_same [] (h ∷ hs) e = absurd (false≢true e)
gates_same (g ∷ gs) [] e = absurd (false≢true e)
gates_same (g ∷ gs) (h ∷ hs) e =
    let p = and_parts (same_gate g h) (same_gates gs hs) e in
    let r = gates_same gs hs p.1 in
    record { long = ap suc r.long; each = at r (gate_same g h p.0) }
  where
    at : Each gs hs → SameGate g h → (i : ℕ) (d : Gate) → i < length (g ∷ gs) → SameGate (get_or (g ∷ gs) i d) (get_or (h ∷ hs) i d)
    at r s zero d l = s
    at r s (suc i) d l = r.each i d (le_of_suc-le-suc l)

same_gates_lem : (gs hs : List Gate) → Each gs hs → same_gates gs hs ≡ true
same_gates_lem [] [] r = refl
same_gates_lem [] (h ∷ hs) r = let e = r.long in absurd (omega arith)
same_gates_lem (g ∷ gs) [] r = let e = r.long in absurd (omega arith)
same_gates_lem (g ∷ gs) (h ∷ hs) r =
    let e = r.long in
    and_from (same_gate g h) (same_gates gs hs) (same_gate_lem g h (r.each 0 g (omega arith))) (same_gates_lem gs hs (record { long = omega arith; each = λ i d l. r.each (suc i) d (omega arith) }))

-- the three tests together
pub alike_decides : (a b : Netlist) (i g o : Bool) → i ≡ eqb a.inputs b.inputs → g ≡ same_gates a.gates b.gates → Decides o (a.outputs ≡ b.outputs) → Decides ((i && g) && o) (Alike a b)
alike_decides a b i g o is gs os = (
  (λ e.
      let p = and_parts (i && g) o e in
      let q = and_parts i g p.0 in
      let r = gates_same a.gates b.gates (sym gs ∙ q.1) in
      record { inputs = eqb-true _ _ (sym is ∙ q.0); gates = r.long; each = r.each; outputs = os.0 p.1 }),
  (λ l. and_from (i && g) o (and_from i g (is ∙ eq-eqb _ _ l.inputs) (gs ∙ same_gates_lem a.gates b.gates (record { long = l.gates; each = l.each }))) (os.1 l.outputs)),
)

pub alike_laws : AlikeLaws
alike_laws = record {
  reflexive = λ a. record { inputs = refl; gates = refl; each = λ i d h. record { function = refl; operands = λ n. refl }; outputs = refl };
  symmetric = λ a b l.
      let e = l.gates in
      record { inputs = sym l.inputs; gates = sym l.gates; each = λ i d h. let s = l.each i d (omega arith) in record { function = sym s.function; operands = λ n. sym (s.operands n) }; outputs = sym l.outputs };
  transitive = λ a b c l m.
      let e = l.gates in
      record {
        inputs = l.inputs ∙ m.inputs;
        gates = l.gates ∙ m.gates;
        each = λ i d h. let s = l.each i d h in let t = m.each i d (omega arith) in record { function = s.function ∙ t.function; operands = λ n. s.operands n ∙ t.operands n };
        outputs = l.outputs ∙ m.outputs;
      };
}

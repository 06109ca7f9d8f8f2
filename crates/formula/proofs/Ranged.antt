-- The clauses of a formula name the card's own variables, so a solver that was started for them, and has the room, takes every clause.
use Rattle.std.proofs.Common.{◌≡◌, ℕ, zero, suc, pred, ◌+◌, ◌<◌, ◌≤◌, Bool, true, false, cond, List, [], ◌∷◌, ◌++◌, map, length, get_or, ℤ, pos, negsuc, Some, None, Option, sym, refl, ap, ◌∙◌, append_assoc, arith}
use mathlib.Core.Bool.{false≢true}
use Rattle.std.proofs.ByRecursion.{All-get_or}
use Rattle.std.proofs.lemmas.List.{append-nil}
use Rattle.std.proofs.lemmas.List.Folds.{list_all-append}
use Rattle.std.proofs.lemmas.Bool.{and_from, and_parts, le-leb, lt-ltb}
use Rattle.std.specs.List.{flat_map, AllByRecursion as All}
use Rattle.card.specs.declared.function.Function.{Function}
use Rattle.card.specs.declared.gate.Gate.{Gate}
use Rattle.card.specs.Netlists.{Netlist, Lawful, Ordered, all_below, nets, pins_of}
use Rattle.card.proofs.Below.{below_head, below_tail}
use Rattle.signal.specs.declared.line.Stuck.{Stuck}
use Rattle.signal.specs.Walks.{sticks_net, sticks_pin}
use Rattle.solving.specs.Literals.{all_in_range, in_range, places}
use Rattle.solving.specs.Models.{appendable}
use Rattle.formula.specs.Formulas.{differences, formula_of}
use Rattle.formula.specs.Links.{Link, clauses_of, copies, gate_links, input_links, link, links, output_links, pin_variables, tied}
use Rattle.formula.specs.Meanings.{Fits}
use Rattle.formula.specs.Posing.{given, holding}
use Rattle.formula.specs.Rows.{literal_of, over, rows}
use Rattle.formula.specs.Variables.{faulty, good, stuck_line, variables}
use Rattle.formula.proofs.Linked.{all_links, links_fitted, ordered_head, ordered_tail}
use Rattle.formula.proofs.Parts.{places_append}
use Rattle.formula.proofs.Renamed.{in_range_place, in_table}
use Rattle.formula.proofs.Ruled.{Fitted, fitted_in_table}

-- one of v variables
abbrev pub IsVariable : ℕ → ℕ → Type 0
IsVariable v x = (1 ≤ x) × (x ≤ v)

-- the literals of codes over v variables
positive_in_range : (v x : ℕ) → IsVariable v x → in_range v (pos x) ≡ true
positive_in_range v zero k = absurd (omega (arith, k.0))
positive_in_range v (suc x) k = lt-ltb x v k.1

negative_in_range : (v x : ℕ) → IsVariable v x → in_range v (negsuc (pred x)) ≡ true
negative_in_range v zero k = absurd (omega (arith, k.0))
negative_in_range v (suc x) k = lt-ltb x v k.1

module _ (v : ℕ) (vs : List ℕ) (h : All (IsVariable v) vs) where
  literal_in_range : (l : ℤ) → in_range (length vs) l ≡ true → in_range v (literal_of vs l) ≡ true
  literal_in_range (pos zero) e = absurd (false≢true e)
  literal_in_range (pos (suc n)) e = positive_in_range v (get_or vs n 0) (All-get_or (IsVariable v) vs n 0 (in_range_place (length vs) (pos (suc n)) e) h)
  literal_in_range (negsuc n) e = negative_in_range v (get_or vs n 0) (All-get_or (IsVariable v) vs n 0 (in_range_place (length vs) (negsuc n) e) h)

  literals_in_range : (ls : List ℤ) → all_in_range (length vs) ls ≡ true → all_in_range v (map (literal_of vs) ls) ≡ true
  literals_in_range [] e = refl
  literals_in_range (l ∷ ls) e = let p = and_parts _ _ e in and_from _ _ (literal_in_range l p.0) (literals_in_range ls p.1)

  over_in_table : (cs : List (List ℤ)) → in_table (length vs) cs ≡ true → in_table v (over vs cs) ≡ true
  over_in_table [] e = refl
  over_in_table (c ∷ cs) e = let p = and_parts _ _ e in and_from _ _ (literals_in_range c p.0) (over_in_table cs p.1)

in_table_append : (v : ℕ) (cs ds : List (List ℤ)) → in_table v cs ≡ true → in_table v ds ≡ true → in_table v (cs ++ ds) ≡ true
in_table_append v cs ds e f = list_all-append (all_in_range v) cs ds ∙ and_from _ _ e f

-- a link whose own variable and pins are some of v variables
abbrev Within : ℕ → Link → Type 0
Within v l = All (IsVariable v) (l.out ∷ l.pins)

links_in_table : (v : ℕ) (ls : List Link) → All Fitted ls → All (Within v) ls → in_table v (flat_map clauses_of ls) ≡ true
links_in_table v [] f h = refl
links_in_table v (l ∷ ls) f h = in_table_append v (clauses_of l) (flat_map clauses_of ls) (over_in_table v (l.out ∷ l.pins) h.0 (rows l.function) (fitted_in_table l f.0)) (links_in_table v ls f.1 h.1)

module _ (w : ℕ) where
  either : (b : Bool) (x y : ℕ) → IsVariable w x → IsVariable w y → IsVariable w (cond b x y)
  either true x y h k = h
  either false x y h k = k

  gate_within : (f : Function) (x line : ℕ) (ys : List ℕ) (b : Bool) → IsVariable w x → IsVariable w line → All (IsVariable w) ys → Within w (cond b (copies x line) (link f x ys))
  gate_within f x line ys true h k p = (h, (k, tt))
  gate_within f x line ys false h k p = (h, p)

  module _ (v : ℕ → ℕ) (line : ℕ) (t : Option Stuck) (hl : IsVariable w line) where
    pins_within : (j p : ℕ) (reads : List ℕ) → all_below j reads ≡ true → ((i : ℕ) → i < j → IsVariable w (v i)) → All (IsVariable w) (pin_variables v line t j p reads)
    pins_within j p [] e h = tt
    pins_within j p (a ∷ reads) e h = (either (sticks_pin t j p) line (v a) hl (h a (below_head j a reads e)), pins_within j (suc p) reads (below_tail j a reads e) h)

    gates_within : (gs : List Gate) (j : ℕ) → Ordered j gs → ((i : ℕ) → i < j + length gs → IsVariable w (v i)) → All (Within w) (gate_links v line t j gs)
    gates_within [] j o h = tt
    gates_within (g ∷ gs) j o h = (
      gate_within g.function (v j) line (pin_variables v line t j 0 (pins_of g)) (sticks_net t j) (h j (omega arith)) hl (pins_within j 0 (pins_of g) (ordered_head j g gs o) (λ i l. h i (omega arith))),
      gates_within gs (suc j) (ordered_tail j g gs o) (λ i l. h i (omega arith)),
    )

  inputs_within : (n : ℕ) (t : Option Stuck) (m j : ℕ) → n + n < w → j + m ≤ n → All (Within w) (input_links n t j m)
  inputs_within n t zero j l k = tt
  inputs_within n t (suc m) j l k = (
    ((omega arith, omega arith), (either (sticks_net t j) (stuck_line n) (good j) (omega arith, omega arith) (omega arith, omega arith), tt)),
    inputs_within n t m (suc j) l (omega arith),
  )

  outputs_within : (n : ℕ) (os : List ℕ) (i : ℕ) → all_below n os ≡ true → suc (n + n) + (i + length os) ≤ w → All (Within w) (output_links n i os)
  outputs_within n [] i e l = tt
  outputs_within n (o ∷ os) i e l =
      let k = below_head n o os e in
      (((omega arith, omega arith), ((omega arith, omega arith), ((omega arith, omega arith), tt))), outputs_within n os (suc i) (below_tail n o os e) (omega arith))

  differences_within : (n : ℕ) (os : List ℕ) (i : ℕ) → suc (n + n) + (i + length os) ≤ w → all_in_range w (differences n i os) ≡ true
  differences_within n [] i l = refl
  differences_within n (o ∷ os) i l = and_from _ _ (lt-ltb (suc (n + n) + i) w (omega arith)) (differences_within n os (suc i) (omega arith))

tied_within : (w : ℕ) (b : Bool) (x : ℕ) → IsVariable w x → Within w (link (tied b) x [])
tied_within w true x h = (h, tt)
tied_within w false x h = (h, tt)

module _ (c : Netlist) (s : Stuck) (lawful : Lawful c) where
  links_within : All (Within (variables c)) (links c s)
  links_within =
      let n = nets c in
      let w = variables c in
      let hl : IsVariable w (stuck_line n) = (omega arith, omega arith) in
      all_links (Within w) c s (gates_within w good (stuck_line n) None hl c.gates c.inputs lawful.ordered (λ i l. (omega arith, omega arith))) (tied_within w s.level (stuck_line n) hl)
      (inputs_within w n (Some s) c.inputs 0 (omega arith) (omega arith)) (gates_within w (faulty n) (stuck_line n) (Some s) hl c.gates c.inputs lawful.ordered (λ i l. (omega arith, omega arith)))
      (outputs_within w n c.outputs 0 lawful.outputs_declared (omega arith))

  formula_in_table : in_table (variables c) (formula_of c s) ≡ true
  unfolding formula_of
  formula_in_table =
      in_table_append (variables c) (flat_map clauses_of (links c s)) (differences (nets c) 0 c.outputs ∷ []) (links_in_table (variables c) (links c s) (links_fitted c s lawful) links_within)
      (and_from _ true (differences_within (variables c) (nets c) c.outputs 0 (omega arith)) refl)

-- a solver takes every clause that names its variables, while it has the room
given_all : (v k : ℕ) (cs ds : List (List ℤ)) → in_table v cs ≡ true → places ds + places cs ≤ 9216 → given (holding v k ds) cs ≡ holding v k (ds ++ cs)
given_all v k [] ds e l = ap (holding v k) (sym (append-nil ds))
given_all v k (c ∷ cs) ds e l =
    let p = and_parts _ _ e in
    let one = places_append ds (c ∷ []) in
    let ok : appendable (holding v k ds) c ≡ true = and_from _ _ p.0 (le-leb (places ds + (length c + 1)) 9216 (omega arith)) in
    ap (λ b. given (cond b (holding v k (ds ++ (c ∷ []))) (holding v k ds)) cs) ok ∙ given_all v k cs (ds ++ (c ∷ [])) p.1 (omega arith) ∙ ap (holding v k) (append_assoc ds (c ∷ []) cs)

pub formula_taken : (c : Netlist) (s : Stuck) → Lawful c → Fits c s → given (holding (variables c) c.inputs []) (formula_of c s) ≡ holding (variables c) c.inputs (formula_of c s)
formula_taken c s lawful fits = given_all (variables c) c.inputs (formula_of c s) [] (formula_in_table c s lawful) (omega (arith, fits.at_most_8713_places))

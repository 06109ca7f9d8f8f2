-- One turn of the loops that put links, and the calls of the encoder one after another.
use Rattle.std.proofs.Common.{◌≡◌, ℕ, zero, suc, ◌+◌, ◌-◌, ◌<◌, ◌≤◌, true, false, cond, List, [], ◌∷◌, ◌++◌, length, ℤ, pos, Some, None, Option, sym, refl, ap, ◌∙◌, add-one, ltb, ltb-false, arith}
use Rattle.std.proofs.lemmas.Bool.{and_from, le-leb}
use Rattle.std.proofs.lemmas.Grind.{flat_map-append}
use Rattle.std.specs.List.{flat_map}
use Rattle.card.specs.Netlists.{Netlist, nets}
use Rattle.signal.specs.declared.line.Stuck.{Stuck}
use Rattle.signal.specs.Walks.{sticks_net}
use Rattle.faults.specs.Sites.{fault_count, stuck_of}
use Rattle.faults.proofs.Caught.{no_fault_past}
use Rattle.solving.specs.Models.{Model, begun, startable}
use Rattle.formula.specs.Formulas.{differences, formula_of}
use Rattle.formula.specs.Links.{Link, clauses_of, copies, gate_links, input_links, link, links, output_links, tied}
use Rattle.formula.specs.Posing.{given, rising}
use Rattle.formula.specs.Variables.{difference, faulty, good, stuck_line}
use Rattle.formula.proofs.Puts.{given_given}

link_more : (m after : Model) (l : Link) (ls : List Link) → after ≡ given m (clauses_of l) → given after (flat_map clauses_of ls) ≡ given m (flat_map clauses_of (l ∷ ls))
link_more m after l ls e = ap (λ x. given x (flat_map clauses_of ls)) e ∙ given_given m (clauses_of l) (flat_map clauses_of ls)

pub inputs_more : (m after : Model) (n k j : ℕ) (t : Option Stuck) → j < k → after ≡ given m (clauses_of (copies (faulty n j) (cond (sticks_net t j) (stuck_line n) (good j))))
    → given after (flat_map clauses_of (input_links n t (j + 1) (k - (j + 1)))) ≡ given m (flat_map clauses_of (input_links n t j (k - j)))
inputs_more m after n k j t l h =
    let e : k - j ≡ suc (k - (j + 1)) = omega arith in
    ap (λ x. given after (flat_map clauses_of (input_links n t x (k - (j + 1))))) (add-one j)
    ∙ link_more m after (copies (faulty n j) (cond (sticks_net t j) (stuck_line n) (good j))) (input_links n t (suc j) (k - (j + 1))) h
    ∙ ap (λ x. given m (flat_map clauses_of (input_links n t j x))) (sym e)

-- the last clause
rising_push : (v i : ℕ) → rising v i ++ (pos (v + i) ∷ []) ≡ rising v (suc i)
rising_push v zero = let e : v + 0 ≡ v = omega arith in ap (λ x. pos x ∷ []) e
rising_push v (suc i) = let e : v + suc i ≡ suc v + i = omega arith in ap (λ x. pos v ∷ (rising (suc v) i ++ (pos x ∷ []))) e ∙ ap (λ cs. pos v ∷ cs) (rising_push (suc v) i)

pub rising_more : (xs ys : List ℤ) (v i x : ℕ) → ys ≡ xs ++ (pos x ∷ []) → x ≡ v + i → xs ≡ rising v i → ys ≡ rising v (i + 1)
rising_more xs ys v i x h e k = h ∙ ap (λ y. xs ++ (pos y ∷ [])) e ∙ ap (λ zs. zs ++ (pos (v + i) ∷ [])) k ∙ rising_push v i ∙ ap (rising v) (sym (add-one i))

differences_are : (n : ℕ) (os : List ℕ) (i : ℕ) → differences n i os ≡ rising (difference n i) (length os)
differences_are n [] i = refl
differences_are n (o ∷ os) i = let e : difference n (suc i) ≡ suc (difference n i) = omega arith in ap (λ cs. pos (difference n i) ∷ cs) (differences_are n os (suc i)) ∙ ap (λ v. pos (difference n i) ∷ rising v (length os)) e

-- the calls of the encoder in order
five : (m : Model) (a b c d e : List (List ℤ)) → given (given (given (given (given m a) b) c) d) e ≡ given m (a ++ (b ++ (c ++ (d ++ e))))
five m a b c d e = given_given (given (given (given m a) b) c) d e ∙ given_given (given (given m a) b) c (d ++ e) ∙ given_given (given m a) b (c ++ (d ++ e)) ∙ given_given m a (b ++ (c ++ (d ++ e)))

pub was_started : (m after : Model) (v k : ℕ) → 1 ≤ k → k ≤ 32 → k ≤ v → v ≤ 560 → after ≡ cond (startable v k) (begun v k) m → after ≡ begun v k
was_started m after v k a b c d h =
    let ok : startable v k ≡ true = and_from _ _ (and_from _ _ (le-leb 1 k a) (le-leb k 32 b)) (and_from _ _ (le-leb k v c) (le-leb v 560 d)) in
    h ∙ ap (λ x. cond x (begun v k) m) ok

module _ (c : Netlist) (s : Stuck) where
  in_order : flat_map clauses_of (links c s) ≡
      flat_map clauses_of (gate_links good (stuck_line (nets c)) None c.inputs c.gates) ++ (clauses_of (link (tied s.level) (stuck_line (nets c)) []) ++ (flat_map clauses_of (input_links (nets c) (Some s) 0 c.inputs) ++
      (flat_map clauses_of (gate_links (faulty (nets c)) (stuck_line (nets c)) (Some s) c.inputs c.gates) ++ flat_map clauses_of (output_links (nets c) 0 c.outputs))))
  in_order =
      let is = input_links (nets c) (Some s) 0 c.inputs in
      let bs = gate_links (faulty (nets c)) (stuck_line (nets c)) (Some s) c.inputs c.gates in
      let os = output_links (nets c) 0 c.outputs in
      let gs = gate_links good (stuck_line (nets c)) None c.inputs c.gates in
      let l = link (tied s.level) (stuck_line (nets c)) [] in
      flat_map-append clauses_of gs (l ∷ (is ++ (bs ++ os)))
      ∙ ap (λ x. flat_map clauses_of gs ++ (clauses_of l ++ x)) (flat_map-append clauses_of is (bs ++ os) ∙ ap (λ x. flat_map clauses_of is ++ x) (flat_map-append clauses_of bs os))

  pub encoded : (m0 m1 m2 m3 m4 m5 m6 : Model)
      → m1 ≡ given m0 (flat_map clauses_of (gate_links good (stuck_line (nets c)) None c.inputs c.gates))
      → m2 ≡ given m1 (clauses_of (link (tied s.level) (stuck_line (nets c)) []))
      → m3 ≡ given m2 (flat_map clauses_of (input_links (nets c) (Some s) 0 c.inputs))
      → m4 ≡ given m3 (flat_map clauses_of (gate_links (faulty (nets c)) (stuck_line (nets c)) (Some s) c.inputs c.gates))
      → m5 ≡ given m4 (flat_map clauses_of (output_links (nets c) 0 c.outputs))
      → m6 ≡ given m5 (rising (difference (nets c) 0) (length c.outputs) ∷ [])
      → m6 ≡ given m0 (formula_of c s)
  unfolding formula_of
  encoded m0 m1 m2 m3 m4 m5 m6 h1 h2 h3 h4 h5 h6 =
      let a = flat_map clauses_of (gate_links good (stuck_line (nets c)) None c.inputs c.gates) in
      let b = clauses_of (link (tied s.level) (stuck_line (nets c)) []) in
      let i = flat_map clauses_of (input_links (nets c) (Some s) 0 c.inputs) in
      let g = flat_map clauses_of (gate_links (faulty (nets c)) (stuck_line (nets c)) (Some s) c.inputs c.gates) in
      let o = flat_map clauses_of (output_links (nets c) 0 c.outputs) in
      let d = rising (difference (nets c) 0) (length c.outputs) in
      let e5 : m5 ≡ given m0 (a ++ (b ++ (i ++ (g ++ o)))) = h5 ∙ ap (λ x. given x o) (h4 ∙ ap (λ x. given x g) (h3 ∙ ap (λ x. given x i) (h2 ∙ ap (λ x. given x b) h1))) ∙ five m0 a b i g o in
      h6 ∙ ap (λ x. given x (d ∷ [])) e5 ∙ given_given m0 (a ++ (b ++ (i ++ (g ++ o)))) (d ∷ [])
      ∙ ap (λ x. given m0 (x ++ (d ∷ []))) (sym in_order)
      ∙ ap (λ x. given m0 (flat_map clauses_of (links c s) ++ (x ∷ []))) (sym (differences_are (nets c) c.outputs 0))

-- a number past the faults has no line
pub no_fault : (c : Netlist) (f : ℕ) → ltb f (fault_count c) ≡ false → stuck_of c f ≡ None
no_fault c f e = no_fault_past c f (ltb-false f (fault_count c) e)

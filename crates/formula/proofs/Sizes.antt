-- How large a formula is: a link has at most 16 places, and each net and each output has its links.
use Rattle.std.proofs.Common.{◌≡◌, ℕ, zero, suc, ◌+◌, ◌*◌, ◌≤◌, Bool, true, false, List, [], ◌∷◌, ◌++◌, length, Some, None, Option, refl, ap, ◌∙◌, arith}
use Rattle.std.specs.List.{flat_map}
use Rattle.card.specs.declared.gate.Gate.{Gate}
use Rattle.card.specs.Netlists.{Netlist, Lawful, nets}
use Rattle.signal.specs.declared.line.Stuck.{Stuck}
use Rattle.solving.specs.Literals.{places}
use Rattle.formula.specs.Formulas.{differences, formula_of}
use Rattle.formula.specs.Links.{Link, clauses_of, gate_link, gate_links, input_links, link, links, output_links, tied}
use Rattle.formula.specs.Meanings.{Fits}
use Rattle.formula.specs.Variables.{faulty, good, stuck_line}
use Rattle.formula.proofs.Parts.{places_append}
use Rattle.formula.proofs.Ruled.{link_places}

-- the places of links
abbrev pub room : List Link → ℕ
room ls = places (flat_map clauses_of ls)

pub room_more : (l : Link) (ls : List Link) → room (l ∷ ls) ≡ places (clauses_of l) + room ls
room_more l ls = places_append (clauses_of l) (flat_map clauses_of ls)

pub room_append : (ls ms : List Link) → room (ls ++ ms) ≡ room ls + room ms
room_append [] ms = omega arith
room_append (l ∷ ls) ms = room_more l (ls ++ ms) ∙ omega (arith, room_append ls ms, room_more l ls)

gates_room : (v : ℕ → ℕ) (line : ℕ) (t : Option Stuck) (gs : List Gate) (j : ℕ) → room (gate_links v line t j gs) ≤ 16 * length gs
gates_room v line t [] j = omega arith
gates_room v line t (g ∷ gs) j = omega (arith, room_more (gate_link v line t j g) (gate_links v line t (suc j) gs), link_places (gate_link v line t j g), gates_room v line t gs (suc j))

inputs_room : (n : ℕ) (t : Option Stuck) (m j : ℕ) → room (input_links n t j m) ≤ 6 * m
inputs_room n t zero j = omega arith
inputs_room n t (suc m) j = omega (arith, inputs_room n t m (suc j))

outputs_room : (n : ℕ) (os : List ℕ) (i : ℕ) → room (output_links n i os) ≤ 16 * length os
outputs_room n [] i = omega arith
outputs_room n (o ∷ os) i = omega (arith, outputs_room n os (suc i))

tied_room : (b : Bool) (x : ℕ) → places (clauses_of (link (tied b) x [])) ≤ 2
tied_room true x = omega arith
tied_room false x = omega arith

pub length_differences : (n : ℕ) (os : List ℕ) (i : ℕ) → length (differences n i os) ≡ length os
length_differences n [] i = refl
length_differences n (o ∷ os) i = ap suc (length_differences n os (suc i))

pub fits : (c : Netlist) (s : Stuck) → Lawful c → Fits c s
unfolding formula_of
fits c s w =
    let n = nets c in
    let gs = gate_links good (stuck_line n) None c.inputs c.gates in
    let is = input_links n (Some s) 0 c.inputs in
    let bs = gate_links (faulty n) (stuck_line n) (Some s) c.inputs c.gates in
    let os = output_links n 0 c.outputs in
    let l = link (tied s.level) (stuck_line n) [] in
    let e0 = places_append (flat_map clauses_of (links c s)) (differences n 0 c.outputs ∷ []) in
    let e1 = room_append gs (l ∷ (is ++ (bs ++ os))) in
    let e2 = room_more l (is ++ (bs ++ os)) in
    let e3 = room_append is (bs ++ os) in
    let e4 = room_append bs os in
    let b1 = gates_room good (stuck_line n) None c.gates c.inputs in
    let b2 = tied_room s.level (stuck_line n) in
    let b3 = inputs_room n (Some s) c.inputs 0 in
    let b4 = gates_room (faulty n) (stuck_line n) (Some s) c.gates c.inputs in
    let b5 = outputs_room n c.outputs 0 in
    let b6 = length_differences n c.outputs 0 in
    record { inputs_are_variables = omega arith; at_most_545_variables = omega arith; at_most_8713_places = omega arith }

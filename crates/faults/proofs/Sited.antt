-- The laws of the sites: which lines they have, in which order, and which pins are among them.
use Rattle.std.proofs.Common.{◌≡◌, ℕ, zero, suc, ◌+◌, ◌-◌, ◌*◌, ◌/◌, ◌%◌, ◌<◌, ◌≤◌, Bool, true, false, cond, eqb, ltb, leb, List, [], ◌∷◌, get_or, Some, None, sum_by, Option, sym, refl, ap, ◌∙◌, subst, ap₂, inl, inr, ⊎_elim, add-zero, add-suc, suc-add, arith}
use Rattle.std.specs.List.{AllByRecursion as All, slice_get}
use Rattle.std.proofs.lemmas.Nat.{div-add-mod', div-mul-add, mod_below, mod-mul-add}
use Rattle.std.proofs.ByRecursion.{All-append, all_kept_by, All-weaker, kept_by_passes}
use Rattle.std.proofs.lemmas.List.{length-map}
use Rattle.std.proofs.lemmas.Option.{slice_get-get_or, slice_get_past}
use Rattle.std.proofs.lemmas.List.Sums.{sum_by-append, sum_by-cons}
use Rattle.std.proofs.lemmas.Bool.{cases_lt, cases_order, cond-false, cond-true, le-leb, le-ltb, leb-true, lt-ltb}
use Rattle.std.proofs.lemmas.Bool.Decides.{nat_tests}
use Rattle.card.specs.declared.gate.Gate.{Gate}
use Rattle.card.specs.Alikes.{times}
use Rattle.card.specs.Netlists.{Lawful, Netlist, nets, pins_of}
use Rattle.signal.specs.declared.line.Line.{Line}
use Rattle.signal.specs.declared.line.Line.TheVariants.{Net, Pin}
use Rattle.signal.specs.declared.line.Stuck.{Stuck}
use Rattle.faults.specs.declared.reader.Reader.{Reader}
use Rattle.faults.specs.Readers.{branches, gate_readers, pin_readers, read_count, read_in, readers, reads}
use Rattle.faults.specs.SiteLaws.{Before, IsPin, IsSite, PinReads, SiteLaws}
use Rattle.faults.specs.Sites.{branch_lines, line_of, site_count, stuck_at, stuck_of}
use Rattle.faults.proofs.Listed.{length_branches}
use Rattle.faults.proofs.Placed.{In, all_nth, has_kept, has_nth, in_append_left, in_append_right, map_nth, nth_map}
use Rattle.faults.proofs.Ranked.{Rising, rising_append, rising_at, rising_kept}

abbrev First : Reader → Reader → Type 0
First r s = Before r.line s.line

-- ---- the readers stand in order

pins_after : (j p q : ℕ) (xs : List ℕ) (r : Reader) → r.line ≡ Pin j p → p < q → All (First r) (pin_readers j q xs)
pins_after j p q [] r e h = tt
pins_after j p q (x ∷ xs) r e h = (subst (λ (l : Line). Before l (Pin j q)) (sym e) (inr (refl, h)), pins_after j p (suc q) xs r e (omega arith))

rising_pins : (j p : ℕ) (xs : List ℕ) → Rising First (pin_readers j p xs)
rising_pins j p [] = tt
rising_pins j p (x ∷ xs) = (pins_after j p (suc p) xs (record { line = Pin j p; net = x }) refl (omega arith), rising_pins j (suc p) xs)

later_pins : (j p i q : ℕ) (xs : List ℕ) (r : Reader) → r.line ≡ Pin j p → j < i → All (First r) (pin_readers i q xs)
later_pins j p i q [] r e h = tt
later_pins j p i q (x ∷ xs) r e h = (subst (λ (l : Line). Before l (Pin i q)) (sym e) (inl h), later_pins j p i (suc q) xs r e h)

later_gates : (j p i : ℕ) (gs : List Gate) (r : Reader) → r.line ≡ Pin j p → j < i → All (First r) (gate_readers i gs)
later_gates j p i [] r e h = tt
later_gates j p i (g ∷ gs) r e h =
    All-append (First r) (pin_readers i 0 (pins_of g)) (gate_readers (suc i) gs) (later_pins j p i 0 (pins_of g) r e h) (later_gates j p (suc i) gs r e (omega arith))

pins_before_gates : (j p i : ℕ) (xs : List ℕ) (gs : List Gate) → j < i → All (λ r. All (First r) (gate_readers i gs)) (pin_readers j p xs)
pins_before_gates j p i [] gs h = tt
pins_before_gates j p i (x ∷ xs) gs h = (later_gates j p i gs (record { line = Pin j p; net = x }) refl h, pins_before_gates j (suc p) i xs gs h)

rising_gates : (j : ℕ) (gs : List Gate) → Rising First (gate_readers j gs)
rising_gates j [] = tt
rising_gates j (g ∷ gs) =
    rising_append First (pin_readers j 0 (pins_of g)) (gate_readers (suc j) gs) (rising_pins j 0 (pins_of g)) (rising_gates (suc j) gs) (pins_before_gates j 0 (suc j) (pins_of g) gs (omega arith))

pub rising_branches : (c : Netlist) → Rising First (branches c)
rising_branches c = rising_kept First (λ r. leb 2 (read_count c r.net)) (readers c) (rising_gates c.inputs c.gates)

-- ---- which readers there are

-- pin p of gate i of a list reads this net
abbrev PinIn : List Gate → ℕ → ℕ → ℕ → Type 0
PinIn gs i p net = (g : Gate) × (slice_get gs i ≡ Some g) × (slice_get (pins_of g) p ≡ Some net)

pins_have : (j p : ℕ) (xs : List ℕ) (q net : ℕ) → slice_get xs q ≡ Some net → In (pin_readers j p xs) (record { line = Pin j (p + q); net = net })
pins_have j p [] q net e = absurd (cc)
pins_have j p (x ∷ xs) zero net e =
    let n : x ≡ net = cc in
    inl (ap₂ (λ (m k : ℕ). record { line = Pin j m; net = k }) (sym (add-zero p)) n)
pins_have j p (x ∷ xs) (suc q) net e =
    inr (subst (λ (m : ℕ). In (pin_readers j (suc p) xs) (record { line = Pin j m; net = net })) (suc-add p q ∙ sym (add-suc p q)) (pins_have j (suc p) xs q net e))

gates_have : (j : ℕ) (gs : List Gate) (i p net : ℕ) → PinIn gs i p net → In (gate_readers j gs) (record { line = Pin (j + i) p; net = net })
gates_have j [] i p net r = absurd (let e = r.1 in cc)
gates_have j (g ∷ gs) zero p net r =
    let e = r.1 in
    let s : r.0 ≡ g = cc in
    let h = pins_have j 0 (pins_of g) p net (ap (λ (x : Gate). slice_get (pins_of x) p) (sym s) ∙ r.2) in
    let here : In (pin_readers j 0 (pins_of g)) (record { line = Pin (j + 0) p; net = net }) =
    subst (λ (l : Line). In (pin_readers j 0 (pins_of g)) (record { line = l; net = net })) (ap₂ Pin (sym (add-zero j)) (omega arith)) h in
    in_append_left (pin_readers j 0 (pins_of g)) (gate_readers (suc j) gs) _ here
gates_have j (g ∷ gs) (suc i) p net r =
    in_append_right (pin_readers j 0 (pins_of g)) (gate_readers (suc j) gs) _
    (subst (λ (m : ℕ). In (gate_readers (suc j) gs) (record { line = Pin m p; net = net })) (suc-add j i ∙ sym (add-suc j i)) (gates_have (suc j) gs i p net r))

-- what a reader of the list is
abbrev IsPinOf : ℕ → List Gate → Reader → Type 0
IsPinOf j gs r = (i : ℕ) × (p : ℕ) × PinIn gs i p r.net × (r.line ≡ Pin (j + i) p)

pins_are : (j p : ℕ) (xs : List ℕ) → All (λ r. (q : ℕ) × (slice_get xs q ≡ Some r.net) × (r.line ≡ Pin j (p + q))) (pin_readers j p xs)
pins_are j p [] = tt
pins_are j p (x ∷ xs) = (
  (0, refl, ap (Pin j) (sym (add-zero p))),
  All-weaker (λ r. (q : ℕ) × (slice_get xs q ≡ Some r.net) × (r.line ≡ Pin j (suc p + q))) (λ r. (q : ℕ) × (slice_get (x ∷ xs) q ≡ Some r.net) × (r.line ≡ Pin j (p + q)))
      (λ r a. (suc a.0, a.1, a.2 ∙ ap (Pin j) (suc-add p a.0 ∙ sym (add-suc p a.0))))
      (pin_readers j (suc p) xs) (pins_are j (suc p) xs),
)

gates_are : (j : ℕ) (gs : List Gate) → All (IsPinOf j gs) (gate_readers j gs)
gates_are j [] = tt
gates_are j (g ∷ gs) =
    All-append (IsPinOf j (g ∷ gs)) (pin_readers j 0 (pins_of g)) (gate_readers (suc j) gs)
    (All-weaker (λ r. (q : ℕ) × (slice_get (pins_of g) q ≡ Some r.net) × (r.line ≡ Pin j (0 + q))) (IsPinOf j (g ∷ gs))
    (λ r a. (0, a.0, (g, refl, a.1), a.2 ∙ ap₂ Pin (sym (add-zero j)) (omega arith)))
    (pin_readers j 0 (pins_of g)) (pins_are j 0 (pins_of g)))
    (All-weaker (IsPinOf (suc j) gs) (IsPinOf j (g ∷ gs))
    (λ r a. (suc a.0, a.1, a.2, a.3 ∙ ap (λ (m : ℕ). Pin m a.1) (suc-add j a.0 ∙ sym (add-suc j a.0))))
    (gate_readers (suc j) gs) (gates_are (suc j) gs))

branches_are : (c : Netlist) → All (IsPinOf c.inputs c.gates) (branches c)
branches_are c = all_kept_by (λ r. leb 2 (read_count c r.net)) (IsPinOf c.inputs c.gates) (readers c) (gates_are c.inputs c.gates)

-- ---- how often a net is read

pins_read : (net j p : ℕ) (xs : List ℕ) → read_in (pin_readers j p xs) net ≡ times net xs
pins_read net j p [] = refl
pins_read net j p (x ∷ xs) = sum_by-cons (λ r. cond (reads net r) 1 0) (record { line = Pin j p; net = x }) (pin_readers j (suc p) xs) ∙ ap (λ (m : ℕ). cond (eqb net x) 1 0 + m) (pins_read net j (suc p) xs)

gates_read : (net j : ℕ) (gs : List Gate) → read_in (gate_readers j gs) net ≡ sum_by (λ g. times net (pins_of g)) gs
gates_read net j [] = refl
gates_read net j (g ∷ gs) =
    sum_by-append (λ r. cond (reads net r) 1 0) (pin_readers j 0 (pins_of g)) (gate_readers (suc j) gs)
    ∙ ap₂ ◌+◌ (pins_read net j 0 (pins_of g)) (gates_read net (suc j) gs)
    ∙ sym (sum_by-cons (λ h. times net (pins_of h)) g gs)

-- ---- the lines by number

module _ (c : Netlist) where
  abbrev n : ℕ
  n = nets c

  pub line_of_net : (j : ℕ) → j < nets c → line_of c j ≡ Some (Net j)
  line_of_net j h = cond-true (ltb j n) (Some (Net j)) (slice_get (branch_lines c) (j - n)) (lt-ltb j n h)

  pub line_past_nets : (j : ℕ) → nets c ≤ j → line_of c j ≡ slice_get (branch_lines c) (j - nets c)
  line_past_nets j h = cond-false (ltb j n) (Some (Net j)) (slice_get (branch_lines c) (j - n)) (le-ltb j n h)

  -- a site past the nets is a branch
  pub branch_at : (j : ℕ) (l : Line) → nets c ≤ j → line_of c j ≡ Some l → (r : Reader) × (slice_get (branches c) (j - nets c) ≡ Some r) × (r.line ≡ l)
  branch_at j l h e = nth_map (λ r. r.line) (branches c) (j - n) l (sym (line_past_nets j h) ∙ e)

  pub no_line_past : (j : ℕ) → site_count c ≤ j → line_of c j ≡ None
  no_line_past j h = line_past_nets j (omega arith) ∙ slice_get_past (branch_lines c) (j - n) (let l = length-map (branches c) (λ r. r.line) in omega arith)

  pub few_sites : Lawful c → site_count c ≤ 766
  few_sites r = let b = length_branches c in let s = r.some_input in let f = r.nets_fit in omega arith

  -- ---- order

  pub in_order : (i j : ℕ) (l m : Line) → i < j → line_of c i ≡ Some l → line_of c j ≡ Some m → Before l m
  in_order i j l m h p q = ⊎_elim
      (λ (jn : j < nets c).
      let a : Net i ≡ l = let e = line_of_net i (omega arith) in cc in
      let b : Net j ≡ m = let e = line_of_net j jn in cc in
      subst (λ (x : Line). Before x m) a (subst (λ (x : Line). Before (Net i) x) b h))
      (λ (nj : nets c ≤ j). let s = branch_at j m nj q in ⊎_elim
      (λ (i-n : i < nets c).
      let a : Net i ≡ l = let e = line_of_net i i-n in cc in
      let t = all_nth (IsPinOf c.inputs c.gates) (branches c) (j - n) s.0 (branches_are c) s.1 in
      let b : Pin (c.inputs + t.0) t.1 ≡ m = sym t.3 ∙ s.2 in
      subst (λ (x : Line). Before x m) a (subst (λ (x : Line). Before (Net i) x) b tt))
      (λ (ni : nets c ≤ i).
      let r = branch_at i l ni p in
      let f = rising_at First (branches c) (i - n) (j - n) r.0 s.0 (rising_branches c) (omega arith) r.1 s.1 in
      subst (λ (x : Line). Before x m) r.2 (subst (λ (x : Line). Before r.0.line x) s.2 f))
      (cases_lt i (nets c)))
      (cases_lt j (nets c))

  pub irreflexive : (l : Line) → Before l l → ⊥
  irreflexive (Net i) h = omega arith
  irreflexive (Pin i p) (inl h) = omega arith
  irreflexive (Pin i p) (inr h) = let z = h.1 in omega arith

  pub one_site_each : (i j : ℕ) (l : Line) → line_of c i ≡ Some l → line_of c j ≡ Some l → i ≡ j
  one_site_each i j l p q = ⊎_elim (λ e. e) (λ o. absurd (⊎_elim (λ h. irreflexive l (in_order i j l l h p q)) (λ h. irreflexive l (in_order j i l l h q p)) o)) (cases_order i j)

  pub site_has_line : (j : ℕ) → j < site_count c → (l : Line) × (line_of c j ≡ Some l)
  site_has_line j h = ⊎_elim {C = (l : Line) × (line_of c j ≡ Some l)}
      (λ a. (Net j, line_of_net j a))
      (λ a. (get_or (branch_lines c) (j - n) (Net 0), line_past_nets j a ∙ slice_get-get_or (branch_lines c) (j - n) (Net 0) (let e = length-map (branches c) (λ r. r.line) in omega arith)))
      (cases_lt j n)

  -- ---- pins

  pub past_nets_pins : (j : ℕ) (l : Line) → nets c ≤ j → line_of c j ≡ Some l → IsPin c l
  past_nets_pins j l h e =
      let s = branch_at j l h e in
      let t = all_nth (IsPinOf c.inputs c.gates) (branches c) (j - n) s.0 (branches_are c) s.1 in
      record {
        gate = t.0;
        pin = t.1;
        net = s.0.net;
        reads = record { gate = t.2.0; is_gate = t.2.1; is_pin = t.2.2 };
        is = sym s.2 ∙ t.3;
      }

  pub pin_site : (i p net : ℕ) → PinReads c i p net → 2 ≤ read_count c net → IsSite c (Pin (c.inputs + i) p)
  pin_site i p net r h =
      let reader : Reader = record { line = Pin (c.inputs + i) p; net = net } in
      let has = has_kept (λ s. leb 2 (read_count c s.net)) (readers c) reader (gates_have c.inputs c.gates i p net (r.gate, r.is_gate, r.is_pin)) (le-leb 2 (read_count c net) h) in
      let at = has_nth (branches c) reader has in
      (nets c + at.0, line_past_nets (nets c + at.0) (omega arith) ∙ ap (slice_get (branch_lines c)) (omega arith) ∙ map_nth (λ s. s.line) (branches c) at.0 reader at.1)

  pub site_shared : (i p net : ℕ) → PinReads c i p net → IsSite c (Pin (c.inputs + i) p) → 2 ≤ read_count c net
  site_shared i p net r (j, e) = ⊎_elim
      (λ a. absurd (let q = line_of_net j a in cc))
      (λ a.
      let s = branch_at j (Pin (c.inputs + i) p) a e in
      let t = all_nth (IsPinOf c.inputs c.gates) (branches c) (j - n) s.0 (branches_are c) s.1 in
      let u = leb-true 2 (read_count c s.0.net) (all_nth (λ x. leb 2 (read_count c x.net) ≡ true) (branches c) (j - n) s.0 (kept_by_passes (λ x. leb 2 (read_count c x.net)) (readers c)) s.1) in
      let same : Pin (c.inputs + t.0) t.1 ≡ Pin (c.inputs + i) p = sym t.3 ∙ s.2 in
      let gates : c.inputs + t.0 ≡ c.inputs + i = cc in
      let pins : t.1 ≡ p = cc in
      let gi : t.0 ≡ i = omega arith in
      let g : t.2.0 ≡ r.gate = let x = t.2.1 in let y = r.is_gate in let z : slice_get c.gates t.0 ≡ slice_get c.gates i = ap (slice_get c.gates) gi in cc in
      let nn : s.0.net ≡ net = let x = t.2.2 in let y = r.is_pin in let z : slice_get (pins_of t.2.0) t.1 ≡ slice_get (pins_of r.gate) p = ap₂ (λ (w : Gate) (m : ℕ). slice_get (pins_of w) m) g pins in cc in
      subst (λ (m : ℕ). 2 ≤ read_count c m) nn u)
      (cases_lt j n)

-- ---- faults

unstuck : (level : Bool) (o : Option Line) (s : Stuck) → stuck_at level o ≡ Some s → (o ≡ Some s.line) × (level ≡ s.level)
unstuck level None s e = absurd (cc)
unstuck level (Some l) s e =
    let q : record { line = l; level = level } ≡ s = cc in
    (ap (λ (x : Stuck). Some x.line) q, ap (λ (x : Stuck). x.level) q)

-- a fault number from its site and its level
pub both_levels : (c : Netlist) (j : ℕ) (l : Line) (b : Bool) → line_of c j ≡ Some l → stuck_of c (2 * j + cond b 1 0) ≡ Some (record { line = l; level = b })
both_levels c j l true e =
    let n : 2 * j + 1 ≡ j * 2 + 1 = omega arith in
    ap₂ stuck_at (ap (λ (x : ℕ). eqb (x % 2) 1) n ∙ ap (λ (x : ℕ). eqb x 1) (mod-mul-add j 2 1 (omega arith))) (ap (λ (x : ℕ). line_of c (x / 2)) n ∙ ap (line_of c) (div-mul-add j 2 1 (omega arith)) ∙ e)
both_levels c j l false e =
    let n : 2 * j + 0 ≡ j * 2 + 0 = omega arith in
    ap₂ stuck_at (ap (λ (x : ℕ). eqb (x % 2) 1) n ∙ ap (λ (x : ℕ). eqb x 1) (mod-mul-add j 2 0 (omega arith))) (ap (λ (x : ℕ). line_of c (x / 2)) n ∙ ap (line_of c) (div-mul-add j 2 0 (omega arith)) ∙ e)

pub one_fault_each : (c : Netlist) (f g : ℕ) (s : Stuck) → stuck_of c f ≡ Some s → stuck_of c g ≡ Some s → f ≡ g
one_fault_each c f g s p q =
    let u = unstuck (eqb (f % 2) 1) (line_of c (f / 2)) s p in
    let w = unstuck (eqb (g % 2) 1) (line_of c (g / 2)) s q in
    let site : f / 2 ≡ g / 2 = one_site_each c (f / 2) (g / 2) s.line u.0 w.0 in
    let level : eqb (f % 2) 1 ≡ eqb (g % 2) 1 = u.1 ∙ sym w.1 in
    let a = mod_below f 2 (omega arith) in
    let b = mod_below g 2 (omega arith) in
    let d : f % 2 ≡ g % 2 = grind (arith, nat_tests) in
    omega (arith, div-add-mod' f 2, div-add-mod' g 2)

pub site_laws : (c : Netlist) → SiteLaws c
site_laws c = record {
  every_site_has_a_line = site_has_line c;
  no_line_past_the_sites = no_line_past c;
  different_sites_have_different_lines = one_site_each c;
  sites_stand_in_order = in_order c;
  every_net_is_a_site = line_of_net c;
  past_the_nets_are_pins = past_nets_pins c;
  a_pin_is_a_site_exactly_if_its_net_is_shared = λ i p net r. (site_shared c i p net r, pin_site c i p net r);
  gate_pins_are_the_readers = λ net. gates_read net c.inputs c.gates;
  every_site_sticks_at_both_levels = both_levels c;
  different_faults_stick_differently = one_fault_each c;
  two_faults_for_each_net_and_branch = refl;
}

-- A catch at an output is shown there by every filling; where no cell is free, a showing is a catch.
use Rattle.std.proofs.Common.{◌≡◌, ℕ, zero, suc, ◌/◌, ◌%◌, ◌<◌, ◌≤◌, Bool, true, false, not, ◌||◌, ◌≢◌, eqb, List, [], ◌∷◌, length, get_or, take, Some, None, Ok, Err, is_ok, ltb, Decides, Option, Result, sym, refl, ap, ◌∙◌, subst, ap₂, ⊎_elim, arith}
use Rattle.std.proofs.lemmas.List.{get_or_default, get_or_past}
use Rattle.std.proofs.lemmas.Bool.{false≢true, ltb-false, or_cases, or_left, or_right, true≢false}
use Rattle.card.specs.Netlists.{Lawful, Netlist, all_below, nets}
use Rattle.signal.specs.declared.line.Stuck.{Stuck}
use Rattle.signal.specs.declared.ternary.Ternary.{Ternary}
use Rattle.signal.specs.declared.ternary.Ternary.TheVariants.{Low, High, X}
use Rattle.signal.specs.Laws.{Only}
use Rattle.signal.specs.Lists.{Everywhere}
use Rattle.signal.specs.Operations.{bit_operations}
use Rattle.signal.specs.Ternaries.{Allows, ternary_operations}
use Rattle.signal.specs.Walks.{net_of, net_values}
use Rattle.card.proofs.Below.{below_head, below_tail}
use Rattle.signal.proofs.Below.{entry_read, output_below}
use Rattle.signal.specs.Exactly.{exact_definite}
use Rattle.signal.proofs.Keeping.{net_values_kept}
use Rattle.signal.proofs.Places.{everywhere_at, everywhere_from, everywhere_read}
use Rattle.signal.specs.Unknowns.{ternary_exact, ternary_sound}
use Rattle.signal.proofs.Begun.{every_net_keeps}
use Rattle.signal.proofs.Walked.{length_net_values}
use Rattle.vectors.specs.Vectors.{Cells, Fills, bit_at, cell_of, start}
use Rattle.vectors.proofs.Fillings.{cells_at, filled_by_the_allowed, length_cells}
use Rattle.faults.specs.Catching.{AllFixed, ShownByEveryFilling, catches, catches_fault, caught_at, caught_if, opposite, opposite_at, opposite_somewhere, same, ternary_nets}
use Rattle.faults.specs.Showing.{Shows, ShowsAt, output_bit, output_net}
use Rattle.faults.specs.Sites.{fault_count, stuck_at, stuck_of}
use Rattle.faults.specs.declared.refusal.FaultRefusal.{FaultRefusal}
use Rattle.faults.proofs.Sited.{no_line_past}

-- ---- some net of a list

pub somewhere_at : (good faulty : List Ternary) (os : List ℕ) → opposite_somewhere good faulty os ≡ true → (i : ℕ) × (i < length os) × (opposite_at good faulty (get_or os i 0) ≡ true)
somewhere_at good faulty [] e = absurd (false≢true e)
somewhere_at good faulty (o ∷ os) e = ⊎_elim {C = (i : ℕ) × (i < suc (length os)) × (opposite_at good faulty (get_or (o ∷ os) i 0) ≡ true)}
    (λ h. (0, omega arith, h))
    (λ h. let r = somewhere_at good faulty os h in (suc r.0, (let l = r.1 in omega arith), r.2))
    (or_cases (opposite_at good faulty o) (opposite_somewhere good faulty os) e)

pub at_somewhere : (good faulty : List Ternary) (os : List ℕ) (i : ℕ) → i < length os → opposite_at good faulty (get_or os i 0) ≡ true → opposite_somewhere good faulty os ≡ true
at_somewhere good faulty [] i h e = absurd (omega arith)
at_somewhere good faulty (o ∷ os) zero h e = or_left (opposite_at good faulty o) (opposite_somewhere good faulty os) e
at_somewhere good faulty (o ∷ os) (suc i) h e = or_right (opposite_at good faulty o) (opposite_somewhere good faulty os) (at_somewhere good faulty os i (omega arith) e)

-- arrays whose first n entries are known
pub somewhere_read : (n : ℕ) (xs ys good faulty : List Ternary) (os : List ℕ) → all_below n os ≡ true → take n xs ≡ good → take n ys ≡ faulty → opposite_somewhere xs ys os ≡ opposite_somewhere good faulty os
somewhere_read n xs ys good faulty [] b p q = refl
somewhere_read n xs ys good faulty (o ∷ os) b p q =
    let l = below_head n o os b in
    ap₂ ◌||◌ (ap₂ opposite (entry_read n xs good o X l p) (entry_read n ys faulty o X l q)) (somewhere_read n xs ys good faulty os (below_tail n o os b) p q)

-- what two reads tell of a net, whatever is read past the ends
pub opposite_read : (xs ys : List Ternary) (net n : ℕ) (d e : Ternary) (b : Bool) → net < n → length xs ≡ n → length ys ≡ n → b ≡ opposite (get_or xs net d) (get_or ys net e) → opposite_at xs ys net ≡ b
opposite_read xs ys net n d e b h p q t = ap₂ opposite (get_or_default xs net X d (omega arith)) (get_or_default ys net X e (omega arith)) ∙ sym t

-- ---- opposite values and the bits that they allow

opposite_differ : (x y : Ternary) (p q : Bool) → opposite x y ≡ true → Allows x p → Allows y q → p ≡ q → ⊥
opposite_differ Low Low p q e a b s = false≢true e
opposite_differ Low High true q e a b s = false≢true a
opposite_differ Low High false q e a b s = false≢true (s ∙ b)
opposite_differ Low X p q e a b s = false≢true e
opposite_differ High Low p true e a b s = false≢true b
opposite_differ High Low p false e a b s = true≢false (sym a ∙ s)
opposite_differ High High p q e a b s = false≢true e
opposite_differ High X p q e a b s = false≢true e
opposite_differ X y p q e a b s = false≢true e

-- at each net, the three values allow the bits of every filling
pub filling_allowed : (c : Netlist) (t : Option Stuck) (v : Cells) (bits : List Bool) (net : ℕ) → Fills c.inputs v bits → Allows (get_or (ternary_nets c t v) net X) (get_or (net_values bit_operations t c bits) net false)
filling_allowed c t v bits net f =
    everywhere_read Allows (ternary_nets c t v) (net_values bit_operations t c bits) net X false refl
    (net_values_kept ternary_operations Allows ternary_sound t c (start c.inputs v) bits ((filled_by_the_allowed c.inputs v bits).0 f))

pub caught_shows : (c : Netlist) (s : Stuck) (v : Cells) (i : ℕ) → i < length c.outputs → caught_at c s v i ≡ true → (bits : List Bool) → Fills c.inputs v bits → ShowsAt c s bits i
caught_shows c s v i h e bits f = record {
  an_output = h;
  differs = opposite_differ (get_or (ternary_nets c None v) (output_net c i) X) (get_or (ternary_nets c (Some s) v) (output_net c i) X) (output_bit c None bits i) (output_bit c (Some s) bits i) e
      (filling_allowed c None v bits (output_net c i) f) (filling_allowed c (Some s) v bits (output_net c i) f);
}

-- a catch is shown by every filling at one output
pub catch_shown : (c : Netlist) (s : Stuck) (v : Cells) → catches c s v ≡ true → ShownByEveryFilling c s v
catch_shown c s v e = let r = somewhere_at (ternary_nets c None v) (ternary_nets c (Some s) v) c.outputs e in record { output = r.0; shown = caught_shows c s v r.0 r.1 r.2 }

-- ---- no free cell

fixed_only : (b : Bool) → Only Allows (cell_of true b) b
fixed_only true = record { allowed = refl; alone = λ d a. a }
fixed_only false = record { allowed = refl; alone = turned }
  where
    turned : (d : Bool) → not d ≡ true → d ≡ false
    turned true a = sym a
    turned false a = refl

only_fixed : (x : Ternary) (b : Bool) → Only Allows x b → x ≡ cell_of true b
only_fixed Low true o = absurd (false≢true o.allowed)
only_fixed Low false o = refl
only_fixed High true o = refl
only_fixed High false o = absurd (false≢true o.allowed)
only_fixed X true o = absurd (false≢true (o.alone false refl))
only_fixed X false o = absurd (true≢false (o.alone true refl))

opposite_fixed : (p q : Bool) → (p ≡ q → ⊥) → opposite (cell_of true p) (cell_of true q) ≡ true
opposite_fixed true true d = absurd (d refl)
opposite_fixed true false d = refl
opposite_fixed false true d = refl
opposite_fixed false false d = absurd (d refl)

pub fixed_start : (k : ℕ) (v : Cells) (bits : List Bool) → AllFixed k v → Fills k v bits → Everywhere (Only Allows) (start k v) bits
fixed_start k v bits a f =
    everywhere_from (Only Allows) (start k v) bits (length_cells v 0 k ∙ sym f.one_for_each)
    (λ i d e h.
    let l : i < k = let n = length_cells v 0 k in omega arith in
    let b : get_or bits i e ≡ bit_at v.value i = get_or_default bits i e false (let n = f.one_for_each in omega arith) ∙ f.agrees i l (a i l) in
    let x : get_or (start k v) i d ≡ cell_of true (bit_at v.value i) =
    get_or_default (start k v) i d X h ∙ cells_at v 0 k i i (omega arith) l ∙ ap (λ (z : Bool). cell_of z (bit_at v.value i)) (a i l) in
    subst (λ (z : Ternary). Only Allows z (get_or bits i e)) (sym x) (subst (λ (z : Bool). Only Allows (cell_of true (bit_at v.value i)) z) (sym b) (fixed_only (bit_at v.value i))))

pub fixed_nets : (c : Netlist) (t : Option Stuck) (v : Cells) (bits : List Bool) (net : ℕ) → AllFixed c.inputs v → Fills c.inputs v bits → net < nets c
    → get_or (ternary_nets c t v) net X ≡ cell_of true (get_or (net_values bit_operations t c bits) net false)
fixed_nets c t v bits net a f h =
    only_fixed (get_or (ternary_nets c t v) net X) (get_or (net_values bit_operations t c bits) net false)
    (everywhere_at (Only Allows) (ternary_nets c t v) (net_values bit_operations t c bits) net X false
    (let n = length_net_values ternary_operations t c (start c.inputs v) (length_cells v 0 c.inputs) in omega arith)
    (net_values_kept ternary_operations (Only Allows) (exact_definite ternary_operations Allows ternary_exact) t c (start c.inputs v) bits (fixed_start c.inputs v bits a f)))

pub shows_caught : (c : Netlist) (s : Stuck) (v : Cells) (bits : List Bool) → Lawful c → AllFixed c.inputs v → Fills c.inputs v bits → Shows c s bits → catches c s v ≡ true
shows_caught c s v bits r a f d =
    let i = d.output in
    let h = d.shown.an_output in
    let o = output_below c i 0 r h in
    at_somewhere (ternary_nets c None v) (ternary_nets c (Some s) v) c.outputs i h
    (ap₂ opposite (fixed_nets c None v bits (output_net c i) a f o) (fixed_nets c (Some s) v bits (output_net c i) a f o)
    ∙ opposite_fixed (output_bit c None bits i) (output_bit c (Some s) bits i) d.shown.differs)

-- without free cells, catching is showing
pub fixed_catches : (c : Netlist) (s : Stuck) (v : Cells) (bits : List Bool) → Lawful c → AllFixed c.inputs v → Fills c.inputs v bits → Decides (catches c s v) (Shows c s bits)
fixed_catches c s v bits r a f = (
  λ e. let w = catch_shown c s v e in record { one_for_each = f.one_for_each; output = w.output; shown = w.shown bits f },
  λ d. shows_caught c s v bits r a f d,
)

-- arrays that begin with the nets of the good and of the faulty card
pub catches_read : (c : Netlist) (s : Stuck) (v : Cells) (xs ys : List Ternary) (os : List ℕ) (r : Bool) → Lawful c → os ≡ c.outputs
    → take (nets c) xs ≡ ternary_nets c None v → take (nets c) ys ≡ ternary_nets c (Some s) v → r ≡ opposite_somewhere xs ys os → r ≡ catches c s v
catches_read c s v xs ys os r l e x y t = t ∙ ap (opposite_somewhere xs ys) e ∙ somewhere_read (nets c) xs ys (ternary_nets c None v) (ternary_nets c (Some s) v) c.outputs l.outputs_declared x y

-- ---- a fault that changes no net

same_opposite : (x : Ternary) → opposite x x ≡ false
same_opposite Low = refl
same_opposite High = refl
same_opposite X = refl

none_opposite : (xs : List Ternary) (os : List ℕ) → opposite_somewhere xs xs os ≡ false
none_opposite xs [] = refl
none_opposite xs (o ∷ os) = ap₂ ◌||◌ (same_opposite (get_or xs o X)) (none_opposite xs os)

pub unchanged_uncaught : (c : Netlist) (s : Stuck) (v : Cells) → ternary_nets c (Some s) v ≡ ternary_nets c None v → catches c s v ≡ false
unchanged_uncaught c s v e = ap (λ (ys : List Ternary). opposite_somewhere (ternary_nets c None v) ys c.outputs) e ∙ none_opposite (ternary_nets c None v) c.outputs

not_true : (b : Bool) → (b ≡ true → ⊥) → b ≡ false
not_true true h = absurd (h refl)
not_true false h = refl

-- where no net changes the answer is no
pub unexcited_uncaught : (c : Netlist) (s : Stuck) (v : Cells) (changes : Bool) → Decides changes (ternary_nets c (Some s) v ≢ ternary_nets c None v) → changes ≡ false → changes ≡ catches c s v
unexcited_uncaught c s v changes d e = e ∙ sym (not_true (catches c s v) (λ t. false≢true (sym e ∙ d.1 (λ q. false≢true (sym (unchanged_uncaught c s v q) ∙ t)))))

-- a line of a net that the card does not have changes none
pub no_net_no_change : (c : Netlist) (s : Stuck) (v : Cells) → Lawful c → nets c ≤ net_of s.line → ternary_nets c (Some s) v ≡ ternary_nets c None v
no_net_no_change c s v l h =
    let n = net_of s.line in
    let cells = start c.inputs v in
    let fits = length_cells v 0 c.inputs in
    let past : (t : Option Stuck) → get_or (ternary_nets c t v) n X ≡ X = λ t. get_or_past (ternary_nets c t v) n X (let e = length_net_values ternary_operations t c cells fits in omega (arith, e, h)) in
    every_net_keeps ternary_operations s c cells fits l X (past (Some s) ∙ sym (past None))

differ_decides : (x y : Ternary) → Decides (not (same x y)) (y ≢ x)
differ_decides Low Low = (λ e q. false≢true e, λ q. absurd (q refl))
differ_decides Low High = (λ e q. false≢true (ap (same Low) q), λ q. refl)
differ_decides Low X = (λ e q. false≢true (ap (same Low) q), λ q. refl)
differ_decides High Low = (λ e q. false≢true (ap (same High) q), λ q. refl)
differ_decides High High = (λ e q. false≢true e, λ q. absurd (q refl))
differ_decides High X = (λ e q. false≢true (ap (same High) q), λ q. refl)
differ_decides X Low = (λ e q. false≢true (ap (same X) q), λ q. refl)
differ_decides X High = (λ e q. false≢true (ap (same X) q), λ q. refl)
differ_decides X X = (λ e q. false≢true e, λ q. absurd (q refl))

-- the line's net has this value where the line sticks: the nets change exactly if it is another than what is read of the good card
pub changes_at_the_line : (c : Netlist) (s : Stuck) (v : Cells) (xs : List Ternary) (value d : Ternary) (k n : ℕ) (differs : Bool) → Lawful c → take (nets c) xs ≡ ternary_nets c None v → k ≡ net_of s.line → k < nets c
    → ((e : Ternary) → value ≡ get_or (ternary_nets c (Some s) v) (net_of s.line) e) → k < n → length xs ≡ n → differs ≡ not (same (get_or xs k d) value) → Decides differs (ternary_nets c (Some s) v ≢ ternary_nets c None v)
changes_at_the_line c s v xs value d k n differs l e at h is w m t =
    let good = ternary_nets c None v in
    let faulty = ternary_nets c (Some s) v in
    let there : value ≡ get_or faulty k X = is X ∙ ap (λ (j : ℕ). get_or faulty j X) (sym at) in
    let read : get_or xs k d ≡ get_or good k X = get_or_default xs k d X (omega (arith, w, m)) ∙ entry_read (nets c) xs good k X h e in
    let told : Decides differs (value ≢ get_or xs k d) = subst (λ (b : Bool). Decides b (value ≢ get_or xs k d)) (sym t) (differ_decides (get_or xs k d) value) in
    let line : get_or faulty k X ≡ get_or good k X → get_or faulty (net_of s.line) X ≡ get_or good (net_of s.line) X = λ q. subst (λ (j : ℕ). get_or faulty j X ≡ get_or good j X) at q in (
      λ yes q. told.0 yes (there ∙ ap (λ (ys : List Ternary). get_or ys k X) q ∙ sym read),
      λ q. told.1 (λ r. q (every_net_keeps ternary_operations s c (start c.inputs v) (length_cells v 0 c.inputs) l X (line (sym there ∙ r ∙ read)))),
    )

-- ---- by a fault's number

-- past the last fault there is no line
pub no_fault_past : (c : Netlist) (f : ℕ) → fault_count c ≤ f → stuck_of c f ≡ None
no_fault_past c f h = ap (stuck_at (eqb (f % 2) 1)) (no_line_past c (f / 2) (omega (arith, h)))

-- what is asked of the line of a fault that the card has
pub caught_by_line : (c : Netlist) (f : ℕ) (v : Cells) (s : Stuck) (b : Bool) → stuck_of c f ≡ Some s → b ≡ catches c s v → b ≡ catches_fault c f v
unfolding catches_fault
caught_by_line c f v s b is e = e ∙ ap (λ (u : Option Stuck). caught_if c u v) (sym is)

-- and no of any other
pub caught_by_none : (c : Netlist) (f : ℕ) (v : Cells) (line : Result Stuck FaultRefusal) → ((s : Stuck) → line ≡ Ok s → ⊥) → is_ok line ≡ ltb f (fault_count c) → false ≡ catches_fault c f v
unfolding catches_fault
caught_by_none c f v (Ok s) h has = absurd (h s refl)
caught_by_none c f v (Err e) h has = sym (ap (λ (u : Option Stuck). caught_if c u v) (no_fault_past c f (ltb-false f (fault_count c) (sym has))))

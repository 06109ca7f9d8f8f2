-- A merge leaves every verdict right: what either vector catches, the merged one catches.
use Rattle.std.proofs.Common.{◌≡◌, ℕ, ◌+◌, ◌-◌, ◌<◌, ◌≤◌, Bool, true, cond, List, ◌∷◌, map, length, get_or, set, Ok, sym, refl, ap, ◌∙◌, subst, ⊎_elim, arith, length-set, get_or-set_other, get_or-set_same}
use lib.Bits.{bit_and, bit_xor}
use lib.ListN.{length-map}
use Rattle.std.specs.List.{remove}
use Rattle.std.proofs.lemmas.List.Edits.{get_or-remove_above, get_or-remove_below, length-remove}
use Rattle.std.proofs.lemmas.List.{get_or-map, get_or_past}
use Rattle.std.proofs.lemmas.Bool.{cases_eq, cases_lt, eq-eqb, eqb-true, le-ltb, lt-ltb, ne_eqb, or_from, or_parts}
use Rattle.card.specs.Netlists.{Netlist}
use Rattle.vectors.specs.Merging.{mergeable, union}
use Rattle.vectors.specs.Extending.{Extends}
use Rattle.vectors.specs.Vectors.{Cells, InForm, bit_at}
use Rattle.vectors.proofs.Bits.{bit_or_lem}
use Rattle.vectors.proofs.Forms.{free_from_bits}
use Rattle.vectors.proofs.Merged.{union_extends}
use Rattle.faults.specs.Catching.{catches_fault}
use Rattle.history.specs.Changing.{lowered, renamed, renumbered}
use Rattle.history.specs.Histories.{AmpleSearch, AmplySearched, History}
use Rattle.history.specs.Steps.{merged}
use Rattle.history.specs.Views.{View, blank, mark, vector_at}
use Rattle.history.specs.declared.mark.Mark.{Mark}
use Rattle.history.specs.declared.mark.Mark.TheVariants.{Open, Detected, Untestable}
use Rattle.history.proofs.Caught.{fault_caught_more}
use Rattle.history.proofs.Granted.{Mergeable}
use Rattle.history.proofs.Verdicts.{ListedFor, Verdicts, same_number}

-- ---- marks

old_number : (i j n : ℕ) (m : Mark) → renamed i j m ≡ Detected n → (q : ℕ) × (m ≡ Detected q) × (n ≡ renumbered i j q)
old_number i j n Open e = absurd (cc)
old_number i j n (Detected q) e = (q, refl, sym (same_number (renumbered i j q) n e))
old_number i j n Untestable e = absurd (cc)

renamed_untestable : (i j : ℕ) (m : Mark) → renamed i j m ≡ Untestable → m ≡ Untestable
renamed_untestable i j Open e = absurd (cc)
renamed_untestable i j (Detected q) e = absurd (cc)
renamed_untestable i j Untestable e = refl

renamed_open : (i j : ℕ) (m : Mark) → renamed i j m ≡ Open → m ≡ Open
renamed_open i j Open e = refl
renamed_open i j (Detected q) e = absurd (cc)
renamed_open i j Untestable e = absurd (cc)

pub mark_renamed : (i j : ℕ) (ms : List Mark) (f : ℕ) → get_or (map (renamed i j) ms) f Open ≡ renamed i j (get_or ms f Open)
mark_renamed i j ms f =
    ⊎_elim
    (λ (lt : f < length ms). get_or-map (renamed i j) ms f Open Open lt)
    (λ (le : length ms ≤ f).
    let past : length (map (renamed i j) ms) ≤ f = omega (arith, length-map ms (renamed i j), le) in
    get_or_past (map (renamed i j) ms) f Open past ∙ ap (renamed i j) (sym (get_or_past ms f Open le)))
    (cases_lt f (length ms))

-- ---- vectors

union_in_form : (k : ℕ) (x y : Cells) → InForm k x → InForm k y → InForm k (union x y)
union_in_form k x y a b = record {
  within = λ j le. bit_or_lem x.care y.care j ∙ or_from (bit_at x.care j) (bit_at y.care j) (a.within j le) (b.within j le);
  free_is_zero = λ j free.
      let (p, q) = or_parts (bit_at x.care j) (bit_at y.care j) (sym (bit_or_lem x.care y.care j) ∙ free) in
      bit_or_lem x.value y.value j ∙ or_from (bit_at x.value j) (bit_at y.value j) (a.free_is_zero j p) (b.free_is_zero j q);
}

module _ (c : Netlist) (x y : Cells) (a : InForm c.inputs x) (b : InForm c.inputs y) (fit : mergeable x y ≡ true) where
  clear : bit_and (bit_and x.care y.care) (bit_xor x.value y.value) ≡ 0
  clear = eqb-true (bit_and (bit_and x.care y.care) (bit_xor x.value y.value)) 0 fit

  extends_both : Extends (union x y) x × Extends (union x y) y
  extends_both = union_extends x y (free_from_bits x.care x.value a.free_is_zero) (free_from_bits y.care y.value b.free_is_zero) clear

  caught_by_first : (f : ℕ) → catches_fault c f x ≡ true → catches_fault c f (union x y) ≡ true
  caught_by_first f k = fault_caught_more c f x (union x y) extends_both.0 k

  caught_by_second : (f : ℕ) → catches_fault c f y ≡ true → catches_fault c f (union x y) ≡ true
  caught_by_second f k = fault_caught_more c f y (union x y) extends_both.1 k

-- a vector other than j keeps its place below j, and drops by one above it
moved : (xs : List Cells) (j n : ℕ) → j < length xs → n < length xs → (n ≡ j → ⊥) → (lowered j n < length (remove xs j)) × (get_or (remove xs j) (lowered j n) blank ≡ get_or xs n blank)
moved xs j n jlt nlt ne =
    ⊎_elim
    (λ (lt : j < n).
    let low : lowered j n ≡ n - 1 = ap (λ (b : Bool). cond b (n - 1) n) (lt-ltb j n lt) in
    let up : (n - 1) + 1 ≡ n = omega arith in
    let ge : j ≤ n - 1 = omega arith in
    (omega (arith, low, length-remove xs j jlt), ap (λ (q : ℕ). get_or (remove xs j) q blank) low ∙ get_or-remove_above xs j blank (n - 1) ge jlt ∙ ap (λ (q : ℕ). get_or xs q blank) up))
    (λ (le : n ≤ j).
    let low : lowered j n ≡ n = ap (λ (b : Bool). cond b (n - 1) n) (le-ltb j n le) in
    let lt : n < j = omega arith in
    (omega (arith, low, length-remove xs j jlt), ap (λ (q : ℕ). get_or (remove xs j) q blank) low ∙ get_or-remove_below xs j blank n lt jlt))
    (cases_lt j n)

-- what a place of the shortened list holds
came : (xs : List Cells) (j n : ℕ) → j < length xs → n < length (remove xs j) → (q : ℕ) × (q < length xs) × (get_or (remove xs j) n blank ≡ get_or xs q blank)
came xs j n jlt nlt =
    ⊎_elim
    (λ (lt : n < j). (n, omega (arith, lt, jlt), get_or-remove_below xs j blank n lt jlt))
    (λ (le : j ≤ n). (n + 1, omega (arith, nlt, length-remove xs j jlt), get_or-remove_above xs j blank n le jlt))
    (cases_lt n j)

module _ (c : Netlist) (h : History) (v : View) (i j : ℕ) (able : Mergeable v i j) (s : Verdicts c h v.marks v.vectors) where
  abbrev both : Cells
  both = union (vector_at v i) (vector_at v j)

  abbrev held : List Cells
  held = set v.vectors i both

  long : length held ≡ length v.vectors
  long = length-set v.vectors i both

  first_form : InForm c.inputs (vector_at v i)
  first_form = s.formed i able.first_listed

  second_form : InForm c.inputs (vector_at v j)
  second_form = s.formed j able.second_listed

  at_first : get_or held i blank ≡ both
  at_first = get_or-set_same v.vectors i both blank able.first_listed

  elsewhere : (q : ℕ) → (q ≡ i → ⊥) → get_or held q blank ≡ vector_at v q
  elsewhere q ne = get_or-set_other v.vectors i q both blank ne

  -- each vector still catches what it caught, the first one with the second one's cells
  held_catches : (f q : ℕ) → catches_fault c f (vector_at v q) ≡ true → catches_fault c f (get_or held q blank) ≡ true
  held_catches f q k =
      ⊎_elim
      (λ (e : q ≡ i).
      subst (λ (n : ℕ). catches_fault c f (get_or held n blank) ≡ true) (sym e)
      (subst (λ (x : Cells). catches_fault c f x ≡ true) (sym at_first) (caught_by_first c (vector_at v i) (vector_at v j) first_form second_form able.fit f (subst (λ (n : ℕ). catches_fault c f (vector_at v n) ≡ true) e k))))
      (λ (ne : q ≡ i → ⊥). subst (λ (x : Cells). catches_fault c f x ≡ true) (sym (elsewhere q ne)) k)
      (cases_eq q i)

  held_formed : (q : ℕ) → q < length v.vectors → InForm c.inputs (get_or held q blank)
  held_formed q lt =
      ⊎_elim
      (λ (e : q ≡ i). subst (λ (n : ℕ). InForm c.inputs (get_or held n blank)) (sym e) (subst (InForm c.inputs) (sym at_first) (union_in_form c.inputs (vector_at v i) (vector_at v j) first_form second_form)))
      (λ (ne : q ≡ i → ⊥). subst (InForm c.inputs) (sym (elsewhere q ne)) (s.formed q lt))
      (cases_eq q i)

  jlt : j < length held
  jlt = omega (arith, long, able.second_listed)

  listed_merged : (f q : ℕ) → ListedFor c f v.vectors q → ListedFor c f (remove held j) (renumbered i j q)
  listed_merged f q (qlt, k) =
      ⊎_elim
      (λ (e : q ≡ j).
      let num : renumbered i j q ≡ lowered j i = ap (λ (b : Bool). lowered j (cond b i q)) (eq-eqb q j e) in
      let (lt, is) = moved held j i jlt (omega (arith, long, able.first_listed)) able.apart in
      let there : get_or (remove held j) (renumbered i j q) blank ≡ both = ap (λ (n : ℕ). get_or (remove held j) n blank) num ∙ is ∙ at_first in
      let by : catches_fault c f both ≡ true = caught_by_second c (vector_at v i) (vector_at v j) first_form second_form able.fit f (subst (λ (n : ℕ). catches_fault c f (vector_at v n) ≡ true) e k) in
      (omega (arith, num, lt), subst (λ (x : Cells). catches_fault c f x ≡ true) (sym there) by))
      (λ (ne : q ≡ j → ⊥).
      let num : renumbered i j q ≡ lowered j q = ap (λ (b : Bool). lowered j (cond b i q)) (ne_eqb q j ne) in
      let (lt, is) = moved held j q jlt (omega (arith, long, qlt)) ne in
      let there : get_or (remove held j) (renumbered i j q) blank ≡ get_or held q blank = ap (λ (n : ℕ). get_or (remove held j) n blank) num ∙ is in
      (omega (arith, num, lt), subst (λ (x : Cells). catches_fault c f x ≡ true) (sym there) (held_catches f q k)))
      (cases_eq q j)

  pub verdicts_merged : (u : Unit {0}) → Verdicts c (merged i j (Ok u) ∷ h) (map (renamed i j) v.marks) (remove held j)
  verdicts_merged u = record {
    all_marked = length-map v.marks (renamed i j) ∙ s.all_marked;
    few = omega (arith, s.few, long, length-remove held j jlt);
    formed = λ n lt.
        let (q, qlt, is) = came held j n jlt lt in
        subst (InForm c.inputs) (sym is) (held_formed q (omega (arith, qlt, long)));
    detected = λ f n e.
        let (q, was, num) = old_number i j n (mark v f) (sym (mark_renamed i j v.marks f) ∙ e) in
        subst (ListedFor c f (remove held j)) (sym num) (listed_merged f q (s.detected f q was));
    untestable = λ f e. s.untestable f (renamed_untestable i j (mark v f) (sym (mark_renamed i j v.marks f) ∙ e));
    settled = λ f a e. ⊎_elim (λ (k : AmpleSearch c f (merged i j (Ok u))). k) (λ (k : AmplySearched c f h). s.settled f k (renamed_open i j (mark v f) (sym (mark_renamed i j v.marks f) ∙ e))) a;
  }

-- A reading satisfies the formula of a fault exactly if it is the one that a showing setting determines.
use Rattle.std.proofs.Common.{◌≡◌, ℕ, zero, suc, ◌+◌, ◌<◌, Bool, true, false, ◌||◌, List, [], ◌∷◌, length, get_or, take, sym, refl, ap, ◌∙◌, subst, true≢false, arith}
use mathlib.Core.Bool.{beq, false≢true}
use Rattle.std.proofs.lemmas.List.{ext_get_or, get_or-take, length-take-le}
use Rattle.std.proofs.lemmas.Bool.{and_from, and_parts, or_left, or_right}
use Rattle.std.specs.List.{flat_map, AllByRecursion as All}
use Rattle.card.specs.Netlists.{Netlist, Lawful, nets}
use Rattle.signal.specs.declared.line.Stuck.{Stuck}
use Rattle.signal.specs.Gates.{truth}
use Rattle.signal.specs.Operations.{bit_operations, differ}
use Rattle.solving.specs.Readings.{holds, Satisfies}
use Rattle.faults.specs.Showing.{Shows}
use Rattle.formula.specs.Formulas.{differences, formula_of}
use Rattle.formula.specs.Links.{clauses_of, links}
use Rattle.formula.specs.Meanings.{Extends, Means}
use Rattle.formula.specs.Variables.{difference, variables}
use Rattle.formula.proofs.Canonical.{at_difference, bit_at, canonical, canonical_begins, canonical_length, links_hold}
use Rattle.formula.proofs.Known.{Step, known, known_at}
use Rattle.formula.proofs.Linked.{links_fitted}
use Rattle.formula.proofs.Parts.{all_both, each_satisfies, satisfies_append, satisfies_each}
use Rattle.formula.proofs.Renamed.{read_bits}
use Rattle.formula.proofs.Ruled.{Fitted, Holds, link_means}

-- the last clause holds exactly if some difference is 1
beq_bit : (b : Bool) → beq b true ≡ b
beq_bit true = refl
beq_bit false = refl

some_difference : (r : List Bool) (n : ℕ) (os : List ℕ) (j : ℕ) → holds r (differences n j os) ≡ true → (i : ℕ) × (i < length os) × (bit_at r (difference n (j + i)) ≡ true)
some_difference r n [] j h = absurd (false≢true h)
some_difference r n (o ∷ os) j h = go (bit_at r (difference n j)) refl (some_difference r n os (suc j)) where
  go : (x : Bool) → bit_at r (difference n j) ≡ x → (holds r (differences n (suc j) os) ≡ true → (i : ℕ) × (i < length os) × (bit_at r (difference n (suc j + i)) ≡ true)) → (i : ℕ) × (i < suc (length os)) × (bit_at r (difference n (j + i)) ≡ true)
  go true e later = let z : j ≡ j + 0 = omega arith in (0, omega arith, subst (λ m. bit_at r (difference n m) ≡ true) z e)
  go false e later =
      let k = later (subst (λ x. (beq x true || holds r (differences n (suc j) os)) ≡ true) e h) in
      let z : suc j + k.0 ≡ j + suc k.0 = omega arith in
      (suc k.0, omega (arith, k.1), subst (λ m. bit_at r (difference n m) ≡ true) z k.2)

difference_holds : (r : List Bool) (n : ℕ) (os : List ℕ) (j i : ℕ) → i < length os → bit_at r (difference n (j + i)) ≡ true → holds r (differences n j os) ≡ true
difference_holds r n [] j i l e = absurd (omega arith)
difference_holds r n (o ∷ os) j zero l e = let z : j + 0 ≡ j = omega arith in or_left _ _ (beq_bit (bit_at r (difference n j)) ∙ subst (λ m. bit_at r (difference n m) ≡ true) z e)
difference_holds r n (o ∷ os) j (suc i) l e = let z : j + suc i ≡ suc j + i = omega arith in or_right _ _ (difference_holds r n os (suc j) i (omega arith) (subst (λ m. bit_at r (difference n m) ≡ true) z e))

differ_true : (x y : Bool) → differ x y ≡ true → x ≡ y → ⊥
differ_true true true d e = false≢true d
differ_true true false d e = true≢false e
differ_true false true d e = false≢true e
differ_true false false d e = false≢true d

true_differ : (x y : Bool) → (x ≡ y → ⊥) → differ x y ≡ true
true_differ true true e = absurd (e refl)
true_differ true false e = refl
true_differ false true e = refl
true_differ false false e = absurd (e refl)

-- bits that agree on each variable of a list
bits_agree : (q r : List Bool) (vs : List ℕ) → All (λ v. bit_at q v ≡ bit_at r v) vs → read_bits q vs ≡ read_bits r vs
bits_agree q r [] h = refl
bits_agree q r (v ∷ vs) h = λ i. h.0 i ∷ bits_agree q r vs h.1 i

module _ (c : Netlist) (s : Stuck) (lawful : Lawful c) where
  -- two readings that agree on the leading variables and at which every link holds are one
  same_reading : (q r : List Bool) → length q ≡ variables c → length r ≡ variables c → ((i : ℕ) → i < c.inputs → get_or q i false ≡ get_or r i false)
      → All (Holds q) (links c s) → All (Holds r) (links c s) → q ≡ r
  same_reading q r lq lr lead hq hr =
      let P : ℕ → Type 0 = λ v. bit_at q v ≡ bit_at r v in
      let steps : All (Step P) (links c s) = all_both (Holds q) (Holds r) (Step P) (λ l x y pins. x ∙ ap (truth bit_operations l.function) (bits_agree q r l.pins pins) ∙ sym y) (links c s) hq hr in
      let k = known P c s lawful lead steps in
      ext_get_or false q r (lq ∙ sym lr) (λ i l. known_at P c k i (omega arith))

  satisfied : (r : List Bool) → Satisfies r (formula_of c s) → All (Holds r) (links c s) × (holds r (differences (nets c) 0 c.outputs) ≡ true)
  unfolding formula_of
  satisfied r h =
      let p = and_parts _ _ (sym (satisfies_append r (flat_map clauses_of (links c s)) (differences (nets c) 0 c.outputs ∷ [])) ∙ h) in
      let q = and_parts (holds r (differences (nets c) 0 c.outputs)) true p.1 in
      (all_both Fitted (λ l. Satisfies r (clauses_of l)) (Holds r) (λ l f. (link_means r l f).0) (links c s) (links_fitted c s lawful) (satisfies_each clauses_of r (links c s) p.0), q.0)

  satisfies_by : (r : List Bool) → All (Holds r) (links c s) → holds r (differences (nets c) 0 c.outputs) ≡ true → Satisfies r (formula_of c s)
  unfolding formula_of
  satisfies_by r h e =
      satisfies_append r (flat_map clauses_of (links c s)) (differences (nets c) 0 c.outputs ∷ [])
      ∙ and_from _ _ (each_satisfies clauses_of r (links c s) (all_both Fitted (Holds r) (λ l. Satisfies r (clauses_of l)) (λ l f. (link_means r l f).1) (links c s) (links_fitted c s lawful) h)) (and_from _ true e refl)

  leading : (bits r : List Bool) → Extends c s bits r → (i : ℕ) → i < c.inputs → get_or r i false ≡ get_or bits i false
  leading bits r e i l = sym (get_or-take c.inputs r i false l) ∙ ap (λ ys. get_or ys i false) e.begins_with_the_setting

  unique : (bits q r : List Bool) → Extends c s bits q → Extends c s bits r → q ≡ r
  unique bits q r eq er =
      same_reading q r eq.one_for_each_variable er.one_for_each_variable (λ i l. leading bits q eq i l ∙ sym (leading bits r er i l)) (satisfied q eq.satisfies_the_formula).0 (satisfied r er.satisfies_the_formula).0

  extends : (bits : List Bool) → Shows c s bits → (r : List Bool) × Extends c s bits r
  extends bits sh =
      let fits = sh.one_for_each in
      let r = canonical c s bits in
      let z : 0 + sh.output ≡ sh.output = omega arith in (
        r,
        record {
          one_for_each_variable = canonical_length c s lawful bits fits;
          begins_with_the_setting = canonical_begins c s lawful bits fits;
          satisfies_the_formula = satisfies_by r (links_hold c s lawful bits fits)
              (difference_holds r (nets c) c.outputs 0 sh.output sh.shown.an_output
              (ap (λ m. bit_at r (difference (nets c) m)) z ∙ at_difference c s lawful bits fits sh.output sh.shown.an_output ∙ true_differ _ _ sh.shown.differs));
        },
      )

  -- a reading at which every link holds is the one that its setting determines
  pub is_canonical : (r : List Bool) → length r ≡ variables c → All (Holds r) (links c s) → r ≡ canonical c s (take c.inputs r)
  is_canonical r len h =
      let bits = take c.inputs r in
      let fits : length bits ≡ c.inputs = length-take-le c.inputs r (omega arith) in
      same_reading r (canonical c s bits) len (canonical_length c s lawful bits fits)
      (λ i l. sym (get_or-take c.inputs r i false l) ∙ sym (sym (get_or-take c.inputs (canonical c s bits) i false l) ∙ ap (λ ys. get_or ys i false) (canonical_begins c s lawful bits fits)))
      h (links_hold c s lawful bits fits)

  shows : (r : List Bool) → length r ≡ variables c → Satisfies r (formula_of c s) → Shows c s (take c.inputs r)
  shows r len sat =
      let bits = take c.inputs r in
      let fits : length bits ≡ c.inputs = length-take-le c.inputs r (omega arith) in
      let h = satisfied r sat in
      let d = some_difference r (nets c) c.outputs 0 h.1 in
      let z : d.0 ≡ 0 + d.0 = omega arith in
      let y = ap (λ ys. bit_at ys (difference (nets c) d.0)) (sym (is_canonical r len h.0)) ∙ ap (λ m. bit_at r (difference (nets c) m)) z ∙ d.2 in
      record { one_for_each = fits; output = d.0; shown = record { an_output = d.1; differs = differ_true _ _ (sym (at_difference c s lawful bits fits d.0 d.1) ∙ y) } }

  pub means : Means c s
  means = record { a_showing_setting_extends = extends; in_one_way = unique; a_satisfying_reading_begins_with_a_showing_setting = shows }

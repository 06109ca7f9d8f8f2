-- One rule over the whole table, computed row by row: each row's clauses say that A is the function of its pins, ask for A where
-- the pins are set, name no variable but A and the pins, and have at most 16 places. Nothing else looks into the table.
use Rattle.std.proofs.Common.{◌≡◌, ℕ, zero, suc, pred, ◌≤◌, Bool, true, false, ◌&&◌, ◌||◌, leb, List, [], ◌∷◌, length, get_or, ℤ, is_some, Some, None, Option, sym, refl, ap, ◌∙◌, true≢false, arith}
use mathlib.Core.Bool.{beq, false≢true}
use lib.ListN.{length-map}
use Rattle.std.proofs.lemmas.Bool.{and_parts, leb-true, or_from}
use Rattle.std.specs.List.{AllByRecursion as All}
use Rattle.card.specs.declared.function.Function.{Function}
use Rattle.card.specs.declared.function.Function.TheVariants.{Ida, And2, Or2, Xor2, Inva, Nand2, Nor2, Xnor2, Zero, One}
use Rattle.card.specs.Functions.{pin_count}
use Rattle.signal.specs.Gates.{truth}
use Rattle.signal.specs.Operations.{bit_operations}
use Rattle.solving.specs.Literals.{places}
use Rattle.solving.specs.Readings.{satisfies, Satisfies}
use Rattle.solving.specs.Settings.{Setting, at, full}
use Rattle.solving.specs.Closing.{first_unit, violated}
use Rattle.solving.proofs.Closed.{Closed}
use Rattle.formula.specs.Rows.{rows}
use Rattle.formula.specs.Links.{Link, clauses_of}
use Rattle.formula.specs.RowLaws.{RowsMean}
use Rattle.formula.proofs.Renamed.{in_table, read_bits, set_bits, satisfies_over, violated_over, first_unit_over, places_over}

-- a test of every list of n bits
abbrev everywhere : ℕ → (List Bool → Bool) → Bool
everywhere zero p = p []
everywhere (suc n) p = everywhere n (λ bs. p (true ∷ bs)) && everywhere n (λ bs. p (false ∷ bs))

everywhere_at : (n : ℕ) (p : List Bool → Bool) → everywhere n p ≡ true → (bs : List Bool) → length bs ≡ n → p bs ≡ true
everywhere_at zero p e [] h = e
everywhere_at zero p e (b ∷ bs) h = absurd (omega arith)
everywhere_at (suc n) p e [] h = absurd (omega arith)
everywhere_at (suc n) p e (true ∷ bs) h = everywhere_at n (λ cs. p (true ∷ cs)) (and_parts _ _ e).0 bs (omega arith)
everywhere_at (suc n) p e (false ∷ bs) h = everywhere_at n (λ cs. p (false ∷ cs)) (and_parts (everywhere n (λ cs. p (true ∷ cs))) _ e).1 bs (omega arith)

-- the clauses hold exactly where A has the function's bit
abbrev says : Function → List Bool → Bool
says f [] = true
says f (a ∷ bits) = beq (satisfies (a ∷ bits) (rows f)) (beq a (truth bit_operations f bits))

-- where the pins are set and A is open, some clause is violated or unit
abbrev asks : Function → List Bool → Bool
asks f bits = violated (None ∷ full bits) (rows f) || is_some (first_unit (None ∷ full bits) (rows f))

record Right (f : Function) : Type 0 where
  meaning : everywhere (suc (pin_count f)) (says f) ≡ true
  asking : everywhere (pin_count f) (asks f) ≡ true
  in_table_lem : in_table (suc (pin_count f)) (rows f) ≡ true
  few_places : leb (places (rows f)) 16 ≡ true

table_right : (f : Function) → Right f
table_right Ida = record { meaning = refl; asking = refl; in_table_lem = refl; few_places = refl }
table_right And2 = record { meaning = refl; asking = refl; in_table_lem = refl; few_places = refl }
table_right Or2 = record { meaning = refl; asking = refl; in_table_lem = refl; few_places = refl }
table_right Xor2 = record { meaning = refl; asking = refl; in_table_lem = refl; few_places = refl }
table_right Inva = record { meaning = refl; asking = refl; in_table_lem = refl; few_places = refl }
table_right Nand2 = record { meaning = refl; asking = refl; in_table_lem = refl; few_places = refl }
table_right Nor2 = record { meaning = refl; asking = refl; in_table_lem = refl; few_places = refl }
table_right Xnor2 = record { meaning = refl; asking = refl; in_table_lem = refl; few_places = refl }
table_right Zero = record { meaning = refl; asking = refl; in_table_lem = refl; few_places = refl }
table_right One = record { meaning = refl; asking = refl; in_table_lem = refl; few_places = refl }

row_says : (f : Function) (a : Bool) (bits : List Bool) → length bits ≡ pin_count f → beq (satisfies (a ∷ bits) (rows f)) (beq a (truth bit_operations f bits)) ≡ true
row_says f a bits h = everywhere_at (suc (pin_count f)) (says f) (table_right f).meaning (a ∷ bits) (omega arith)

pub row_in_table : (f : Function) → in_table (suc (pin_count f)) (rows f) ≡ true
row_in_table f = (table_right f).in_table_lem

same_true : (s a t : Bool) → beq s (beq a t) ≡ true → s ≡ true → a ≡ t
same_true true true true e h = refl
same_true true true false e h = absurd (false≢true e)
same_true true false true e h = absurd (false≢true e)
same_true true false false e h = refl
same_true false a t e h = absurd (false≢true h)

true_same : (s a t : Bool) → beq s (beq a t) ≡ true → a ≡ t → s ≡ true
true_same true a t e h = refl
true_same false true true e h = absurd (false≢true e)
true_same false true false e h = absurd (true≢false h)
true_same false false true e h = absurd (false≢true h)
true_same false false false e h = absurd (false≢true e)

pub rows_mean : RowsMean
rows_mean f a bits h = let e = row_says f a bits h in (same_true _ _ _ e, true_same _ _ _ e)

-- a link that has as many pins as its function asks
abbrev pub Fitted : Link → Type 0
Fitted l = length l.pins ≡ pin_count l.function

-- the variable of a link has the function's bit
abbrev pub Holds : List Bool → Link → Type 0
Holds r l = get_or r (pred l.out) false ≡ truth bit_operations l.function (read_bits r l.pins)

pub fitted_in_table : (l : Link) → Fitted l → in_table (length (l.out ∷ l.pins)) (rows l.function) ≡ true
fitted_in_table l h = ap (λ n. in_table (suc n) (rows l.function)) h ∙ row_in_table l.function

pub link_means : (r : List Bool) (l : Link) → Fitted l → (Satisfies r (clauses_of l) → Holds r l) × (Holds r l → Satisfies r (clauses_of l))
link_means r l h =
    let e = satisfies_over r (l.out ∷ l.pins) (rows l.function) (fitted_in_table l h) in
    let m = rows_mean l.function (get_or r (pred l.out) false) (read_bits r l.pins) (length-map l.pins (λ v. get_or r (pred v) false) ∙ h) in
    (λ s. m.0 (sym e ∙ s), λ s. e ∙ m.1 s)

-- a variable is set
abbrev pub Assigned : Setting → ℕ → Type 0
Assigned a v = (b : Bool) × (at a (pred v) ≡ Some b)

pins_set : (a : Setting) (vs : List ℕ) → All (Assigned a) vs → (bits : List Bool) × (set_bits a vs ≡ full bits) × (length bits ≡ length vs)
pins_set a [] h = ([], refl, refl)
pins_set a (v ∷ vs) h =
    let k = pins_set a vs h.1 in
    (h.0.0 ∷ k.0, (λ i. h.0.1 i ∷ k.1 i), ap suc k.2)

none_some : (o : Option ℤ) → o ≡ None → is_some o ≡ false
none_some o e = ap is_some e

-- where the pins of a link are set, and its clauses are closed, its variable is set
pub link_led : (a : Setting) (l : Link) → Fitted l → Closed (clauses_of l) a → All (Assigned a) l.pins → Assigned a l.out
link_led a l fits k pins = go (at a (pred l.out)) refl where
  go : (o : Option Bool) → at a (pred l.out) ≡ o → Assigned a l.out
  go (Some b) e = (b, e)
  go None e =
      let p = pins_set a l.pins pins in
      let t = fitted_in_table l fits in
      let s : set_bits a (l.out ∷ l.pins) ≡ None ∷ full p.0 = (λ i. e i ∷ p.1 i) in
      let w : violated (None ∷ full p.0) (rows l.function) ≡ false = ap (λ b. violated b (rows l.function)) (sym s) ∙ sym (violated_over a (l.out ∷ l.pins) (rows l.function) t) ∙ k.whole in
      let u : is_some (first_unit (None ∷ full p.0) (rows l.function)) ≡ false = ap (λ b. is_some (first_unit b (rows l.function))) (sym s) ∙ sym (first_unit_over a (l.out ∷ l.pins) (rows l.function) t) ∙ none_some _ k.still in
      absurd (true≢false (sym (everywhere_at (pin_count l.function) (asks l.function) (table_right l.function).asking p.0 (p.2 ∙ fits)) ∙ or_from _ _ w u))

pub link_places : (l : Link) → places (clauses_of l) ≤ 16
link_places l = let e = places_over (l.out ∷ l.pins) (rows l.function) in let h = leb-true (places (rows l.function)) 16 (table_right l.function).few_places in omega arith

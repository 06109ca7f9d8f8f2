-- What is known where a call was granted.
use Rattle.std.proofs.Common.{◌≡◌, ℕ, ◌<◌, Bool, true, false, cond, ◌&&◌, eqb, ltb, length, Ok, Err, Result, refl}
use Rattle.std.proofs.lemmas.Bool.{and_parts, eqb-false, false≢true, ltb-true}
use Rattle.card.specs.Netlists.{Netlist}
use Rattle.vectors.specs.Merging.{mergeable}
use Rattle.vectors.specs.Vectors.{InForm, holding, in_form}
use Rattle.vectors.proofs.Forms.{decides_in_form}
use Rattle.faults.specs.Sites.{fault_count}
use Rattle.history.specs.Granting.{adds, closes, merges, searches, sweeps, takes}
use Rattle.history.specs.Views.{View, is_open, is_taken, mark, most, vector_at}
use Rattle.history.specs.declared.mark.Mark.{Mark}
use Rattle.history.specs.declared.mark.Mark.TheVariants.{Open, Detected, Untestable}

-- a test that must pass, and one that must fail
passed : {T E : Type 0} (b : Bool) (x : Result T E) (e : E) (t : T) → cond b x (Err e) ≡ Ok t → (b ≡ true) × (x ≡ Ok t)
passed true x e t q = (refl, q)
passed false x e t q = absurd (cc)

failed : {T E : Type 0} (b : Bool) (x : Result T E) (e : E) (t : T) → cond b (Err e) x ≡ Ok t → (b ≡ false) × (x ≡ Ok t)
failed true x e t q = absurd (cc)
failed false x e t q = (refl, q)

pub open_mark : (m : Mark) → is_open m ≡ true → m ≡ Open
open_mark Open e = refl
open_mark (Detected i) e = absurd (false≢true e)
open_mark Untestable e = absurd (false≢true e)

pub record Takable (c : Netlist) (v : View) (f : ℕ) : Type 0 where
  pub a_fault : f < fault_count c
  pub free : is_taken v f ≡ false
  pub undecided : mark v f ≡ Open

pub taken_able : (c : Netlist) (v : View) (f : ℕ) (u : Unit {0}) → takes c v f ≡ Ok u → Takable c v f
taken_able c v f u q =
    let (lt, r) = passed (ltb f (fault_count c)) _ _ u q in
    let (free, s) = failed (is_taken v f) _ _ u r in
    let (o, _) = passed (is_open (mark v f)) _ _ u s in
    record { a_fault = ltb-true f (fault_count c) lt; free = free; undecided = open_mark (mark v f) o }

pub record Searchable (v : View) (f : ℕ) : Type 0 where
  pub taken : is_taken v f ≡ true
  pub undecided : mark v f ≡ Open
  pub room : length v.vectors < most

pub search_able : (v : View) (f : ℕ) (u : Unit {0}) → searches v f ≡ Ok u → Searchable v f
search_able v f u q =
    let (taken, r) = passed (is_taken v f) _ _ u q in
    let (o, s) = passed (is_open (mark v f)) _ _ u r in
    let (room, _) = passed (ltb (length v.vectors) most) _ _ u s in
    record { taken = taken; undecided = open_mark (mark v f) o; room = ltb-true (length v.vectors) most room }

pub close_able : (v : View) (f : ℕ) (u : Unit {0}) → closes v f ≡ Ok u → is_taken v f ≡ true
close_able v f u q = (passed (is_taken v f) _ _ u q).0

pub sweep_able : (c : Netlist) (v : View) (i n : ℕ) → sweeps c v i ≡ Ok n → i < length v.vectors
sweep_able c v i n q = ltb-true i (length v.vectors) (passed (ltb i (length v.vectors)) _ _ n q).0

pub record Addable (c : Netlist) (v : View) (care value : ℕ) : Type 0 where
  pub is_in_form : InForm c.inputs (holding care value)
  pub room : length v.vectors < most

pub add_able : (c : Netlist) (v : View) (care value n : ℕ) → adds c v care value ≡ Ok n → Addable c v care value
add_able c v care value n q =
    let (form, r) = passed (in_form c.inputs care value) _ _ n q in
    let (room, _) = passed (ltb (length v.vectors) most) _ _ n r in
    record { is_in_form = (decides_in_form c.inputs care value).0 form; room = ltb-true (length v.vectors) most room }

pub record Mergeable (v : View) (i j : ℕ) : Type 0 where
  pub first_listed : i < length v.vectors
  pub second_listed : j < length v.vectors
  pub apart : i ≡ j → ⊥
  pub fit : mergeable (vector_at v i) (vector_at v j) ≡ true

pub merge_able : (v : View) (i j : ℕ) (u : Unit {0}) → merges v i j ≡ Ok u → Mergeable v i j
merge_able v i j u q =
    let (both, r) = passed (ltb i (length v.vectors) && ltb j (length v.vectors)) _ _ u q in
    let (a, b) = and_parts (ltb i (length v.vectors)) (ltb j (length v.vectors)) both in
    let (ne, s) = failed (eqb i j) _ _ u r in
    let (fit, _) = passed (mergeable (vector_at v i) (vector_at v j)) _ _ u s in
    record { first_listed = ltb-true i (length v.vectors) a; second_listed = ltb-true j (length v.vectors) b; apart = eqb-false i j ne; fit = fit }

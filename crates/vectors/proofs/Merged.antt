-- The bits of two vectors merged, and the settings that fill the merged vector.
use Rattle.std.proofs.Common.{◌≡◌, ℕ, zero, suc, ◌/◌, ◌%◌, ◌^◌, ◌<◌, Bool, true, false, ◌&&◌, ◌||◌, eqb, sym, refl, ap, ◌∙◌, ap₂, ⊎_elim, arith}
use lib.Arith.{bin_ind}
use lib.Bits.{bit_and, bit_or, bit_xor, xor_mod, xor_shr}
use Rattle.signal.specs.Operations.{differ}
use Rattle.std.proofs.lemmas.Nat.{div-add-mod', mod_below}
use Rattle.std.proofs.lemmas.Bool.{and_from, and_parts, both_ways, cases_eq, eq-eqb, false≢true, or_cases, or_from, or_left, or_parts, or_right, true≢false}
use Rattle.vectors.specs.Extending.{Extends}
use Rattle.vectors.specs.Merging.{FilledByBoth, Opposed, union}
use Rattle.vectors.specs.Vectors.{Cells, bit_at}
use Rattle.vectors.proofs.Bits.{bit_and_lem, bit_lowest, bit_of_zero, bit_or_lem, bit_suc}
use Rattle.vectors.proofs.Forms.{free_from_bits, zero_where_free}

xor_digit : (a b : ℕ) → eqb (bit_xor a b % 2) 1 ≡ differ (eqb (a % 2) 1) (eqb (b % 2) 1)
xor_digit a b = ap (λ (x : ℕ). eqb x 1) (xor_mod a b 1) ∙ at (a % 2) (b % 2) (mod_below a 2 (omega arith)) (mod_below b 2 (omega arith))
  where
    at : (x y : ℕ) → x < 2 → y < 2 → eqb (bit_xor x y) 1 ≡ differ (eqb x 1) (eqb y 1)
    at zero zero p q = refl
    at zero (suc zero) p q = refl
    at (suc zero) zero p q = refl
    at (suc zero) (suc zero) p q = refl
    at zero (suc (suc y)) p q = absurd (omega arith)
    at (suc zero) (suc (suc y)) p q = absurd (omega arith)
    at (suc (suc x)) y p q = absurd (omega arith)

pub bit_xor_lem : (a b j : ℕ) → bit_at (bit_xor a b) j ≡ differ (bit_at a j) (bit_at b j)
bit_xor_lem a b j = ap (λ (x : ℕ). eqb (x % 2) 1) (xor_shr a b j) ∙ xor_digit (a / 2 ^ j) (b / 2 ^ j)

-- a number that is not 0 has a bit
pub some_bit : (n : ℕ) → (n ≡ 0 → ⊥) → (j : ℕ) × (bit_at n j ≡ true)
some_bit = bin_ind (λ n. (n ≡ 0 → ⊥) → (j : ℕ) × (bit_at n j ≡ true)) (λ h. absurd (h refl)) (λ n ih h.
    ⊎_elim {C = (j : ℕ) × (bit_at n j ≡ true)}
    (λ e. (0, bit_lowest n ∙ eq-eqb (n % 2) 1 e))
    (λ e. let l = mod_below n 2 (omega arith) in let s = div-add-mod' n 2 in
    let r = ih (λ z. h (omega arith)) in (suc r.0, bit_suc n r.0 ∙ r.1))
    (cases_eq (n % 2) 1))

-- ---- two bits and their difference

differ_apart : (x y : Bool) → differ x y ≡ true → x ≡ y → ⊥
differ_apart true true d e = false≢true d
differ_apart true false d e = true≢false e
differ_apart false y d e = false≢true (e ∙ d)

apart_differ : (x y : Bool) → (x ≡ y → ⊥) → differ x y ≡ true
apart_differ true true e = absurd (e refl)
apart_differ true false e = refl
apart_differ false true e = refl
apart_differ false false e = absurd (e refl)

first : (c d x y : Bool) → (d ≡ false → y ≡ false) → ((c && d) && differ x y) ≡ false → c ≡ true → (x || y) ≡ x
first c d true y z q t = refl
first true true false y z q t = q
first true false false y z q t = z refl
first false d false y z q t = absurd (false≢true t)

second : (c d x y : Bool) → (c ≡ false → x ≡ false) → ((c && d) && differ x y) ≡ false → d ≡ true → (x || y) ≡ y
second c d false y z q t = refl
second true true true true z q t = refl
second true true true false z q t = q
second true false true y z q t = absurd (false≢true t)
second false d true y z q t = absurd (true≢false (z refl))

-- ---- opposed inputs

module _ (v w : Cells) where
  abbrev clash : ℕ
  clash = bit_and (bit_and v.care w.care) (bit_xor v.value w.value)

  clash_at : (j : ℕ) → bit_at clash j ≡ ((bit_at v.care j && bit_at w.care j) && differ (bit_at v.value j) (bit_at w.value j))
  clash_at j = bit_and_lem (bit_and v.care w.care) (bit_xor v.value w.value) j ∙ ap₂ ◌&&◌ (bit_and_lem v.care w.care j) (bit_xor_lem v.value w.value j)

  pub opposed_from : (clash ≡ 0 → ⊥) → Opposed v w
  opposed_from h =
      let r = some_bit clash h in
      let p = and_parts (bit_at v.care r.0 && bit_at w.care r.0) (differ (bit_at v.value r.0) (bit_at w.value r.0)) (sym (clash_at r.0) ∙ r.1) in
      let q = and_parts (bit_at v.care r.0) (bit_at w.care r.0) p.0 in
      record { input = r.0; fixed_in_one = q.0; fixed_in_other = q.1; opposite = differ_apart (bit_at v.value r.0) (bit_at w.value r.0) p.1 }

  pub never_opposed : clash ≡ 0 → Opposed v w → ⊥
  never_opposed z o =
      let j = o.input in
      let t = and_from (bit_at v.care j && bit_at w.care j) (differ (bit_at v.value j) (bit_at w.value j)) (and_from (bit_at v.care j) (bit_at w.care j) o.fixed_in_one o.fixed_in_other) (apart_differ (bit_at v.value j) (bit_at w.value j) o.opposite) in
      both_ways (bit_at clash j) (ap (λ (x : ℕ). bit_at x j) z ∙ bit_of_zero j) (clash_at j ∙ t)

  -- ---- fillings

  module _ (zv : bit_and v.value v.care ≡ v.value) (zw : bit_and w.value w.care ≡ w.value) (z : clash ≡ 0) where
    quiet : (j : ℕ) → ((bit_at v.care j && bit_at w.care j) && differ (bit_at v.value j) (bit_at w.value j)) ≡ false
    quiet j = sym (clash_at j) ∙ ap (λ (x : ℕ). bit_at x j) z ∙ bit_of_zero j

    value_of_one : (j : ℕ) → bit_at v.care j ≡ true → bit_at (union v w).value j ≡ bit_at v.value j
    value_of_one j t = bit_or_lem v.value w.value j ∙ first (bit_at v.care j) (bit_at w.care j) (bit_at v.value j) (bit_at w.value j) (zero_where_free w.care w.value j zw) (quiet j) t

    value_of_other : (j : ℕ) → bit_at w.care j ≡ true → bit_at (union v w).value j ≡ bit_at w.value j
    value_of_other j t = bit_or_lem v.value w.value j ∙ second (bit_at v.care j) (bit_at w.care j) (bit_at v.value j) (bit_at w.value j) (zero_where_free v.care v.value j zv) (quiet j) t

    care_from_one : (j : ℕ) → bit_at v.care j ≡ true → bit_at (union v w).care j ≡ true
    care_from_one j t = bit_or_lem v.care w.care j ∙ or_left (bit_at v.care j) (bit_at w.care j) t

    care_from_other : (j : ℕ) → bit_at w.care j ≡ true → bit_at (union v w).care j ≡ true
    care_from_other j t = bit_or_lem v.care w.care j ∙ or_right (bit_at v.care j) (bit_at w.care j) t

    pub union_extends : Extends (union v w) v × Extends (union v w) w
    union_extends = (record { fixes = care_from_one; same_bit = value_of_one }, record { fixes = care_from_other; same_bit = value_of_other })

    pub union_filled : FilledByBoth v w (union v w)
    union_filled k bits = (
      λ f. (
        record { one_for_each = f.one_for_each; agrees = λ j h t. f.agrees j h (care_from_one j t) ∙ value_of_one j t },
        record { one_for_each = f.one_for_each; agrees = λ j h t. f.agrees j h (care_from_other j t) ∙ value_of_other j t },
      ),
      λ f. record {
        one_for_each = f.0.one_for_each;
        agrees = λ j h t. ⊎_elim
            (λ a. f.0.agrees j h a ∙ sym (value_of_one j a))
            (λ a. f.1.agrees j h a ∙ sym (value_of_other j a))
            (or_cases (bit_at v.care j) (bit_at w.care j) (sym (bit_or_lem v.care w.care j) ∙ t));
      },
    )

pub union_is_zero : (c b d e : ℕ) → bit_and b c ≡ b → bit_and e d ≡ e → bit_and (bit_or b e) (bit_or c d) ≡ bit_or b e
union_is_zero c b d e p q = free_from_bits (bit_or c d) (bit_or b e) (λ j f.
    let o = or_parts (bit_at c j) (bit_at d j) (sym (bit_or_lem c d j) ∙ f) in
    bit_or_lem b e j ∙ or_from (bit_at b j) (bit_at e j) (zero_where_free c b j p o.0) (zero_where_free d e j q o.1))

-- Places of settings: reading, writing, try_each the open ones.
use Rattle.std.proofs.Common.{◌≡◌, ℕ, zero, suc, ◌<◌, ◌≤◌, Bool, true, false, List, [], ◌∷◌, length, get_or, set, ℤ, Some, None, Option, sym, refl, ap, ◌∙◌, le_of_suc-le-suc, not-suc-le-zero, arith, get_or-set_other, get_or-set_same}
use mathlib.Core.Bool.{beq, false≢true}
use native.Mathlib.Decide.{ℕ_discrete}
use lib.ListN.{get_or-map}
use Rattle.solving.specs.Settings.{Setting, at, worth, value, open_one, open_in, Within, full, reading_of, bit_of}
use Rattle.solving.specs.Literals.{place, wants}

pub none_some : {A : Type 0} {x : A} → None ≡ Some x → ⊥
none_some e = cc

pub some_inj : {A : Type 0} {x y : A} → Some x ≡ Some y → x ≡ y
some_inj e = cc

pub beq_true : (b w : Bool) → beq b w ≡ true → b ≡ w
beq_true true true e = refl
beq_true true false e = absurd (false≢true e)
beq_true false true e = absurd (false≢true e)
beq_true false false e = refl

pub within_refl : (a : Setting) → Within a a
within_refl a j x e = e

pub within_trans : (a b c : Setting) → Within a b → Within b c → Within a c
within_trans a b c p q j x e = q j x (p j x e)

pub open_inside : (a : Setting) (j : ℕ) → at a j ≡ None → j < length a
open_inside [] j e = absurd (cc)
open_inside (x ∷ a) zero e = omega arith
open_inside (x ∷ a) (suc j) e = let h = open_inside a j e in omega arith

pub value_kept : (a b : Setting) (l : ℤ) (x : Bool) → Within a b → value a l ≡ Some x → value b l ≡ Some x
value_kept a b l x w = go (at a (place l)) refl where
  go : (o : Option Bool) → at a (place l) ≡ o → worth o (wants l) ≡ Some x → value b l ≡ Some x
  go None e h = absurd (none_some h)
  go (Some y) e h = ap (λ o. worth o (wants l)) (w (place l) y e) ∙ h

-- an open variable's place, written
pub set_within : (a b : Setting) (j : ℕ) (x : Bool) → Within a b → at b j ≡ Some x → at a j ≡ None → Within (set a j (Some x)) b
set_within a b j x w t o i y e = go (ℕ_discrete i j) where
  go : Dec (i ≡ j) → at b i ≡ Some y
  go (yes p) =
      let h = open_inside a j o in
      let f : at (set a j (Some x)) i ≡ Some x = ap (at (set a j (Some x))) p ∙ get_or-set_same a j (Some x) (Some false) h in
      ap (at b) p ∙ t ∙ sym f ∙ e
  go (no p) = w i y (sym (get_or-set_other a j i (Some x) (Some false) p) ∙ e)

pub set_grows : (a : Setting) (j : ℕ) (x : Bool) → at a j ≡ None → Within a (set a j (Some x))
set_grows a j x o i y e = go (ℕ_discrete i j) where
  go : Dec (i ≡ j) → at (set a j (Some x)) i ≡ Some y
  go (yes p) = absurd (let q = ap (at a) p in cc)
  go (no p) = get_or-set_other a j i (Some x) (Some false) p ∙ e

-- the count falls by one where an open variable is set
pub open_falls : (a : Setting) (k j : ℕ) (x : Bool) → at a j ≡ None → j < k → suc (open_in k (set a j (Some x))) ≡ open_in k a
open_falls a zero j x e h = absurd (not-suc-le-zero h)
open_falls [] (suc k) j x e h = absurd (cc)
open_falls (y ∷ a) (suc k) zero x e h = let f : open_one y ≡ 1 = ap open_one e in omega arith
open_falls (y ∷ a) (suc k) (suc j) x e h = let i = open_falls a k j x e (le_of_suc-le-suc h) in omega arith

pub open_some : (a : Setting) (k j : ℕ) → at a j ≡ None → j < k → 0 < open_in k a
open_some a k j e h = let f = open_falls a k j true e h in omega arith

-- what is kept leaves no more open
open_one_le : (x y : Option Bool) → ((b : Bool) → x ≡ Some b → y ≡ Some b) → open_one y ≤ open_one x
open_one_le None None h = omega arith
open_one_le None (Some b) h = omega arith
open_one_le (Some b) y h = let e = ap open_one (h b refl) in omega arith

pub open_le : (k : ℕ) (a b : Setting) → length a ≡ length b → Within a b → open_in k b ≤ open_in k a
open_le zero a b l w = omega arith
open_le (suc k) [] [] l w = omega arith
open_le (suc k) [] (y ∷ b) l w = omega arith
open_le (suc k) (x ∷ a) [] l w = omega arith
open_le (suc k) (x ∷ a) (y ∷ b) l w =
    let p = open_one_le x y (λ z e. w zero z e) in
    let q = open_le k a b (omega arith) (λ j z e. w (suc j) z e) in
    omega arith

-- nothing open: every variable has a bit
pub all_set : (a : Setting) (k j : ℕ) → open_in k a ≡ 0 → j < k → at a j ≡ Some (bit_of (at a j))
all_set a k j z h = go (at a j) refl where
  go : (o : Option Bool) → at a j ≡ o → o ≡ Some (bit_of o)
  go None e = let f = open_some a k j e h in absurd (omega arith)
  go (Some b) e = refl

-- a setting with nothing open is a reading
pub full_reading : (a : Setting) → open_in (length a) a ≡ 0 → full (reading_of a) ≡ a
full_reading [] z = refl
full_reading (None ∷ a) z = absurd (omega arith)
full_reading (Some b ∷ a) z = ap (λ (r : Setting). Some b ∷ r) (full_reading a (omega arith))

pub full_at : (r : List Bool) (j : ℕ) → at (full r) j ≡ Some (get_or r j false)
full_at r j = get_or-map Some r j false

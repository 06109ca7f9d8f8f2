-- Clauses over codes, and the same clauses over the variables that the codes stand for: what a reading or a setting makes of the
-- second is what the bits of those variables make of the first.
use Rattle.std.proofs.Common.{◌≡◌, ℕ, zero, suc, pred, ◌+◌, ◌<◌, Bool, true, false, ◌&&◌, ◌||◌, List, [], ◌∷◌, map, length, get_or, ℤ, pos, negsuc, is_some, Some, None, Option, sym, refl, ap, ◌∙◌, ap₂}
use mathlib.Core.Bool.{beq, false≢true}
use lib.ListN.{length-map}
use Rattle.std.proofs.lemmas.List.{get_or-map}
use Rattle.std.proofs.lemmas.Bool.{and_parts, ltb-true}
use Rattle.std.specs.List.{list_all}
use Rattle.solving.specs.Literals.{place, wants, in_range, all_in_range, places}
use Rattle.solving.specs.Readings.{holds, satisfies}
use Rattle.solving.specs.Settings.{Setting, at, worth, value}
use Rattle.solving.specs.declared.state.State.{State}
use Rattle.solving.specs.declared.state.State.TheVariants.{Broken as broken, Lone as unit, Other as other}
use Rattle.solving.specs.States.{joined, state_of}
use Rattle.solving.specs.Closing.{or_unit, first_unit, or_broken, violated}
use Rattle.formula.specs.Rows.{literal_of, over}

-- every literal of every clause is one of v variables
abbrev pub in_table : ℕ → List (List ℤ) → Bool
in_table v cs = list_all (all_in_range v) cs

-- the bits of variables in a reading, and in a setting
abbrev pub read_bits : List Bool → List ℕ → List Bool
read_bits r vs = map (λ v. get_or r (pred v) false) vs

abbrev pub set_bits : Setting → List ℕ → Setting
set_bits a vs = map (λ v. at a (pred v)) vs

pub in_range_place : (v : ℕ) (l : ℤ) → in_range v l ≡ true → place l < v
in_range_place v (pos zero) e = absurd (false≢true e)
in_range_place v (pos (suc n)) e = ltb-true n v e
in_range_place v (negsuc n) e = ltb-true n v e

place_over : (vs : List ℕ) (l : ℤ) → place (literal_of vs l) ≡ pred (get_or vs (place l) 0)
place_over vs (pos n) = refl
place_over vs (negsuc n) = refl

wants_over : (vs : List ℕ) (l : ℤ) → wants (literal_of vs l) ≡ wants l
wants_over vs (pos n) = refl
wants_over vs (negsuc n) = refl

-- readings
module _ (r : List Bool) (vs : List ℕ) where
  literal_over : (l : ℤ) → in_range (length vs) l ≡ true → beq (get_or r (place (literal_of vs l)) false) (wants (literal_of vs l)) ≡ beq (get_or (read_bits r vs) (place l) false) (wants l)
  literal_over l e =
      ap₂ beq
      (ap (λ p. get_or r p false) (place_over vs l) ∙ sym (get_or-map (λ v. get_or r (pred v) false) vs (place l) 0 false (in_range_place (length vs) l e)))
      (wants_over vs l)

  holds_over : (c : List ℤ) → all_in_range (length vs) c ≡ true → holds r (map (literal_of vs) c) ≡ holds (read_bits r vs) c
  holds_over [] e = refl
  holds_over (l ∷ c) e = let p = and_parts _ _ e in ap₂ ◌||◌ (literal_over l p.0) (holds_over c p.1)

  pub satisfies_over : (cs : List (List ℤ)) → in_table (length vs) cs ≡ true → satisfies r (over vs cs) ≡ satisfies (read_bits r vs) cs
  satisfies_over [] e = refl
  satisfies_over (c ∷ cs) e = let p = and_parts _ _ e in ap₂ ◌&&◌ (holds_over c p.0) (satisfies_over cs p.1)

-- settings
abbrev state_over : List ℕ → State → State
state_over vs broken = broken
state_over vs (unit l) = unit (literal_of vs l)
state_over vs other = other

joined_over : (vs : List ℕ) (o : Option Bool) (l : ℤ) (s : State) → joined o (literal_of vs l) (state_over vs s) ≡ state_over vs (joined o l s)
joined_over vs (Some true) l s = refl
joined_over vs (Some false) l s = refl
joined_over vs None l broken = refl
joined_over vs None l (unit m) = refl
joined_over vs None l other = refl

broken_over : (vs : List ℕ) (s : State) (b : Bool) → or_broken (state_over vs s) b ≡ or_broken s b
broken_over vs broken b = refl
broken_over vs (unit l) b = refl
broken_over vs other b = refl

unit_over : (vs : List ℕ) (s : State) (o p : Option ℤ) → is_some o ≡ is_some p → is_some (or_unit (state_over vs s) o) ≡ is_some (or_unit s p)
unit_over vs broken o p e = e
unit_over vs (unit l) o p e = refl
unit_over vs other o p e = e

module _ (a : Setting) (vs : List ℕ) where
  value_over : (l : ℤ) → in_range (length vs) l ≡ true → value a (literal_of vs l) ≡ value (set_bits a vs) l
  value_over l e =
      ap₂ worth
      (ap (at a) (place_over vs l) ∙ sym (get_or-map (λ v. at a (pred v)) vs (place l) 0 (Some false) (in_range_place (length vs) l e)))
      (wants_over vs l)

  state_over_lem : (c : List ℤ) → all_in_range (length vs) c ≡ true → state_of a (map (literal_of vs) c) ≡ state_over vs (state_of (set_bits a vs) c)
  state_over_lem [] e = refl
  state_over_lem (l ∷ c) e =
      let p = and_parts _ _ e in
      ap₂ (λ o s. joined o (literal_of vs l) s) (value_over l p.0) (state_over_lem c p.1) ∙ joined_over vs (value (set_bits a vs) l) l (state_of (set_bits a vs) c)

  pub violated_over : (cs : List (List ℤ)) → in_table (length vs) cs ≡ true → violated a (over vs cs) ≡ violated (set_bits a vs) cs
  violated_over [] e = refl
  violated_over (c ∷ cs) e =
      let p = and_parts _ _ e in
      ap₂ or_broken (state_over_lem c p.0) (violated_over cs p.1) ∙ broken_over vs (state_of (set_bits a vs) c) (violated (set_bits a vs) cs)

  pub first_unit_over : (cs : List (List ℤ)) → in_table (length vs) cs ≡ true → is_some (first_unit a (over vs cs)) ≡ is_some (first_unit (set_bits a vs) cs)
  first_unit_over [] e = refl
  first_unit_over (c ∷ cs) e =
      let p = and_parts _ _ e in
      ap (λ s. is_some (or_unit s (first_unit a (over vs cs)))) (state_over_lem c p.0) ∙ unit_over vs (state_of (set_bits a vs) c) (first_unit a (over vs cs)) (first_unit (set_bits a vs) cs) (first_unit_over cs p.1)

-- places
pub places_over : (vs : List ℕ) (cs : List (List ℤ)) → places (over vs cs) ≡ places cs
places_over vs [] = refl
places_over vs (c ∷ cs) = ap₂ (λ m n. (m + 1) + n) (length-map c (literal_of vs)) (places_over vs cs)

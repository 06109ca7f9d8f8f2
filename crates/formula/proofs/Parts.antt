-- What holds of all of a list, part by part, and what clauses that are joined from parts hold and need.
use Rattle.std.proofs.Common.{◌≡◌, ◌+◌, Bool, ◌&&◌, List, [], ◌∷◌, ◌++◌, ℤ, sym, refl, ap, ◌∙◌, arith}
use mathlib.Core.Bool.{and_assoc}
use Rattle.std.proofs.lemmas.Bool.{and_parts, and_from}
use Rattle.std.specs.List.{flat_map, AllByRecursion as All}
use Rattle.solving.specs.Literals.{places}
use Rattle.solving.specs.Readings.{holds, satisfies, Satisfies}

module _ {X : Type 0} where
  pub all_left : (P : X → Type 0) (xs ys : List X) → All P (xs ++ ys) → All P xs
  all_left P [] ys h = tt
  all_left P (x ∷ xs) ys h = (h.0, all_left P xs ys h.1)

  pub all_right : (P : X → Type 0) (xs ys : List X) → All P (xs ++ ys) → All P ys
  all_right P [] ys h = h
  all_right P (x ∷ xs) ys h = all_right P xs ys h.1

  pub all_both : (P Q R : X → Type 0) → ((x : X) → P x → Q x → R x) → (xs : List X) → All P xs → All Q xs → All R xs
  all_both P Q R f [] h k = tt
  all_both P Q R f (x ∷ xs) h k = (f x h.0 k.0, all_both P Q R f xs h.1 k.1)

pub satisfies_append : (r : List Bool) (cs ds : List (List ℤ)) → satisfies r (cs ++ ds) ≡ (satisfies r cs && satisfies r ds)
satisfies_append r [] ds = refl
satisfies_append r (c ∷ cs) ds = ap (λ b. holds r c && b) (satisfies_append r cs ds) ∙ sym (and_assoc (holds r c) (satisfies r cs) (satisfies r ds))

module _ {X : Type 0} (f : X → List (List ℤ)) (r : List Bool) where
  pub satisfies_each : (xs : List X) → Satisfies r (flat_map f xs) → All (λ x. Satisfies r (f x)) xs
  satisfies_each [] h = tt
  satisfies_each (x ∷ xs) h = let k = and_parts _ _ (sym (satisfies_append r (f x) (flat_map f xs)) ∙ h) in (k.0, satisfies_each xs k.1)

  pub each_satisfies : (xs : List X) → All (λ x. Satisfies r (f x)) xs → Satisfies r (flat_map f xs)
  each_satisfies [] h = refl
  each_satisfies (x ∷ xs) h = satisfies_append r (f x) (flat_map f xs) ∙ and_from _ _ h.0 (each_satisfies xs h.1)

pub places_append : (cs ds : List (List ℤ)) → places (cs ++ ds) ≡ places cs + places ds
places_append [] ds = omega arith
places_append (c ∷ cs) ds = omega (arith, places_append cs ds)

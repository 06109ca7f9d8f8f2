-- Elements and places of a list: what stands at a place, what stands somewhere, and what a filter or a map leaves of it.
use Rattle.std.proofs.Common.{◌≡◌, ℕ, zero, suc, Bool, true, ◌⊎◌, List, [], ◌∷◌, ◌++◌, map, Some, filter, sym, refl, ap, ◌∙◌, subst, inl, inr}
use Rattle.std.specs.List.{AllByRecursion as All, slice_get}
use Rattle.std.specs.Option.{option_map}
use Rattle.std.proofs.lemmas.Bool.{cond_both, cond-true}
use Rattle.std.proofs.lemmas.Option.{slice_get-map}

-- an element stands in a list
abbrev pub In : {X : Type 0} → List X → X → Type 0
In [] x = ⊥
In (y ∷ ys) x = (y ≡ x) ⊎ In ys x

pub in_append_left : {X : Type 0} (xs ys : List X) (x : X) → In xs x → In (xs ++ ys) x
in_append_left [] ys x h = absurd h
in_append_left (y ∷ xs) ys x (inl e) = inl e
in_append_left (y ∷ xs) ys x (inr h) = inr (in_append_left xs ys x h)

pub in_append_right : {X : Type 0} (xs ys : List X) (x : X) → In ys x → In (xs ++ ys) x
in_append_right [] ys x h = h
in_append_right (y ∷ xs) ys x h = inr (in_append_right xs ys x h)

module _ {X : Type 0} where
  pub has_nth : (xs : List X) (x : X) → In xs x → (i : ℕ) × (slice_get xs i ≡ Some x)
  has_nth [] x h = absurd h
  has_nth (y ∷ ys) x (inl e) = (0, ap Some e)
  has_nth (y ∷ ys) x (inr h) = let r = has_nth ys x h in (suc r.0, r.1)

  pub all_nth : (P : X → Type 0) (xs : List X) (i : ℕ) (x : X) → All P xs → slice_get xs i ≡ Some x → P x
  all_nth P [] i x a e = absurd (cc)
  all_nth P (y ∷ ys) zero x a e = let q : y ≡ x = cc in subst P q a.0
  all_nth P (y ∷ ys) (suc i) x a e = all_nth P ys i x a.1 e

  pub has_kept : (p : X → Bool) (xs : List X) (x : X) → In xs x → p x ≡ true → In (filter p xs) x
  has_kept p [] x h t = h
  has_kept p (y ∷ ys) x (inl e) t = subst (λ (zs : List X). In zs x) (sym (cond-true (p y) (y ∷ filter p ys) (filter p ys) (ap p e ∙ t))) (inl e)
  has_kept p (y ∷ ys) x (inr h) t = cond_both (p y) (y ∷ filter p ys) (filter p ys) (λ zs. In zs x) (λ e. inr (has_kept p ys x h t)) (λ e. has_kept p ys x h t)

pub nth_map : {X Y : Type 0} (f : X → Y) (xs : List X) (i : ℕ) (y : Y) → slice_get (map f xs) i ≡ Some y → (x : X) × (slice_get xs i ≡ Some x) × (f x ≡ y)
nth_map f [] i y e = absurd (cc)
nth_map f (x ∷ xs) zero y e = (x, refl, cc)
nth_map f (x ∷ xs) (suc i) y e = nth_map f xs i y e

pub map_nth : {X Y : Type 0} (f : X → Y) (xs : List X) (i : ℕ) (x : X) → slice_get xs i ≡ Some x → slice_get (map f xs) i ≡ Some (f x)
map_nth f xs i x e = slice_get-map f xs i ∙ ap (option_map f) e

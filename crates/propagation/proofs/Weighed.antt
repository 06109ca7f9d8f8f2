-- A clause by weight: a true literal weighs 2, an open one 1, a false one nothing; from 2 on the clause is at rest.
-- Making a literal true lightens only its negation.
use Rattle.std.proofs.Common.{◌≡◌, ℕ, zero, suc, ◌+◌, ◌<◌, ◌≤◌, min, Bool, true, false, ◌⊎◌, List, [], ◌∷◌, length, get_or, ℤ, pos, Some, None, Option, refl, ap, ◌∙◌, inl, inr, arith, get_or-set_other, get_or-set_same}
use mathlib.Core.Bool.{beq}
use native.Mathlib.Decide.{ℕ_discrete}
use Rattle.solving.specs.Literals.{place, wants}
use Rattle.solving.specs.Settings.{Setting, at, value, made}
use Rattle.solving.specs.declared.state.State.{State}
use Rattle.solving.specs.declared.state.State.TheVariants.{Broken as broken, Lone as unit, Other as other}
use Rattle.solving.specs.States.{joined, state_of}
use Rattle.propagation.specs.Occurrences.{key, against}

abbrev weight : Option Bool → ℕ
weight None = 1
weight (Some true) = 2
weight (Some false) = 0

abbrev rank : State → ℕ
rank broken = 0
rank (unit l) = 1
rank other = 2

weight_most : (o : Option Bool) → weight o ≤ 2
weight_most None = omega arith
weight_most (Some true) = omega arith
weight_most (Some false) = omega arith

rank_most : (s : State) → rank s ≤ 2
rank_most broken = omega arith
rank_most (unit l) = omega arith
rank_most other = omega arith

rank_joined : (o : Option Bool) (l : ℤ) (s : State) → rank (joined o l s) ≡ min 2 (weight o + rank s)
rank_joined (Some true) l broken = refl
rank_joined (Some true) l (unit m) = refl
rank_joined (Some true) l other = refl
rank_joined (Some false) l broken = refl
rank_joined (Some false) l (unit m) = refl
rank_joined (Some false) l other = refl
rank_joined None l broken = refl
rank_joined None l (unit m) = refl
rank_joined None l other = refl

rank_rest : (s : State) → 2 ≤ rank s → s ≡ other
rank_rest broken h = absurd (omega arith)
rank_rest (unit l) h = absurd (omega arith)
rank_rest other h = refl

-- a literal that does not negate m is no lighter once m is true
lighter : (v : Setting) (m x : ℤ) → place m < length v → (weight (value v x) ≤ weight (value (made v m) x)) ⊎ (key x ≡ against m)
lighter v m x h = go (ℕ_discrete (place x) (place m)) where
  same : (p : place x ≡ place m) (w u : Bool) → wants m ≡ w → wants x ≡ u → (weight (value v x) ≤ weight (Some (beq w u))) ⊎ (key x ≡ against m)
  same p true true e f = inl (weight_most (value v x))
  same p false false e f = inl (weight_most (value v x))
  same p true false e f = inr (rw (e, f, p))
  same p false true e f = inr (rw (e, f, p))

  go : Dec (place x ≡ place m) → (weight (value v x) ≤ weight (value (made v m) x)) ⊎ (key x ≡ against m)
  go (yes p) =
      let q : at (made v m) (place x) ≡ Some (wants m) = ap (at (made v m)) p ∙ get_or-set_same v (place m) (Some (wants m)) (Some false) h in
      rw q (same p (wants m) (wants x) refl refl)
  go (no p) =
      let q : at (made v m) (place x) ≡ at v (place x) = get_or-set_other v (place m) (place x) (Some (wants m)) (Some false) p in
      inl (rw q (omega arith))

-- nor is a clause without its negation
pub lightened : (v : Setting) (m : ℤ) (c : List ℤ) → place m < length v → (rank (state_of v c) ≤ rank (state_of (made v m) c)) ⊎ ((i : ℕ) × (i < length c) × (key (get_or c i (pos 0)) ≡ against m))
lightened v m [] h = inl (omega arith)
lightened v m (x ∷ c) h = go (lighter v m x h) (lightened v m c h) where
  go : (weight (value v x) ≤ weight (value (made v m) x)) ⊎ (key x ≡ against m) → (rank (state_of v c) ≤ rank (state_of (made v m) c)) ⊎ ((i : ℕ) × (i < length c) × (key (get_or c i (pos 0)) ≡ against m))
      → (rank (state_of v (x ∷ c)) ≤ rank (state_of (made v m) (x ∷ c))) ⊎ ((i : ℕ) × (i < length (x ∷ c)) × (key (get_or (x ∷ c) i (pos 0)) ≡ against m))
  go (inl p) (inl q) =
      let a = rank_joined (value v x) x (state_of v c) in
      let b = rank_joined (value (made v m) x) x (state_of (made v m) c) in
      inl (omega (arith, p, q, a, b))
  go (inl p) (inr q) = inr (suc q.0, omega (arith, q.1), q.2)
  go (inr p) q = inr (zero, omega arith, p)

-- a clause at rest stays so, unless it has the negation of what was made true
pub rest_made : (v : Setting) (m : ℤ) (c : List ℤ) → place m < length v → state_of v c ≡ other → (state_of (made v m) c ≡ other) ⊎ ((i : ℕ) × (i < length c) × (key (get_or c i (pos 0)) ≡ against m))
rest_made v m c h e = go (lightened v m c h) where
  go : (rank (state_of v c) ≤ rank (state_of (made v m) c)) ⊎ ((i : ℕ) × (i < length c) × (key (get_or c i (pos 0)) ≡ against m)) → (state_of (made v m) c ≡ other) ⊎ ((i : ℕ) × (i < length c) × (key (get_or c i (pos 0)) ≡ against m))
  go (inl p) = let r : rank (state_of v c) ≡ 2 = ap rank e in inl (rank_rest (state_of (made v m) c) (omega (arith, p, r)))
  go (inr q) = inr q

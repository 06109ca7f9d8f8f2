-- What unit propagation keeps: a clause that is not at rest has the negation of a literal that is still to be followed up.
use Rattle.std.specs.Prelude.{◌≡◌, ℕ, ◌<◌, Bool, true, false, not, ◌⊎◌, List, [], ◌∷◌, ◌++◌, length, ℤ, pos, Some, slice_index_or}
use Rattle.solving.specs.Literals.{place}
use Rattle.solving.specs.Settings.{Setting, value, made}
use Rattle.solving.specs.declared.state.State.TheVariants.{Broken as broken, Lone as unit, Other as other}
use Rattle.solving.specs.States.{state_of}
use Rattle.solving.specs.Closing.{violated, closure}
use Rattle.propagation.specs.Occurrences.{key, against}
use Rattle.propagation.specs.declared.occurrence.Occurrence.{Occurrence}

-- neither false throughout nor unit
abbrev pub AtRest : Setting → List ℤ → Type 0
AtRest v c = state_of v c ≡ other

-- the negation of one of these literals stands in the clause
pub record Met (c front : List ℤ) : Type 0 where
  pub at : ℕ
  pub inside : at < length c
  pub by : ℕ
  pub among : by < length front
  pub negated : key (slice_index_or c at (pos 0)) ≡ against (slice_index_or front by (pos 0))

-- literals of the setting's variables, made true
abbrev pub Inside : Setting → List ℤ → Type 0
Inside v front = (i : ℕ) → i < length front → (place (slice_index_or front i (pos 0)) < length v) × (value v (slice_index_or front i (pos 0)) ≡ Some true)

-- the literals of the front have yet to be followed up; of all others the consequences are drawn
pub record Pending (cs : List (List ℤ)) (v : Setting) (front : List ℤ) : Type 0 where
  pub inside : Inside v front
  pub met : (c : ℕ) → c < length cs → AtRest v (slice_index_or cs c []) ⊎ Met (slice_index_or cs c []) front

-- a run of closure from a that came to b: r says that nothing is violated
pub record Closes (cs : List (List ℤ)) (a b : Setting) (r : Bool) : Type 0 where
  pub whole : violated (closure cs a) cs ≡ not r
  pub closed : r ≡ true → b ≡ closure cs a

-- what looking at one clause does to the setting v and the trail t: r says that the clause is not false throughout
pub data Pressed (c : List ℤ) (v : Setting) (t : List ℤ) (r : Bool) (w : Setting) (u : List ℤ) : Type 0 where
  rests : r ≡ true → state_of v c ≡ other → w ≡ v → u ≡ t → Pressed c v t r w u
  breaks : r ≡ false → state_of v c ≡ broken → w ≡ v → u ≡ t → Pressed c v t r w u
  forces : (l : ℤ) → r ≡ true → state_of v c ≡ unit l → w ≡ made v l → u ≡ t ++ (l ∷ []) → Pressed c v t r w u

-- the clause of a place is left to an earlier place in it of the same literal, and nothing is done
pub record PassedOver (place : Occurrence) (v : Setting) (t : List ℤ) (r : Bool) (w : Setting) (u : List ℤ) : Type 0 where
  pub again : place.from < place.before
  pub whole : r ≡ true
  pub setting : w ≡ v
  pub trail : u ≡ t

-- What the loops of unit propagation keep on their way: while the clauses are looked at for the first time, and while the places of one literal are visited.
use Rattle.std.specs.Prelude.{◌≡◌, ℕ, ◌+◌, ◌-◌, ◌<◌, ◌≤◌, false, ◌⊎◌, List, [], length, ℤ, pos, Some, slice_index_or}
use Rattle.solving.specs.Settings.{Setting, value}
use Rattle.propagation.specs.Following.{AtRest, Met, Inside}
use Rattle.propagation.specs.Occurrences.{key, start_of}

-- what is pending, of the first n clauses alone, while they are looked at for the first time
pub record Looked (cs : List (List ℤ)) (n : ℕ) (v : Setting) (front : List ℤ) : Type 0 where
  pub inside : Inside v front
  pub met : (c : ℕ) → c < n → c < length cs → AtRest v (slice_index_or cs c []) ⊎ Met (slice_index_or cs c []) front

-- the literal of number k stands in clause c at a place that is still to be visited
pub record Left (cs : List (List ℤ)) (ends : List ℕ) (c k below : ℕ) : Type 0 where
  pub at : ℕ
  pub inside : at < length (slice_index_or cs c [])
  pub same : key (slice_index_or (slice_index_or cs c []) at (pos 0)) ≡ k
  pub under : start_of ends c + at < below

-- in the middle of following up one literal, whose negation has the number k
pub record Visiting (cs : List (List ℤ)) (row : List ℤ) (ends : List ℕ) (k below : ℕ) (v : Setting) (front : List ℤ) : Type 0 where
  pub inside : Inside v front
  pub fails : (x : ℤ) → key x ≡ k → value v x ≡ Some false
  pub stands : 0 < below → (below ≤ length row) × (key (slice_index_or row (below - 1) (pos 0)) ≡ k)
  pub met : (c : ℕ) → c < length cs → AtRest v (slice_index_or cs c []) ⊎ (Met (slice_index_or cs c []) front ⊎ Left cs ends c k below)

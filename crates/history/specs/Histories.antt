-- Histories: lists of calls with their answers, the newest first, and what is counted in them.
-- A history is all that is known of a job's past: which calls were granted, which tickets were given and spent, which searches were ample.
use Rattle.std.specs.Prelude.{◌≡◌, ℕ, ◌≤◌, Bool, true, false, ◌&&◌, ◌⊎◌, List, [], ◌∷◌, is_ok, ◌==◌}
use Rattle.card.specs.Netlists.{Netlist}
use Rattle.solving.specs.Leading.{enough}
use Rattle.history.specs.Steps.{Event, Step, added, closed, merged, searched, swept, took}
use Rattle.history.specs.Views.{View, new_view}

abbrev pub History : Type 0
History = List Event

-- the calls of a history lead from v to w
abbrev pub Run : Netlist → View → History → View → Type 0
Run c v [] w = w ≡ v
Run c v (e ∷ h) w = (u : View) × Run c v h u × Step c u e w

-- a history leads a new job there
abbrev pub LeadsTo : Netlist → History → View → Type 0
LeadsTo c h v = Run c (new_view c) h v

abbrev pub grants_take : Event → Bool
grants_take (took f r) = is_ok r
grants_take (searched t budget r) = false
grants_take (closed t r) = false
grants_take (swept i r) = false
grants_take (added care value r) = false
grants_take (merged i j r) = false

abbrev pub grants_close : Event → Bool
grants_close (took f r) = false
grants_close (searched t budget r) = false
grants_close (closed t r) = is_ok r
grants_close (swept i r) = false
grants_close (added care value r) = false
grants_close (merged i j r) = false

-- a granted take gives a ticket for this fault
abbrev pub gives : ℕ → Event → Bool
gives f (took g r) = is_ok r && g == f
gives f (searched t budget r) = false
gives f (closed t r) = false
gives f (swept i r) = false
gives f (added care value r) = false
gives f (merged i j r) = false

-- a granted close spends a ticket of the job's own for this fault
abbrev pub spends : ℕ → Event → Bool
spends f (took g r) = false
spends f (searched t budget r) = false
spends f (closed t r) = is_ok r && (t.own && t.fault == f)
spends f (swept i r) = false
spends f (added care value r) = false
spends f (merged i j r) = false

-- the call brings no ticket, or one of the job's own
abbrev pub BringsOwn : Event → Type 0
BringsOwn (took f r) = Unit {0}
BringsOwn (searched t budget r) = t.own ≡ true
BringsOwn (closed t r) = t.own ≡ true
BringsOwn (swept i r) = Unit {0}
BringsOwn (added care value r) = Unit {0}
BringsOwn (merged i j r) = Unit {0}

-- the job met only its own tickets
abbrev pub OnlyOwn : History → Type 0
OnlyOwn [] = Unit {0}
OnlyOwn (e ∷ h) = BringsOwn e × OnlyOwn h

-- a granted search for this fault with a budget of at least 2^(k + 1) - 2, on a card of k inputs
abbrev pub AmpleSearch : Netlist → ℕ → Event → Type 0
AmpleSearch c f (took g r) = ⊥
AmpleSearch c f (searched t budget r) = (is_ok r ≡ true) × (t.fault ≡ f) × (enough c.inputs ≤ budget)
AmpleSearch c f (closed t r) = ⊥
AmpleSearch c f (swept i r) = ⊥
AmpleSearch c f (added care value r) = ⊥
AmpleSearch c f (merged i j r) = ⊥

-- one stands in the history
abbrev pub AmplySearched : Netlist → ℕ → History → Type 0
AmplySearched c f [] = ⊥
AmplySearched c f (e ∷ h) = AmpleSearch c f e ⊎ AmplySearched c f h

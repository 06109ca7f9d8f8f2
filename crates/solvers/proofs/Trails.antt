-- The decisions on the trail: where on it they were made, and the frames that they stand for.
use Rattle.std.specs.Prelude.{ℕ, suc, ◌≤◌, false, List, [], ◌∷◌, map, drop, ℤ}
use Rattle.solving.specs.Settings.{Setting}
use Rattle.propagation.specs.Trails.{unmade_all}
use Rattle.solvers.specs.declared.decision.Decision.{Decision}
use Rattle.solvers.proofs.Resuming.{Frame}

abbrev pub frame_at : Setting → List ℤ → Decision → Frame
frame_at a t d = record { base = unmade_all a (drop d.at t); choice = record { var = d.var; bit = false } }

abbrev pub frames_of : Setting → List ℤ → List Decision → List Frame
frames_of a t ds = map (frame_at a t) ds

-- the decisions stand in order, each before the trail's end
abbrev pub Rising : ℕ → ℕ → List Decision → Type 0
Rising low high [] = low ≤ high
Rising low high (d ∷ ds) = (low ≤ d.at) × Rising (suc d.at) high ds

-- The trail: what growing and unwinding it leaves of the frames of earlier decisions.
use Rattle.std.proofs.Common.{◌≡◌, ℕ, suc, ◌+◌, ◌<◌, ◌≤◌, false, List, [], ◌∷◌, ◌++◌, length, take, drop, ℤ, sym, refl, ap, ◌∙◌, ap₂, arith, take-append-drop, length-take}
use Rattle.std.proofs.lemmas.List.{drop-append-le}
use Rattle.solvers.specs.declared.decision.Decision.{Decision}
use Rattle.solving.specs.Settings.{Setting}
use Rattle.solvers.proofs.Resuming.{Frame}
use Rattle.propagation.specs.Trails.{unmade_all}
use Rattle.solvers.proofs.Trails.{frame_at, frames_of, Rising}
use Rattle.propagation.proofs.Trailing.{unmade_append}

frame_grown : (b : Setting) (s more : List ℤ) (c : Decision) → c.at ≤ length s → frame_at b (s ++ more) c ≡ frame_at (unmade_all b more) s c
frame_grown b s more c h = ap (λ (x : Setting). record { base = x; choice = record { var = c.var; bit = false } }) (ap (unmade_all b) (drop-append-le c.at s more h) ∙ unmade_append b (drop c.at s) more)

rising_low : (low high : ℕ) (cs : List Decision) → Rising low high cs → low ≤ high
rising_low low high [] r = r
rising_low low high (c ∷ cs) r = let h = rising_low (suc c.at) high cs r.1 in omega arith

pub frames_grown : (b : Setting) (s more : List ℤ) (low : ℕ) (cs : List Decision) → Rising low (length s) cs → frames_of b (s ++ more) cs ≡ frames_of (unmade_all b more) s cs
frames_grown b s more low [] r = refl
frames_grown b s more low (c ∷ cs) r =
    let h = rising_low (suc c.at) (length s) cs r.1 in
    ap₂ (λ (x : Frame) (xs : List Frame). x ∷ xs) (frame_grown b s more c (omega arith)) (frames_grown b s more (suc c.at) cs r.1)

pub rising_last : (low high : ℕ) (cs : List Decision) (c : Decision) → Rising low high (cs ++ (c ∷ [])) → Rising low c.at cs × (c.at < high)
rising_last low high [] c r = (r.0, r.1)
rising_last low high (d ∷ cs) c r = let h = rising_last (suc d.at) high cs c r.1 in ((r.0, h.0), h.1)

pub rising_push : (low high : ℕ) (cs : List Decision) (c : Decision) → Rising low c.at cs → c.at < high → Rising low high (cs ++ (c ∷ []))
rising_push low high [] c r h = (r, h)
rising_push low high (d ∷ cs) c r h = (r.0, rising_push (suc d.at) high cs c r.1 h)

pub rising_more : (low high more : ℕ) (cs : List Decision) → high ≤ more → Rising low high cs → Rising low more cs
rising_more low high more [] h r = omega arith
rising_more low high more (c ∷ cs) h r = (r.0, rising_more (suc c.at) high more cs h r.1)

pub rising_length : (low high : ℕ) (cs : List Decision) → Rising low high cs → low + length cs ≤ high
rising_length low high [] r = omega arith
rising_length low high (c ∷ cs) r = let h = rising_length (suc c.at) high cs r.1 in omega arith

-- unwound to where a choice was made
pub frames_unwound : (b : Setting) (t : List ℤ) (to low : ℕ) (cs : List Decision) → to ≤ length t → Rising low to cs → frames_of (unmade_all b (drop to t)) (take to t) cs ≡ frames_of b t cs
frames_unwound b t to low cs h r =
    let l : length (take to t) ≡ to = length-take to t ∙ (omega arith) in
    sym (frames_grown b (take to t) (drop to t) low cs (rw l r)) ∙ ap (λ (x : List ℤ). frames_of b x cs) (take-append-drop to t)

-- One call of a job as an event: what was asked and what was answered, and how it leads from one view to the next.
-- A refused call is refused exactly for its reason and leaves the view as it was.
use Rattle.std.specs.Prelude.{◌≡◌, ℕ, Bool, cond, is_ok, Some, Ok, Err, Result}
use Rattle.card.specs.Netlists.{Netlist}
use Rattle.signal.specs.declared.line.Stuck.{Stuck}
use Rattle.vectors.specs.Vectors.{holding}
use Rattle.faults.specs.Sites.{stuck_of}
use Rattle.solving.specs.Models.{Model}
use Rattle.solving.specs.declared.verdict.Solved.{Solved}
use Rattle.asking.specs.Findings.{Asks, Finding}
use Rattle.history.specs.Changing.{adding, closing, entering, merging, sweeping, taking}
use Rattle.history.specs.Granting.{adds, closes, merges, searches, sweeps, takes}
use Rattle.history.specs.Views.{View}
use Rattle.history.specs.declared.refusal.TakeRefusal.{TakeRefusal}
use Rattle.history.specs.declared.refusal.SearchRefusal.{SearchRefusal}
use Rattle.history.specs.declared.refusal.CloseRefusal.{CloseRefusal}
use Rattle.history.specs.declared.refusal.VectorRefusal.{VectorRefusal}
use Rattle.history.specs.declared.refusal.AddRefusal.{AddRefusal}
use Rattle.history.specs.declared.refusal.MergeRefusal.{MergeRefusal}

-- a ticket as the history of a job knows it: its fault, and whether it is said to be the job's own, given by a take of this job.
-- No number tells who gave a ticket, so the law is stated for every such saying
pub record KnownTicket : Type 0 where
  pub fault : ℕ
  pub own : Bool

-- a call with its answer
pub data Event : Type 0 where
  took : ℕ → Result (Unit {0}) TakeRefusal → Event
  searched : KnownTicket → ℕ → Result Solved SearchRefusal → Event
  closed : KnownTicket → Result (Unit {0}) CloseRefusal → Event
  swept : ℕ → Result ℕ VectorRefusal → Event
  added : ℕ → ℕ → Result ℕ AddRefusal → Event
  merged : ℕ → ℕ → Result (Unit {0}) MergeRefusal → Event

-- a granted search: this is an answer that a solver may give on the fault's formula, and n is what it then holds; what the answer says is
-- entered. That a solver gave it is said where the solver is known, by its own way of answering
pub record Searched (c : Netlist) (v : View) (fault budget : ℕ) (solved : Solved) (n : Model) (w : View) : Type 0 where
  pub stuck : Stuck
  pub is_the_faults_line : stuck_of c fault ≡ Some stuck
  pub found : Finding
  pub asks : Asks c stuck budget solved found n
  pub enters : w ≡ entering v fault found

abbrev pub Step : Netlist → View → Event → View → Type 0
Step c v (took f r) w = (r ≡ takes c v f) × (w ≡ cond (is_ok r) (taking v f) v)
Step c v (searched t budget (Ok solved)) w = (searches v t.fault ≡ Ok tt) × ((n : Model) × Searched c v t.fault budget solved n w)
Step c v (searched t budget (Err e)) w = (searches v t.fault ≡ Err e) × (w ≡ v)
Step c v (closed t r) w = (r ≡ closes v t.fault) × (w ≡ cond (is_ok r) (closing v t.fault) v)
Step c v (swept i r) w = (r ≡ sweeps c v i) × (w ≡ cond (is_ok r) (sweeping c v i) v)
Step c v (added care value r) w = (r ≡ adds c v care value) × (w ≡ cond (is_ok r) (adding v (holding care value)) v)
Step c v (merged i j r) w = (r ≡ merges v i j) × (w ≡ cond (is_ok r) (merging v i j) v)

-- Tickets that are kept beside a job: each taken fault has exactly one of them, and no other fault has any.
-- With this a caller may speak of a fault alone, and the desk finds its ticket.
use Rattle.std.specs.Prelude.{◌≡◌, ℕ, ◌<◌, cond, List, map, length, count_by, nat_eq, slice_index}
use Rattle.history.specs.Views.{View, is_taken}
use Rattle.job.specs.declared.ticket.Ticket.{Ticket}

-- the faults that the tickets are for, one by one
abbrev pub faults_of : List Ticket → List ℕ
faults_of ts = map (λ (t : Ticket). t.fault) ts

-- how many of the tickets are for this fault
abbrev pub tickets_for : ℕ → List Ticket → ℕ
tickets_for f ts = count_by (λ (n : ℕ). nat_eq n f) (faults_of ts)

abbrev pub Kept : View → List Ticket → Type 0
Kept v ts = (f : ℕ) → tickets_for f ts ≡ cond (is_taken v f) 1 0

-- the ticket at this place is for the fault
abbrev pub IsFor : ℕ → List Ticket → ℕ → Type 0
IsFor f ts i = (i < length ts) × (slice_index (faults_of ts) i ≡ f)

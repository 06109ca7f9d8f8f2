-- What a job holds, as lists, and its answers as the history knows them.
-- The running job keeps rows and structures; here they are read as a view, so that its calls are steps of the history.
use Rattle.std.specs.Prelude.{◌≡◌, ℕ, Bool, map, Ok, Err, vec_items, Result}
use Rattle.card.specs.Netlists.{Netlist}
use Rattle.vectors.specs.Views.{cells_of}
use Rattle.faults.specs.Views.{modelled}
use Rattle.solving.specs.Models.{Model}
use Rattle.solving.specs.declared.verdict.Solved.{Solved}
use Rattle.history.specs.Granting.{searches}
use Rattle.history.specs.Steps.{Event, KnownTicket, Searched, Step}
use Rattle.history.specs.Views.{View}
use Rattle.history.specs.declared.mark.Mark.{Mark}
use Rattle.history.specs.declared.refusal.CloseRefusal.{CloseRefusal}
use Rattle.history.specs.declared.refusal.SearchRefusal.{SearchRefusal}
use Rattle.job.specs.declared.shown.Marked.{Marked}
use Rattle.job.specs.declared.table.Table.{Table}
use Rattle.job.specs.declared.ticket.Back.{Back}
use Rattle.job.specs.declared.ticket.Ticket.{Ticket}

-- what is known of a fault, and whether it is taken
abbrev pub mark_of : Marked → Mark
mark_of s = s.mark

abbrev pub taken_of : Marked → Bool
taken_of s = s.taken

abbrev pub view_of : Table → View
view_of t = record { marks = map mark_of (vec_items t.states); taken = map taken_of (vec_items t.states); vectors = map cells_of (vec_items t.vectors) }

abbrev pub card_of : Table → Netlist
card_of t = modelled t.faults

-- whether a call was granted, or why it was refused
abbrev pub granted : {T E : Type 0} → Result T E → Result (Unit {0}) E
granted (Ok x) = Ok tt
granted (Err e) = Err e

abbrev pub closed_with : Result (Unit {0}) Back → Result (Unit {0}) CloseRefusal
closed_with (Ok x) = Ok tt
closed_with (Err back) = Err back.why

-- a ticket as the history knows it, whoever gave it
abbrev pub known_as : Ticket → Bool → KnownTicket
known_as t own = record { fault = t.fault; own = own }

-- a search: granted, the solver's answer is entered; refused, neither the job nor the solver changes. m and n are what the solver holds before and after
abbrev pub SearchAnswers : Netlist → View → ℕ → ℕ → Model → Result Solved SearchRefusal → View → Model → Type 0
SearchAnswers c v f budget m (Ok solved) w n = (searches v f ≡ Ok tt) × Searched c v f budget solved n w
SearchAnswers c v f budget m (Err e) w n = (searches v f ≡ Err e) × (w ≡ v) × (n ≡ m)

-- a call leads from one table to the next: the card stays, and the call is a step of the history
pub record Led (t : Table) (e : Event) (u : Table) : Type 0 where
  pub the_card_stays : card_of u ≡ card_of t
  pub is_a_step : Step (card_of t) (view_of t) e (view_of u)

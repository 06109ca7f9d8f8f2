-- Each call of a job is a step of its history: it leads on from where some history led, and the law holds there.
use Rattle.std.proofs.Common.{◌≡◌, ℕ, Bool, true, Ok, Err, Result}
use Rattle.card.specs.Netlists.{Lawful, Netlist}
use Rattle.solving.specs.Models.{Model}
use Rattle.solving.specs.declared.verdict.Solved.{Solved}
use Rattle.history.specs.Promises.{PromisedAfter, Reached, Stands}
use Rattle.history.specs.Steps.{Event, Step, searched}
use Rattle.history.specs.Views.{View}
use Rattle.history.specs.declared.refusal.SearchRefusal.{SearchRefusal}
use Rattle.history.proofs.Reaching.{promised_after, reached_stands, reached_step}
use Rattle.job.specs.Tables.{Led, SearchAnswers, card_of, known_as, view_of}
use Rattle.job.specs.declared.table.Table.{Table}
use Rattle.job.specs.declared.ticket.Ticket.{Ticket}

-- the card of a job keeps the rules, since every card does
pub lawful : (t : Table) → Lawful (card_of t)
lawful t = t.faults.card.lawful

-- ---- each call leads on

pub searched_step : (c : Netlist) (v w : View) (t : Ticket) (budget : ℕ) (m n : Model) (r : Result Solved SearchRefusal) → SearchAnswers c v t.fault budget m r w n
    → (own : Bool) → Step c v (searched (known_as t own) budget r) w
searched_step c v w t budget m n (Ok solved) (e, done) own = (e, (n, done))
searched_step c v w t budget m n (Err why) (e, is, _) own = (e, is)

-- a refused search, and one that was granted, leads on
pub led_by_search : (t u : Table) (x : Ticket) (budget : ℕ) (m n : Model) (r : Result Solved SearchRefusal) → card_of u ≡ card_of t → SearchAnswers (card_of t) (view_of t) x.fault budget m r (view_of u) n → Led t (searched (known_as x true) budget r) u
led_by_search t u x budget m n r card a = record { the_card_stays = card; is_a_step = searched_step (card_of t) (view_of t) (view_of u) x budget m n r a true }

pub led_on : (t u : Table) (e : Event) → Led t e u → Reached (card_of t) (view_of t) → Reached (card_of u) (view_of u)
led_on t u e led before = reached_step (card_of t) (card_of u) (view_of t) (view_of u) e led.the_card_stays led.is_a_step before

pub stands : (t : Table) → Reached (card_of t) (view_of t) → Stands (card_of t) (view_of t)
stands t r = reached_stands (card_of t) (view_of t) (lawful t) r

pub promised : (t : Table) (e : Event) (w : View) → Step (card_of t) (view_of t) e w → PromisedAfter (card_of t) (view_of t) e w
promised t e w step = promised_after (card_of t) (view_of t) w e (lawful t) step

-- The law of a whole run of requests: whatever history led to the job, these requests extend it by their calls, and after the longer
-- history the promise holds, no verdict is lost, and where only the job's own tickets were met, that is still so.
-- The solver held m before and holds o after: only the granted searches among the calls changed it, and each it answered in its own way.
use Rattle.std.specs.Prelude.{◌≡◌, true, List, [], ◌∷◌, ◌++◌, length}
use Rattle.card.specs.Netlists.{Netlist}
use Rattle.solving.specs.Models.{Model}
use Rattle.history.specs.Histories.{History, LeadsTo, OnlyOwn}
use Rattle.history.specs.Promises.{Keeps, Law, Promise, Stands}
use Rattle.history.specs.Steps.{KnownTicket}
use Rattle.history.specs.Views.{View}
use Rattle.job.specs.declared.ticket.Ticket.{Ticket}
use Rattle.requests.specs.Serving.{Known, Served, Way}
use Rattle.requests.specs.declared.reply.Reply.{Reply}
use Rattle.requests.specs.declared.reply.Reply.TheVariants.{Taken, Searched, Closed, Swept, Added, Merged, NoTicket, Refused}
use Rattle.requests.specs.declared.request.Request.{Request}

abbrev pub AllOwn : List KnownTicket → Type 0
AllOwn [] = Unit {0}
AllOwn (k ∷ ks) = (k.own ≡ true) × AllOwn ks

-- this is no answer of a search
abbrev pub NoAnswer : Reply → Type 0
NoAnswer Taken = Unit {0}
NoAnswer (Searched s) = ⊥
NoAnswer Closed = Unit {0}
NoAnswer (Swept k) = Unit {0}
NoAnswer (Added i) = Unit {0}
NoAnswer Merged = Unit {0}
NoAnswer NoTicket = Unit {0}
NoAnswer (Refused e) = Unit {0}

abbrev pub NoAnswers : List Reply → Type 0
NoAnswers [] = Unit {0}
NoAnswers (r ∷ rs) = NoAnswer r × NoAnswers rs

-- a history extended by the calls that the requests came to
pub record Extends (way : Way) (c : Netlist) (past : History) (v : View) (ks : List KnownTicket) (qs : List Request) (rs : List Reply) (w : View) (us : List Ticket) (m o : Model) : Type 0 where
  pub calls : History
  pub tickets : List KnownTicket
  pub are_the_wallets_tickets : Known tickets us
  pub each_request_was_served_in_turn : Served way c v ks qs (length qs) rs calls w tickets m o
  pub leads_there : LeadsTo c (calls ++ past) w
  pub the_promise_holds_after_all_calls : Promise c (calls ++ past) w
  pub only_own_tickets_stay_so : OnlyOwn past → AllOwn ks → OnlyOwn (calls ++ past) × AllOwn tickets

pub record Runs (way : Way) (c : Netlist) (v : View) (ts : List Ticket) (qs : List Request) (rs : List Reply) (w : View) (us : List Ticket) (m o : Model) : Type 0 where
  pub every_request_has_its_reply : length rs ≡ length qs
  pub each_request_was_served_in_turn : (ks : List KnownTicket) → Known ks ts → (calls : History) × (tickets : List KnownTicket) × (Known tickets us × Served way c v ks qs (length qs) rs calls w tickets m o)
  pub whatever_history_led_here_is_extended : (past : History) → LeadsTo c past v → (ks : List KnownTicket) → Known ks ts → Extends way c past v ks qs rs w us m o
  pub without_a_granted_search_the_solver_stays : NoAnswers rs → o ≡ m
  pub no_verdict_is_lost : Keeps v w
  pub some_history_led_here_and_the_promise_holds : Stands c w
  pub the_same_holds_of_every_history : Law c

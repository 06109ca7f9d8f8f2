-- Two runs on one job: whatever history led to it is extended by the calls of both, and the promise holds over the joined history.
-- Of the first solver, m is what it held before its run and o what it holds after; of the second, p and q; each answers in its own way.
use Rattle.std.specs.Prelude.{List, ◌++◌, length}
use Rattle.card.specs.Netlists.{Netlist}
use Rattle.solving.specs.Models.{Model}
use Rattle.history.specs.Histories.{History, LeadsTo, OnlyOwn}
use Rattle.history.specs.Promises.{Keeps, Promise, Stands}
use Rattle.history.specs.Steps.{KnownTicket}
use Rattle.history.specs.Views.{View}
use Rattle.job.specs.declared.ticket.Ticket.{Ticket}
use Rattle.requests.specs.Running.{AllOwn}
use Rattle.requests.specs.Serving.{Known, Served, Way}
use Rattle.requests.specs.declared.reply.Reply.{Reply}
use Rattle.requests.specs.declared.request.Request.{Request}

-- the calls of the first run, then those of the second, by way of what the job held between them
pub record BothServed (first second : Way) (c : Netlist) (past : History) (v : View) (ks : List KnownTicket) (ps qs : List Request) (rs ss : List Reply) (w : View) (us : List Ticket) (m o p q : Model) : Type 0 where
  pub first_calls : History
  pub second_calls : History
  pub between : View
  pub between_tickets : List KnownTicket
  pub tickets : List KnownTicket
  pub are_the_wallets_tickets : Known tickets us
  pub the_first_were_served : Served first c v ks ps (length ps) rs first_calls between between_tickets m o
  pub the_second_were_served : Served second c between between_tickets qs (length qs) ss second_calls w tickets p q
  pub leads_there : LeadsTo c (second_calls ++ (first_calls ++ past)) w
  pub the_promise_holds_over_the_joined_history : Promise c (second_calls ++ (first_calls ++ past)) w
  pub only_own_tickets_stay_so : OnlyOwn past → AllOwn ks → OnlyOwn (second_calls ++ (first_calls ++ past)) × AllOwn tickets

pub record Joined (first second : Way) (c : Netlist) (v : View) (ts : List Ticket) (ps qs : List Request) (rs ss : List Reply) (w : View) (us : List Ticket) (m o p q : Model) : Type 0 where
  pub whatever_history_led_here_is_extended_by_both : (past : History) → LeadsTo c past v → (ks : List KnownTicket) → Known ks ts → BothServed first second c past v ks ps qs rs ss w us m o p q
  pub no_verdict_is_lost : Keeps v w
  pub some_history_led_here_and_the_promise_holds : Stands c w

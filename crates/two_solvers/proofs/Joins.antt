-- What two runs promise joins.
use Rattle.std.proofs.Common.{◌≡◌, ℕ, true, List, ◌++◌, IfOk, OnErr, Ok, Err, Result, sym, refl, subst}
use Rattle.std.proofs.lemmas.Bool.{false≢true}
use Rattle.card.specs.Netlists.{Netlist}
use Rattle.solving.specs.Models.{Model, fresh}
use Rattle.history.specs.Promises.{Keeps}
use Rattle.history.specs.Views.{View, is_detected, mark}
use Rattle.history.specs.declared.mark.Mark.{Mark}
use Rattle.history.specs.declared.mark.Mark.TheVariants.{Detected, Open, Untestable}
use Rattle.job.specs.Jobs.{held}
use Rattle.job.specs.declared.job.Job.{Job}
use Rattle.job.specs.declared.ticket.Ticket.{Ticket}
use Rattle.requests.specs.Running.{Runs}
use Rattle.requests.specs.Serving.{Way}
use Rattle.requests.specs.declared.reply.Reply.{Reply}
use Rattle.requests.specs.declared.request.Request.{Request}
use Rattle.two_solvers.specs.Joining.{Joined}

pub each : {T E : Type 0} (r : Result T E) (P Q : T → Type 0) → ((x : T) → P x → Q x) → IfOk r P → IfOk r Q
each (Ok x) P Q f a = f x a
each (Err e) P Q f a = tt

each_error : {T E : Type 0} (r : Result T E) (P Q : Type 0) → (P → Q) → OnErr r P → OnErr r Q
each_error (Ok x) P Q f a = tt
each_error (Err e) P Q f a = f a

number : (m : Mark) → is_detected m ≡ true → (i : ℕ) × (m ≡ Detected i)
number Open e = absurd (false≢true e)
number (Detected i) e = (i, refl)
number Untestable e = absurd (false≢true e)

both_keep : (u v w : View) → Keeps u v → Keeps v w → Keeps u w
both_keep u v w a b = record {
  detected_stays = λ f i d. let (n, e) = number (mark v f) (a.detected_stays f i d) in b.detected_stays f n e;
  untestable_stays = λ f k. b.untestable_stays f (a.untestable_stays f k);
}

joined : (first second : Way) (c d : Netlist) (v u w : View) (ts ms us : List Ticket) (ps qs : List Request) (rs ss : List Reply) (m o p q : Model) → d ≡ c
    → Runs first c v ts ps rs u ms m o → Runs second d u ms qs ss w us p q → Joined first second c v ts ps qs rs ss w us m o p q
joined first second c d v u w ts ms us ps qs rs ss m o p q card a other =
    let b : Runs second c u ms qs ss w us p q = subst (λ (k : Netlist). Runs second k u ms qs ss w us p q) card other in
    record {
      whatever_history_led_here_is_extended_by_both = λ past leads ks known.
          let x = a.whatever_history_led_here_is_extended past leads ks known in
          let y = b.whatever_history_led_here_is_extended (x.calls ++ past) x.leads_there x.tickets x.are_the_wallets_tickets in
          record {
            first_calls = x.calls;
            second_calls = y.calls;
            between = u;
            between_tickets = x.tickets;
            tickets = y.tickets;
            are_the_wallets_tickets = y.are_the_wallets_tickets;
            the_first_were_served = x.each_request_was_served_in_turn;
            the_second_were_served = y.each_request_was_served_in_turn;
            leads_there = y.leads_there;
            the_promise_holds_over_the_joined_history = y.the_promise_holds_after_all_calls;
            only_own_tickets_stay_so = λ own all. let (past_own, all_own) = x.only_own_tickets_stay_so own all in y.only_own_tickets_stay_so past_own all_own;
          };
      no_verdict_is_lost = both_keep v u w a.no_verdict_is_lost b.no_verdict_is_lost;
      some_history_led_here_and_the_promise_holds = b.some_history_led_here_and_the_promise_holds;
    }

-- the second run was made
pub if_made : {V E : Type 0} (replies : V → List Reply) (first second : Way) (c d : Netlist) (v u w : View) (ts ms us : List Ticket) (ps qs : List Request) (rs : List Reply) (m o p q : Model) (r : Result V E) → d ≡ c
    → Runs first c v ts ps rs u ms m o → IfOk r (λ (x : V). Runs second d u ms qs (replies x) w us p q) → IfOk r (λ (x : V). Joined first second c v ts ps qs rs (replies x) w us m o p q)
if_made replies first second c d v u w ts ms us ps qs rs m o p q (Ok x) card a b = joined first second c d v u w ts ms us ps qs rs (replies x) m o p q card a b
if_made replies first second c d v u w ts ms us ps qs rs m o p q (Err e) card a b = tt

-- there was no room for it, and the job and the tickets stayed
pub if_not : {V E : Type 0} (first : Way) (c : Netlist) (v : View) (ts ms us : List Ticket) (ps : List Request) (rs : List Reply) (m o : Model) (j k : Job) (r : Result V E) → OnErr r (k ≡ j) → OnErr r (us ≡ ms)
    → Runs first c v ts ps rs (held j) ms m o → OnErr r (Runs first c v ts ps rs (held k) us m o)
if_not first c v ts ms us ps rs m o j k (Ok x) same still a = tt
if_not first c v ts ms us ps rs m o j k (Err e) same still a =
    subst (λ (xs : List Ticket). Runs first c v ts ps rs (held k) xs m o) (sym still) (subst (λ (i : Job). Runs first c v ts ps rs (held i) ms m o) (sym same) a)

-- both solvers were new
module _ {V E : Type 0} (replies : V → List Reply) (first second : Way) (c : Netlist) (v w : View) (ts us : List Ticket) (ps qs : List Request) (rs : List Reply) (m o p q : Model) (r : Result V E) where
  abbrev pub Both : V → Model → Model → Model → Model → Type 0
  Both x a b d e = Joined first second c v ts ps qs rs (replies x) w us a b d e

  pub both_new : m ≡ fresh → p ≡ fresh → IfOk r (λ (x : V). Both x m o p q) → IfOk r (λ (x : V). (y : Model) × ((z : Model) × Both x fresh y fresh z))
  both_new new newer done =
      each r (λ (x : V). Both x m o p q) (λ (x : V). (y : Model) × ((z : Model) × Both x fresh y fresh z)) (λ x b. (o, (q, subst (λ (k : Model). Both x fresh o k q) newer (subst (λ (k : Model). Both x k o p q) new b)))) done

-- the first solver was new
module _ {V E : Type 0} (first : Way) (c : Netlist) (v w : View) (ts us : List Ticket) (ps : List Request) (rs : List Reply) (m o : Model) (r : Result V E) where
  abbrev pub Once : Model → Model → Type 0
  Once a b = Runs first c v ts ps rs w us a b

  pub one_new : m ≡ fresh → OnErr r (Once m o) → OnErr r ((y : Model) × Once fresh y)
  one_new new done = each_error r (Once m o) ((y : Model) × Once fresh y) (λ b. (o, subst (λ (k : Model). Once k o) new b)) done

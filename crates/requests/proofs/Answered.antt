-- What each call of the job answers is what its request is answered.
use Rattle.std.proofs.Common.{◌≡◌, ℕ, ◌<◌, ◌≤◌, Bool, true, List, [], ◌∷◌, ◌++◌, length, get_or, IfOk, Ok, Err, Some, Result, sym, refl, ap, ◌∙◌, subst, inl, inr, arith}
use Rattle.std.specs.List.{insert, remove}
use Rattle.std.specs.Result.{IsErrAnd}
use Rattle.std.proofs.lemmas.Result.{err_from_is_err_and}
use Rattle.card.specs.Netlists.{Netlist}
use Rattle.signal.specs.declared.line.Stuck.{Stuck}
use Rattle.faults.specs.Sites.{stuck_of}
use Rattle.solving.specs.Models.{Model}
use Rattle.solving.specs.declared.verdict.Solved.{Solved}
use Rattle.formula.specs.Posing.{holds_formula}
use Rattle.history.specs.Steps.{KnownTicket, Step, added, closed, merged, searched, swept, took}
use Rattle.history.specs.Views.{View}
use Rattle.history.specs.declared.refusal.AddRefusal.{AddRefusal}
use Rattle.history.specs.declared.refusal.CloseRefusal.{CloseRefusal}
use Rattle.history.specs.declared.refusal.MergeRefusal.{MergeRefusal}
use Rattle.history.specs.declared.refusal.SearchRefusal.{SearchRefusal}
use Rattle.history.specs.declared.refusal.TakeRefusal.{TakeRefusal}
use Rattle.history.specs.declared.refusal.VectorRefusal.{VectorRefusal}
use Rattle.job.specs.Tables.{SearchAnswers, known_as}
use Rattle.job.specs.declared.ticket.Ticket.{Ticket}
use Rattle.requests.specs.Serving.{Known, Leaves, One, Way, at, mine, replied, reply_of}
use Rattle.requests.specs.declared.refusal.Refusal.{Refusal}
use Rattle.requests.specs.declared.reply.Reply.{Reply}
use Rattle.requests.specs.declared.reply.Reply.TheVariants as reply
use Rattle.requests.specs.declared.request.Request.{Request}
use Rattle.requests.specs.declared.request.Request.TheVariants.{Take, Search, Close, Sweep, Add, Merge}
use Rattle.requests.proofs.Tickets.{known_at, known_long, known_push, known_removed, put_back}

module _ (way : Way) (c : Netlist) (v w : View) (ts : List Ticket) (m : Model) where
  pub take_granted : (us : List Ticket) (f : ℕ) (t : Ticket) → t.fault ≡ f → us ≡ ts ++ (t ∷ []) → Step c v (took f (Ok tt)) w → One way c v ts (Take f) reply.Taken w us m m
  take_granted us f t is push step = record {
    serves = λ ks known. (
      took f (Ok tt) ∷ [],
      ks ++ (mine f ∷ []),
      (subst (Known (ks ++ (mine f ∷ []))) (sym push) (known_push ks ts (mine f) t known (sym is)), (Ok tt, (refl, refl, step, refl), refl)),
    );
  }

  pub take_refused : (f : ℕ) (e : TakeRefusal) → Step c v (took f (Err e)) w → One way c v ts (Take f) (reply_of (took f (Err e))) w ts m m
  take_refused f e step = record { serves = λ ks known. (took f (Err e) ∷ [], ks, (known, (Err e, (refl, refl, step, refl), refl))) }

  pub sweep_served : (i : ℕ) (a : Result ℕ VectorRefusal) → Step c v (swept i a) w → One way c v ts (Sweep i) (reply_of (swept i a)) w ts m m
  sweep_served i a step = record { serves = λ ks known. (swept i a ∷ [], ks, (known, (refl, (a, (refl, refl, step, refl))))) }

  pub add_served : (x y : ℕ) (a : Result ℕ AddRefusal) → Step c v (added x y a) w → One way c v ts (Add x y) (reply_of (added x y a)) w ts m m
  add_served x y a step = record { serves = λ ks known. (added x y a ∷ [], ks, (known, (refl, (a, (refl, refl, step, refl))))) }

  pub merge_served : (i j : ℕ) (a : Result (Unit {0}) MergeRefusal) → Step c v (merged i j a) w → One way c v ts (Merge i j) (reply_of (merged i j a)) w ts m m
  merge_served i j a step = record { serves = λ ks known. (merged i j a ∷ [], ks, (known, (refl, (a, (refl, refl, step, refl))))) }

-- a request whose call was refused, the refusal carried by `?`
pub refusal_carried : {way : Way} {c : Netlist} {v w : View} {ts us : List Ticket} {m o : Model} {q p : Request} {e : Refusal} (r : Result Reply Refusal) → q ≡ p → IsErrAnd r (λ y. y ≡ e) → One way c v ts p (reply.Refused e) w us m o → One way c v ts q (replied r) w us m o
refusal_carried {way} {c} {v} {w} {ts} {us} {m} {o} {q} {p} r asked is one =
    let (y, err, carried) = err_from_is_err_and r is in
    subst (λ (k : Request). One way c v ts k (replied r) w us m o) (sym asked) (subst (λ (a : Reply). One way c v ts p a w us m o) (sym (ap replied err ∙ ap reply.Refused carried)) one)

-- a ticket is known at its place, whoever gave it
known_as_is : (k : KnownTicket) (t : Ticket) → k.fault ≡ t.fault → known_as t k.own ≡ k
known_as_is k t e = let f : t.fault ≡ k.fault = sym e in λ i. record { fault = f i; own = k.own }

searched_reply : (k l : KnownTicket) (b : ℕ) (a : Result Solved SearchRefusal) → reply_of (searched k b a) ≡ reply_of (searched l b a)
searched_reply k l b (Ok s) = refl
searched_reply k l b (Err e) = refl

-- the solver that was asked about the fault of this number answered in its own way
abbrev pub InItsWay : Way → Netlist → ℕ → ℕ → Result Solved SearchRefusal → Model → Type 0
InItsWay way c f b a o = IfOk a (λ (solved : Solved). (line : Stuck) → stuck_of c f ≡ Some line → way (holds_formula c line) b solved o)

-- what a search leaves of the solver
left_by_search : (way : Way) (c : Netlist) (v w : View) (k : KnownTicket) (b : ℕ) (m o : Model) (a : Result Solved SearchRefusal) → SearchAnswers c v k.fault b m a w o → InItsWay way c k.fault b a o → Leaves way c v (searched k b a) w m o
left_by_search way c v w k b m o (Ok s) (_, done) own = (done, own)
left_by_search way c v w k b m o (Err e) (_, _, same) own = same

closed_reply : (k l : KnownTicket) (a : Result (Unit {0}) CloseRefusal) → reply_of (closed k a) ≡ reply_of (closed l a)
closed_reply k l (Ok u) = refl
closed_reply k l (Err e) = refl

module _ (way : Way) (c : Netlist) (v w : View) (ts : List Ticket) (m : Model) (i : ℕ) (t : Ticket) (lt : i < length ts) (is : t ≡ get_or ts i t) where
  pub search_served : (o : Model) (b : ℕ) (a : Result Solved SearchRefusal) → ((own : Bool) → Step c v (searched (known_as t own) b a) w) → SearchAnswers c v t.fault b m a w o → InItsWay way c t.fault b a o
      → One way c v ts (Search i b) (reply_of (searched (known_as t true) b a)) w ts m o
  search_served o b a step answered own = record {
    serves = λ ks known.
        let same = known_as_is (at ks i) t (known_at ks ts i t known lt is) in
        let long : i < length ks = omega (arith, lt, known_long ks ts known) in
        (searched (at ks i) b a ∷ [], ks, (known, (refl, inl (long, (a, (refl, searched_reply (known_as t true) (at ks i) b a, subst (λ (k : KnownTicket). Step c v (searched k b a) w) same (step (at ks i).own), subst (λ (k : KnownTicket). Leaves way c v (searched k b a) w m o) same (left_by_search way c v w (known_as t (at ks i).own) b m o a answered own)))))));
  }

  pub close_granted : (us : List Ticket) → us ≡ remove ts i → ((own : Bool) → Step c v (closed (known_as t own) (Ok tt)) w) → One way c v ts (Close i) reply.Closed w us m m
  close_granted us gone step = record {
    serves = λ ks known.
        let same = known_as_is (at ks i) t (known_at ks ts i t known lt is) in
        let long : i < length ks = omega (arith, lt, known_long ks ts known) in (
          closed (at ks i) (Ok tt) ∷ [],
          remove ks i,
          (
            subst (Known (remove ks i)) (sym gone) (known_removed ks ts i known),
            inl (long, (Ok tt, (refl, refl, subst (λ (k : KnownTicket). Step c v (closed k (Ok tt)) w) same (step (at ks i).own), refl), refl)),
          ),
        );
  }

  pub close_refused : (rest us : List Ticket) (back : Ticket) (e : CloseRefusal) → rest ≡ remove ts i → back ≡ t → us ≡ insert rest i back
      → ((own : Bool) → Step c v (closed (known_as t own) (Err e)) w) → One way c v ts (Close i) (reply_of (closed (known_as t true) (Err e))) w us m m
  close_refused rest us back e gone kept put step = record {
    serves = λ ks known.
        let same = known_as_is (at ks i) t (known_at ks ts i t known lt is) in
        let long : i < length ks = omega (arith, lt, known_long ks ts known) in
        let as_before : us ≡ ts = put ∙ ap (λ (x : Ticket). insert rest i x) kept ∙ ap (λ (xs : List Ticket). insert xs i t) gone ∙ put_back ts i t lt is in (
          closed (at ks i) (Err e) ∷ [],
          ks,
          (
            subst (Known ks) (sym as_before) known,
            inl (long, (Err e, (refl, closed_reply (known_as t true) (at ks i) (Err e), subst (λ (k : KnownTicket). Step c v (closed k (Err e)) w) same (step (at ks i).own), refl), refl)),
          ),
        );
  }

module _ (way : Way) (c : Netlist) (v : View) (ts : List Ticket) (m : Model) (i : ℕ) (past : length ts ≤ i) where
  pub search_idle : (b : ℕ) → One way c v ts (Search i b) reply.NoTicket v ts m m
  search_idle b = record { serves = λ ks known. let long : length ks ≤ i = omega (arith, past, known_long ks ts known) in ([], ks, (known, (refl, inr (long, (refl, refl, refl, refl))))) }

  pub close_idle : One way c v ts (Close i) reply.NoTicket v ts m m
  close_idle = record { serves = λ ks known. let long : length ks ≤ i = omega (arith, past, known_long ks ts known) in ([], ks, (known, inr (long, (refl, refl, refl, refl), refl))) }

-- a close asks no solver, so it is served alike in whatever way a solver answers
pub close_any_way : (one other : Way) (c : Netlist) (v w : View) (ts us : List Ticket) (i : ℕ) (r : Reply) (m o : Model) → One one c v ts (Close i) r w us m o → One other c v ts (Close i) r w us m o
close_any_way one other c v w ts us i r m o done = record { serves = done.serves }

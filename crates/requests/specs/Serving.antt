-- One request: the call that it comes to, what is answered, and the tickets and the solver afterwards. Of a solver, m is what it held
-- before and o what it holds after; its way is what a solver of its kind may answer.
-- A request for a ticket that the wallet does not have comes to no call.
use Rattle.std.specs.Prelude.{◌≡◌, ℕ, zero, suc, ◌<◌, ◌≤◌, true, cond, ◌⊎◌, List, [], ◌∷◌, ◌++◌, map, length, is_ok, Some, Ok, Err, Result, slice_index_or}
use Rattle.std.specs.List.{remove}
use Rattle.card.specs.Netlists.{Netlist}
use Rattle.signal.specs.declared.line.Stuck.{Stuck}
use Rattle.faults.specs.Sites.{stuck_of}
use Rattle.solving.specs.Models.{Model}
use Rattle.solving.specs.declared.verdict.Solved.{Solved}
use Rattle.formula.specs.Posing.{holds_formula}
use Rattle.history.specs.Histories.{History}
use Rattle.history.specs.Steps.{Event, KnownTicket, Searched, Step, added, closed, merged, searched, swept, took}
use Rattle.history.specs.Views.{View}
use Rattle.history.specs.declared.refusal.AddRefusal.{AddRefusal}
use Rattle.history.specs.declared.refusal.CloseRefusal.{CloseRefusal}
use Rattle.history.specs.declared.refusal.MergeRefusal.{MergeRefusal}
use Rattle.history.specs.declared.refusal.SearchRefusal.{SearchRefusal}
use Rattle.history.specs.declared.refusal.TakeRefusal.{TakeRefusal}
use Rattle.history.specs.declared.refusal.VectorRefusal.{VectorRefusal}
use Rattle.job.specs.declared.ticket.Ticket.{Ticket}
use Rattle.requests.specs.declared.refusal.Refusal.{Refusal}
use Rattle.requests.specs.declared.refusal.Refusal.TheVariants as refused
use Rattle.requests.specs.declared.reply.Reply.{Reply}
use Rattle.requests.specs.declared.reply.Reply.TheVariants as reply
use Rattle.requests.specs.declared.request.Request.{Request}
use Rattle.requests.specs.declared.request.Request.TheVariants.{Take, Search, Close, Sweep, Add, Merge}

-- what is answered, by the call and its answer
abbrev pub reply_of : Event → Reply
reply_of (took f (Ok u)) = reply.Taken
reply_of (took f (Err e)) = reply.Refused (refused.Take e)
reply_of (searched t b (Ok s)) = reply.Searched s
reply_of (searched t b (Err e)) = reply.Refused (refused.Search e)
reply_of (closed t (Ok u)) = reply.Closed
reply_of (closed t (Err e)) = reply.Refused (refused.Close e)
reply_of (swept i (Ok n)) = reply.Swept n
reply_of (swept i (Err e)) = reply.Refused (refused.Sweep e)
reply_of (added c v (Ok n)) = reply.Added n
reply_of (added c v (Err e)) = reply.Refused (refused.Add e)
reply_of (merged i j (Ok u)) = reply.Merged
reply_of (merged i j (Err e)) = reply.Refused (refused.Merge e)

-- what is replied, where the job may have refused
abbrev pub replied : Result Reply Refusal → Reply
replied (Ok r) = r
replied (Err e) = reply.Refused e

-- a ticket of the job's own
abbrev pub mine : ℕ → KnownTicket
mine f = record { fault = f; own = true }

abbrev pub at : List KnownTicket → ℕ → KnownTicket
at ts i = slice_index_or ts i (mine 0)

-- the tickets of the wallet, one by one, each with any word on whose it is
abbrev pub Known : List KnownTicket → List Ticket → Type 0
Known ks ts = map (λ (k : KnownTicket). k.fault) ks ≡ map (λ (t : Ticket). t.fault) ts

-- the way of a kind of solver: from what it held and the budget, the answer and what it holds then
abbrev pub Way : Type 1
Way = Model → ℕ → Solved → Model → Type 0

-- the request comes to no call
abbrev pub Idle : View → Reply → History → View → Model → Model → Type 0
Idle v r h w m o = (h ≡ []) × (r ≡ reply.NoTicket) × (w ≡ v) × (o ≡ m)

module _ (way : Way) where
  -- what a call leaves of the solver: a granted search has it answer in its own way on the fault's formula, which it holds afterwards,
  -- with the reading if it found one; no other call changes it, and no refused one
  abbrev pub Leaves : Netlist → View → Event → View → Model → Model → Type 0
  Leaves c v (took f a) w m o = o ≡ m
  Leaves c v (searched t b (Ok s)) w m o = Searched c v t.fault b s o w × ((line : Stuck) → stuck_of c t.fault ≡ Some line → way (holds_formula c line) b s o)
  Leaves c v (searched t b (Err e)) w m o = o ≡ m
  Leaves c v (closed t a) w m o = o ≡ m
  Leaves c v (swept i a) w m o = o ≡ m
  Leaves c v (added x y a) w m o = o ≡ m
  Leaves c v (merged i j a) w m o = o ≡ m

  -- the request comes to this call
  abbrev pub Meets : Netlist → View → Event → Reply → History → View → Model → Model → Type 0
  Meets c v e r h w m o = (h ≡ e ∷ []) × (r ≡ reply_of e) × Step c v e w × Leaves c v e w m o

  abbrev pub Serves : Netlist → View → List KnownTicket → Request → Reply → History → View → List KnownTicket → Model → Model → Type 0
  Serves c v ks (Take f) r h w ls m o = (a : Result (Unit {0}) TakeRefusal) × Meets c v (took f a) r h w m o × (ls ≡ cond (is_ok a) (ks ++ (mine f ∷ [])) ks)
  Serves c v ks (Search i b) r h w ls m o =
      (ls ≡ ks) × (((i < length ks) × ((a : Result Solved SearchRefusal) × Meets c v (searched (at ks i) b a) r h w m o)) ⊎ ((length ks ≤ i) × Idle v r h w m o))
  Serves c v ks (Close i) r h w ls m o =
      ((i < length ks) × ((a : Result (Unit {0}) CloseRefusal) × Meets c v (closed (at ks i) a) r h w m o × (ls ≡ cond (is_ok a) (remove ks i) ks)))
      ⊎ ((length ks ≤ i) × Idle v r h w m o × (ls ≡ ks))
  Serves c v ks (Sweep i) r h w ls m o = (ls ≡ ks) × ((a : Result ℕ VectorRefusal) × Meets c v (swept i a) r h w m o)
  Serves c v ks (Add x y) r h w ls m o = (ls ≡ ks) × ((a : Result ℕ AddRefusal) × Meets c v (added x y a) r h w m o)
  Serves c v ks (Merge i j) r h w ls m o = (ls ≡ ks) × ((a : Result (Unit {0}) MergeRefusal) × Meets c v (merged i j a) r h w m o)

  -- the first n requests were served in turn, and these are the replies; the solver held m before them all and holds o after
  abbrev pub Served : Netlist → View → List KnownTicket → List Request → ℕ → List Reply → History → View → List KnownTicket → Model → Model → Type 0
  Served c v ks qs zero rs h w ls m o = (rs ≡ []) × (h ≡ []) × (w ≡ v) × (ls ≡ ks) × (o ≡ m)
  Served c v ks qs (suc n) rs h w ls m o =
      (earlier : List Reply) × (past : History) × (u : View) × (ms : List KnownTicket) × (x : Model) × Served c v ks qs n earlier past u ms m x
      × ((r : Reply) × (call : History) × Serves c u ms (slice_index_or qs n (Take 0)) r call w ls x o × (rs ≡ earlier ++ (r ∷ [])) × (h ≡ call ++ past))

-- one request was served, whoever gave the tickets
pub record One (way : Way) (c : Netlist) (v : View) (ts : List Ticket) (q : Request) (r : Reply) (w : View) (us : List Ticket) (m o : Model) : Type 0 where
  pub serves : (ks : List KnownTicket) → Known ks ts → (h : History) × (ls : List KnownTicket) × (Known ls us × Serves way c v ks q r h w ls m o)

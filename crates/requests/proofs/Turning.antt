-- Requests served in turn keep the law.
use Rattle.std.proofs.Common.{◌≡◌, ℕ, zero, suc, ◌+◌, ◌<◌, ◌≤◌, Bool, true, false, cond, List, [], ◌∷◌, ◌++◌, length, get_or, is_ok, Ok, Err, Result, sym, refl, ap, ◌∙◌, subst, ⊎_elim, add-one, arith, length-append}
use Rattle.std.specs.List.{remove}
use Rattle.std.proofs.lemmas.List.{get_or_default}
use Rattle.card.specs.Netlists.{Lawful, Netlist}
use Rattle.solving.specs.Models.{Model}
use Rattle.solving.specs.declared.verdict.Solved.{Solved}
use Rattle.history.specs.Histories.{History, OnlyOwn, Run}
use Rattle.history.specs.Promises.{Reached}
use Rattle.history.specs.Steps.{Event, KnownTicket, added, closed, merged, searched, swept, took}
use Rattle.history.specs.Views.{View, new_view}
use Rattle.history.specs.declared.refusal.CloseRefusal.{CloseRefusal}
use Rattle.history.specs.declared.refusal.SearchRefusal.{SearchRefusal}
use Rattle.history.proofs.Promised.{law, run_keeps}
use Rattle.history.proofs.Reaching.{reached_stands, run_append}
use Rattle.job.specs.declared.ticket.Ticket.{Ticket}
use Rattle.requests.specs.Running.{AllOwn, NoAnswer, NoAnswers, Runs}
use Rattle.requests.specs.Serving.{Idle, Known, Meets, One, Served, Serves, Way, at, mine}
use Rattle.requests.specs.declared.reply.Reply.{Reply}
use Rattle.requests.specs.declared.request.Request.{Request}
use Rattle.requests.specs.declared.request.Request.TheVariants.{Take, Search, Close, Sweep, Add, Merge}

-- ---- the loop

-- the first n requests were served
pub record SoFar (way : Way) (c : Netlist) (v : View) (ts : List Ticket) (qs : List Request) (n : ℕ) (rs : List Reply) (w : View) (us : List Ticket) (m o : Model) : Type 0 where
  pub served : (ks : List KnownTicket) → Known ks ts → (h : History) × (ls : List KnownTicket) × (Known ls us × Served way c v ks qs n rs h w ls m o)

pub none_yet : (way : Way) (c : Netlist) (v : View) (ts us : List Ticket) (m : Model) (qs : List Request) (rs : List Reply) → us ≡ ts → rs ≡ [] → SoFar way c v ts qs 0 rs v us m m
none_yet way c v ts us m qs rs same none = record { served = λ ks known. ([], ks, (subst (Known ks) (sym same) known, (none, refl, refl, refl, refl))) }

pub one_more : (way : Way) (c d : Netlist) (v u w : View) (ts us xs : List Ticket) (m x o : Model) (qs : List Request) (n : ℕ) (rs ps : List Reply) (q : Request) (r : Reply) → d ≡ c → n < length qs → q ≡ get_or qs n q
    → ps ≡ rs ++ (r ∷ []) → SoFar way c v ts qs n rs u us m x → One way d u us q r w xs x o → SoFar way c v ts qs (n + 1) ps w xs m o
one_more way c d v u w ts us xs m x o qs n rs ps q r card lt is push before one = record {
  served = λ ks known.
      let (past, ms, (mknown, old)) = before.served ks known in
      let (call, ls, (lknown, serves)) = one.serves ms mknown in
      let same : q ≡ get_or qs n (Take 0) = is ∙ get_or_default qs n q (Take 0) lt in
      let here : Serves way c u ms (get_or qs n (Take 0)) r call w ls x o = subst (λ (k : Request). Serves way c u ms k r call w ls x o) same (subst (λ (k : Netlist). Serves way k u ms q r call w ls x o) card serves) in
      (call ++ past, ls, (lknown, rw add-one (rs, past, u, ms, x, old, (r, call, here, push, refl))));
}

-- ---- each request is at most one call

meets_run : (way : Way) (c : Netlist) (v : View) (e : Event) (r : Reply) (h : History) (w : View) (m o : Model) → Meets way c v e r h w m o → Run c v h w
meets_run way c v e r h w m o (is, _, step, _) = subst (λ (k : History). Run c v k w) (sym is) (v, refl, step)

idle_run : (c : Netlist) (v : View) (r : Reply) (h : History) (w : View) (m o : Model) → Idle v r h w m o → Run c v h w
idle_run c v r h w m o (is, _, same, _) = subst (λ (k : History). Run c v k w) (sym is) same

serves_run : (way : Way) (c : Netlist) (v : View) (ks : List KnownTicket) (q : Request) (r : Reply) (h : History) (w : View) (ls : List KnownTicket) (m o : Model) → Serves way c v ks q r h w ls m o → Run c v h w
serves_run way c v ks (Take f) r h w ls m o (a, meets, _) = meets_run way c v (took f a) r h w m o meets
serves_run way c v ks (Search i b) r h w ls m o (_, how) =
    ⊎_elim
    (λ (p : (i < length ks) × ((a : Result Solved SearchRefusal) × Meets way c v (searched (at ks i) b a) r h w m o)). meets_run way c v (searched (at ks i) b p.1.0) r h w m o p.1.1)
    (λ (p : (length ks ≤ i) × Idle v r h w m o). idle_run c v r h w m o p.1)
    how
serves_run way c v ks (Close i) r h w ls m o how =
    ⊎_elim
    (λ (p : (i < length ks) × ((a : Result (Unit {0}) CloseRefusal) × Meets way c v (closed (at ks i) a) r h w m o × (ls ≡ cond (is_ok a) (remove ks i) ks))). meets_run way c v (closed (at ks i) p.1.0) r h w m o p.1.1)
    (λ (p : (length ks ≤ i) × Idle v r h w m o × (ls ≡ ks)). idle_run c v r h w m o p.1)
    how
serves_run way c v ks (Sweep i) r h w ls m o (_, (a, meets)) = meets_run way c v _ r h w m o meets
serves_run way c v ks (Add x y) r h w ls m o (_, (a, meets)) = meets_run way c v _ r h w m o meets
serves_run way c v ks (Merge i j) r h w ls m o (_, (a, meets)) = meets_run way c v _ r h w m o meets

served_run : (way : Way) (c : Netlist) (v : View) (ks : List KnownTicket) (qs : List Request) (n : ℕ) (rs : List Reply) (h : History) (w : View) (ls : List KnownTicket) (m o : Model) → Served way c v ks qs n rs h w ls m o → Run c v h w
served_run way c v ks qs zero rs h w ls m o (_, is, same, _, _) = subst (λ (k : History). Run c v k w) (sym is) same
served_run way c v ks qs (suc n) rs h w ls m o (earlier, past, u, ms, x, old, (r, call, serves, _, is)) =
    subst (λ (k : History). Run c v k w) (sym is) (run_append c v u w past call (served_run way c v ks qs n earlier past u ms m x old) (serves_run way c u ms (get_or qs n (Take 0)) r call w ls x o serves))

pub served_long : (way : Way) (c : Netlist) (v : View) (ks : List KnownTicket) (qs : List Request) (n : ℕ) (rs : List Reply) (h : History) (w : View) (ls : List KnownTicket) (m o : Model) → Served way c v ks qs n rs h w ls m o → length rs ≡ n
served_long way c v ks qs zero rs h w ls m o (none, _, _, _, _) = ap length none
served_long way c v ks qs (suc n) rs h w ls m o (earlier, past, u, ms, x, old, (r, call, serves, push, _)) =
    let before = served_long way c v ks qs n earlier past u ms m x old in
    ap length push ∙ omega (arith, length-append earlier (r ∷ []), before)

-- ---- own tickets

own_append : (newer older : History) → OnlyOwn newer → OnlyOwn older → OnlyOwn (newer ++ older)
own_append [] older a b = b
own_append (e ∷ newer) older (o, a) b = (o, own_append newer older a b)

all_append : (ks ls : List KnownTicket) → AllOwn ks → AllOwn ls → AllOwn (ks ++ ls)
all_append [] ls a b = b
all_append (k ∷ ks) ls (o, a) b = (o, all_append ks ls a b)

all_at : (ks : List KnownTicket) (i : ℕ) → AllOwn ks → (at ks i).own ≡ true
all_at [] i a = refl
all_at (k ∷ ks) zero (o, a) = o
all_at (k ∷ ks) (suc i) (o, a) = all_at ks i a

all_removed : (ks : List KnownTicket) (i : ℕ) → AllOwn ks → AllOwn (remove ks i)
all_removed [] zero a = tt
all_removed [] (suc i) a = tt
all_removed (k ∷ ks) zero (o, a) = a
all_removed (k ∷ ks) (suc i) (o, a) = (o, all_removed ks i a)

all_cond : (b : Bool) (ks ls : List KnownTicket) → AllOwn ks → AllOwn ls → AllOwn (cond b ks ls)
all_cond true ks ls a z = a
all_cond false ks ls a z = z

abbrev Both : History → List KnownTicket → Type 0
Both h ls = OnlyOwn h × AllOwn ls

move : (h k : History) (ls ms : List KnownTicket) → h ≡ k → ls ≡ ms → Both k ms → Both h ls
move h k ls ms e f (a, b) = (subst OnlyOwn (sym e) a, subst AllOwn (sym f) b)

serves_own : (way : Way) (c : Netlist) (v : View) (ks : List KnownTicket) (q : Request) (r : Reply) (h : History) (w : View) (ls : List KnownTicket) (m o : Model) → Serves way c v ks q r h w ls m o → AllOwn ks → Both h ls
serves_own way c v ks (Take f) r h w ls m o (a, (is, _, _, _), same) all = move h _ ls _ is same ((tt, tt), all_cond (is_ok a) (ks ++ (mine f ∷ [])) ks (all_append ks (mine f ∷ []) all (refl, tt)) all)
serves_own way c v ks (Search i b) r h w ls m o (same, how) all =
    ⊎_elim
    (λ (p : (i < length ks) × ((a : Result Solved SearchRefusal) × Meets way c v (searched (at ks i) b a) r h w m o)). move h _ ls _ p.1.1.0 same ((all_at ks i all, tt), all))
    (λ (p : (length ks ≤ i) × Idle v r h w m o). move h _ ls _ p.1.0 same (tt, all))
    how
serves_own way c v ks (Close i) r h w ls m o how all =
    ⊎_elim
    (λ (p : (i < length ks) × ((a : Result (Unit {0}) CloseRefusal) × Meets way c v (closed (at ks i) a) r h w m o × (ls ≡ cond (is_ok a) (remove ks i) ks))).
    move h _ ls _ p.1.1.0 p.1.2 ((all_at ks i all, tt), all_cond (is_ok p.1.0) (remove ks i) ks (all_removed ks i all) all))
    (λ (p : (length ks ≤ i) × Idle v r h w m o × (ls ≡ ks)). move h _ ls _ p.1.0 p.2 (tt, all))
    how
serves_own way c v ks (Sweep i) r h w ls m o (same, (a, (is, _, _, _))) all = move h _ ls _ is same ((tt, tt), all)
serves_own way c v ks (Add x y) r h w ls m o (same, (a, (is, _, _, _))) all = move h _ ls _ is same ((tt, tt), all)
serves_own way c v ks (Merge i j) r h w ls m o (same, (a, (is, _, _, _))) all = move h _ ls _ is same ((tt, tt), all)

served_own : (way : Way) (c : Netlist) (v : View) (ks : List KnownTicket) (qs : List Request) (n : ℕ) (rs : List Reply) (h : History) (w : View) (ls : List KnownTicket) (m o : Model) → Served way c v ks qs n rs h w ls m o → AllOwn ks → Both h ls
served_own way c v ks qs zero rs h w ls m o (_, is, _, same, _) all = move h _ ls _ is same (tt, all)
served_own way c v ks qs (suc n) rs h w ls m o (earlier, past, u, ms, x, old, (r, call, serves, _, is)) all =
    let (earlier_own, b) = served_own way c v ks qs n earlier past u ms m x old all in
    let (p, d) = serves_own way c u ms (get_or qs n (Take 0)) r call w ls x o serves b in
    (subst OnlyOwn (sym is) (own_append call past p earlier_own), d)

-- ---- the solver

meets_still : (way : Way) (c : Netlist) (v : View) (e : Event) (r : Reply) (h : History) (w : View) (m o : Model) → Meets way c v e r h w m o → NoAnswer r → o ≡ m
meets_still way c v (took f a) r h w m o meets none = meets.3
meets_still way c v (searched t b (Ok s)) r h w m o (_, is, _, _) none = absurd (subst NoAnswer is none)
meets_still way c v (searched t b (Err e)) r h w m o meets none = meets.3
meets_still way c v (closed t a) r h w m o meets none = meets.3
meets_still way c v (swept i a) r h w m o meets none = meets.3
meets_still way c v (added x y a) r h w m o meets none = meets.3
meets_still way c v (merged i j a) r h w m o meets none = meets.3

serves_still : (way : Way) (c : Netlist) (v : View) (ks : List KnownTicket) (q : Request) (r : Reply) (h : History) (w : View) (ls : List KnownTicket) (m o : Model) → Serves way c v ks q r h w ls m o → NoAnswer r → o ≡ m
serves_still way c v ks (Take f) r h w ls m o (a, meets, _) none = meets_still way c v (took f a) r h w m o meets none
serves_still way c v ks (Search i b) r h w ls m o (_, how) none =
    ⊎_elim
    (λ (p : (i < length ks) × ((a : Result Solved SearchRefusal) × Meets way c v (searched (at ks i) b a) r h w m o)). meets_still way c v (searched (at ks i) b p.1.0) r h w m o p.1.1 none)
    (λ (p : (length ks ≤ i) × Idle v r h w m o). p.1.3)
    how
serves_still way c v ks (Close i) r h w ls m o how none =
    ⊎_elim
    (λ (p : (i < length ks) × ((a : Result (Unit {0}) CloseRefusal) × Meets way c v (closed (at ks i) a) r h w m o × (ls ≡ cond (is_ok a) (remove ks i) ks))). meets_still way c v (closed (at ks i) p.1.0) r h w m o p.1.1 none)
    (λ (p : (length ks ≤ i) × Idle v r h w m o × (ls ≡ ks)). p.1.3)
    how
serves_still way c v ks (Sweep i) r h w ls m o (_, (a, meets)) none = meets_still way c v (swept i a) r h w m o meets none
serves_still way c v ks (Add x y) r h w ls m o (_, (a, meets)) none = meets_still way c v (added x y a) r h w m o meets none
serves_still way c v ks (Merge i j) r h w ls m o (_, (a, meets)) none = meets_still way c v (merged i j a) r h w m o meets none

none_before : (rs : List Reply) (r : Reply) → NoAnswers (rs ++ (r ∷ [])) → NoAnswers rs × NoAnswer r
none_before [] r (none, _) = (tt, none)
none_before (p ∷ rs) r (none, rest) = let (before, last) = none_before rs r rest in ((none, before), last)

served_still : (way : Way) (c : Netlist) (v : View) (ks : List KnownTicket) (qs : List Request) (n : ℕ) (rs : List Reply) (h : History) (w : View) (ls : List KnownTicket) (m o : Model) → Served way c v ks qs n rs h w ls m o → NoAnswers rs → o ≡ m
served_still way c v ks qs zero rs h w ls m o (_, _, _, _, same) none = same
served_still way c v ks qs (suc n) rs h w ls m o (earlier, past, u, ms, x, old, (r, call, serves, push, _)) none =
    let (before, last) = none_before earlier r (subst NoAnswers push none) in
    serves_still way c u ms (get_or qs n (Take 0)) r call w ls x o serves last ∙ served_still way c v ks qs n earlier past u ms m x old before

-- ---- the whole run

-- what is known of any tickets
anyones : (ts : List Ticket) → (ks : List KnownTicket) × Known ks ts
anyones [] = ([], refl)
anyones (t ∷ ts) = let (ks, is) = anyones ts in (mine t.fault ∷ ks, ap (λ (ns : List ℕ). t.fault ∷ ns) is)

pub all_served : (way : Way) (c : Netlist) (v w : View) (ts us : List Ticket) (m o : Model) (qs : List Request) (n : ℕ) (rs : List Reply) → Lawful c → n ≡ length qs → SoFar way c v ts qs n rs w us m o → Reached c w → Runs way c v ts qs rs w us m o
all_served way c v w ts us m o qs n rs lawful all so reached =
    let done : SoFar way c v ts qs (length qs) rs w us m o = subst (λ (k : ℕ). SoFar way c v ts qs k rs w us m o) all so in
    let (ks, known) = anyones ts in
    let (h, ls, (_, served)) = done.served ks known in
    record {
      every_request_has_its_reply = served_long way c v ks qs (length qs) rs h w ls m o served;
      each_request_was_served_in_turn = done.served;
      whatever_history_led_here_is_extended = λ past leads ms mknown.
          let (k, os, (oknown, turns)) = done.served ms mknown in
          let run = served_run way c v ms qs (length qs) rs k w os m o turns in
          let there = run_append c (new_view c) v w past k leads run in
          record {
            calls = k;
            tickets = os;
            are_the_wallets_tickets = oknown;
            each_request_was_served_in_turn = turns;
            leads_there = there;
            the_promise_holds_after_all_calls = (law c lawful (k ++ past) w there).0;
            only_own_tickets_stay_so = λ own a. let (p, b) = served_own way c v ms qs (length qs) rs k w os m o turns a in (own_append k past p own, b);
          };
      without_a_granted_search_the_solver_stays = served_still way c v ks qs (length qs) rs h w ls m o served;
      no_verdict_is_lost = run_keeps c v h w (served_run way c v ks qs (length qs) rs h w ls m o served);
      some_history_led_here_and_the_promise_holds = reached_stands c w lawful reached;
      the_same_holds_of_every_history = law c lawful;
    }

-- A request served by the job leaves each taken fault its one ticket.
use Rattle.std.proofs.Common.{◌≡◌, ℕ, zero, suc, ◌+◌, ◌<◌, ◌≤◌, Bool, true, false, cond, eqb, List, [], ◌∷◌, ◌++◌, map, length, get_or, set, is_ok, IfOk, IfErr, Ok, Err, Some, None, Option, MatchOption, count_by, Result, sym, refl, ap, ◌∙◌, subst, ⊎_elim, arith, get_or-set_other, get_or-set_same}
use mathlib.Core.HLevel.{hedberg, Π_prop}
use mathlib.Core.Logic.{∥∥₁_elim}
use native.Mathlib.Decide.{ℕ_discrete}
use lib.ListN.{length-map, get_or-map}
use Rattle.std.specs.List.{AllWithin, HoldsAt, remove}
use Rattle.std.proofs.lemmas.List.{map-append}
use Rattle.std.proofs.lemmas.List.Sums.{sum_by_push}
use Rattle.std.proofs.lemmas.Bool.{cases_eq, eq-eqb, ne_eqb}
use Rattle.card.specs.Netlists.{Netlist}
use Rattle.faults.specs.Sites.{fault_count}
use Rattle.solving.specs.Models.{Model}
use Rattle.solving.specs.declared.verdict.Solved.{Solved}
use Rattle.asking.specs.Findings.{Finding, shown, untestable, unknown}
use Rattle.history.specs.Changing.{entering}
use Rattle.history.specs.Histories.{History, LeadsTo}
use Rattle.history.specs.Promises.{Reached}
use Rattle.history.specs.Steps.{KnownTicket, Step, closed, searched, took}
use Rattle.history.specs.Views.{View, is_taken}
use Rattle.history.specs.declared.refusal.CloseRefusal.{CloseRefusal}
use Rattle.history.specs.declared.refusal.SearchRefusal.{SearchRefusal}
use Rattle.history.specs.declared.refusal.TakeRefusal.{TakeRefusal}
use Rattle.history.proofs.Granted.{close_able, taken_able}
use Rattle.history.proofs.Tickets.{count_cons, taken_within}
use Rattle.job.specs.Jobs.{card_held, held}
use Rattle.job.specs.declared.job.Job.{Job}
use Rattle.job.specs.declared.ticket.Ticket.{Ticket}
use Rattle.job.proofs.Tabled.{all_flagged}
use Rattle.requests.specs.Running.{Runs}
use Rattle.requests.specs.Serving.{Idle, Known, Meets, Serves, Way, at, mine}
use Rattle.requests.specs.declared.reply.Reply.{Reply}
use Rattle.requests.specs.declared.request.Request.{Request}
use Rattle.requests.specs.declared.request.Request.TheVariants.{Take, Search, Close, Sweep, Add, Merge}
use Rattle.desk.specs.Keeping.{IsFor, Kept, faults_of}

abbrev bit : Bool → ℕ
bit b = cond b 1 0

-- how many of the numbers are f
abbrev many : ℕ → List ℕ → ℕ
many f ns = count_by (λ (n : ℕ). eqb n f) ns

-- each fault that is flagged stands once among the numbers, and no other
abbrev Matches : List Bool → List ℕ → Type 0
Matches flags ns = (f : ℕ) → many f ns ≡ bit (get_or flags f false)

matches_took : (flags : List Bool) (ns : List ℕ) (g : ℕ) → g < length flags → get_or flags g false ≡ false → Matches flags ns → Matches (set flags g true) (ns ++ (g ∷ []))
matches_took flags ns g fits free m f =
    let more : many f (ns ++ (g ∷ [])) ≡ many f ns + bit (eqb g f) = sum_by_push (λ (n : ℕ). bit (eqb n f)) ns g in
    ⊎_elim
    (λ (q : g ≡ f).
    let one : bit (eqb g f) ≡ 1 = ap bit (eq-eqb g f q) in
    let was : bit (get_or flags f false) ≡ 0 = subst (λ (k : ℕ). bit (get_or flags k false) ≡ 0) q (ap bit free) in
    let is : bit (get_or (set flags g true) f false) ≡ 1 = ap bit (subst (λ (k : ℕ). get_or (set flags g true) k false ≡ true) q (get_or-set_same flags g true false fits)) in
    omega (arith, m f, more, one, was, is))
    (λ (q : g ≡ f → ⊥).
    let none : bit (eqb g f) ≡ 0 = ap bit (ne_eqb g f q) in
    let is : bit (get_or (set flags g true) f false) ≡ bit (get_or flags f false) = ap bit (get_or-set_other flags g f true false (λ k. q (sym k))) in
    omega (arith, m f, more, none, is))
    (cases_eq g f)

matches_closed : (flags : List Bool) (ns rest : List ℕ) (g : ℕ) → get_or flags g false ≡ true → ((f : ℕ) → many f rest + bit (eqb g f) ≡ many f ns) → Matches flags ns → Matches (set flags g false) rest
matches_closed flags ns rest g flagged less m f =
    let fits : g < length flags = taken_within flags g flagged in
    ⊎_elim
    (λ (q : g ≡ f).
    let one : bit (eqb g f) ≡ 1 = ap bit (eq-eqb g f q) in
    let was : bit (get_or flags f false) ≡ 1 = subst (λ (k : ℕ). bit (get_or flags k false) ≡ 1) q (ap bit flagged) in
    let is : bit (get_or (set flags g false) f false) ≡ 0 = ap bit (subst (λ (k : ℕ). get_or (set flags g false) k false ≡ false) q (get_or-set_same flags g false false fits)) in
    omega (arith, m f, less f, one, was, is))
    (λ (q : g ≡ f → ⊥).
    let none : bit (eqb g f) ≡ 0 = ap bit (ne_eqb g f q) in
    let is : bit (get_or (set flags g false) f false) ≡ bit (get_or flags f false) = ap bit (get_or-set_other flags g f false false (λ k. q (sym k))) in
    omega (arith, m f, less f, none, is))
    (cases_eq g f)

-- ---- what a request leaves

abbrev known_faults : List KnownTicket → List ℕ
known_faults ks = map (λ (k : KnownTicket). k.fault) ks

many_removed : (ks : List KnownTicket) (i f : ℕ) → i < length ks → many f (known_faults (remove ks i)) + bit (eqb (at ks i).fault f) ≡ many f (known_faults ks)
many_removed [] i f lt = absurd (omega arith)
many_removed (k ∷ ks) zero f lt = omega (arith, count_cons (λ (n : ℕ). eqb n f) k.fault (known_faults ks))
many_removed (k ∷ ks) (suc i) f lt =
    omega (arith, many_removed ks i f (omega arith), count_cons (λ (n : ℕ). eqb n f) k.fault (known_faults ks), count_cons (λ (n : ℕ). eqb n f) k.fault (known_faults (remove ks i)))

-- the faults that a view and known tickets agree on
abbrev Agree : View → List KnownTicket → Type 0
Agree v ks = Matches v.taken (known_faults ks)

agree_moved : (v w : View) (ks ls : List KnownTicket) → w.taken ≡ v.taken → ls ≡ ks → Agree v ks → Agree w ls
agree_moved v w ks ls still same m = subst (λ (ts : List Bool). Matches ts (known_faults ls)) (sym still) (subst (Agree v) (sym same) m)

cond_still : (b : Bool) (x v : View) → x.taken ≡ v.taken → (cond b x v).taken ≡ v.taken
cond_still true x v e = e
cond_still false x v e = refl

entering_still : (v : View) (f : ℕ) (x : Finding) → (entering v f x).taken ≡ v.taken
entering_still v f (shown x) = refl
entering_still v f untestable = refl
entering_still v f unknown = refl

searched_still : (c : Netlist) (v w : View) (t : KnownTicket) (b : ℕ) (a : Result Solved SearchRefusal) → Step c v (searched t b a) w → w.taken ≡ v.taken
searched_still c v w t b (Ok s) (_, (n, done)) = ap (λ (x : View). x.taken) done.enters ∙ entering_still v t.fault done.found
searched_still c v w t b (Err e) (_, is) = ap (λ (x : View). x.taken) is

took_agree : (c : Netlist) (v w : View) (ks ls : List KnownTicket) (f : ℕ) (a : Result (Unit {0}) TakeRefusal) → length v.taken ≡ fault_count c
    → Step c v (took f a) w → ls ≡ cond (is_ok a) (ks ++ (mine f ∷ [])) ks → Agree v ks → Agree w ls
took_agree c v w ks ls f (Ok u) long (granted, to) same m =
    let t = taken_able c v f u (sym granted) in
    let grown : known_faults ls ≡ known_faults ks ++ (f ∷ []) = ap known_faults same ∙ map-append (λ (k : KnownTicket). k.fault) ks (mine f ∷ []) in
    subst (Matches w.taken) (sym grown)
    (subst (λ (ts : List Bool). Matches ts (known_faults ks ++ (f ∷ []))) (sym (ap (λ (x : View). x.taken) to)) (matches_took v.taken (known_faults ks) f (omega (arith, long, t.a_fault)) t.free m))
took_agree c v w ks ls f (Err e) long (_, to) same m = agree_moved v w ks ls (ap (λ (x : View). x.taken) to) same m

closed_agree : (c : Netlist) (v w : View) (ks ls : List KnownTicket) (i : ℕ) (a : Result (Unit {0}) CloseRefusal) → i < length ks
    → Step c v (closed (at ks i) a) w → ls ≡ cond (is_ok a) (remove ks i) ks → Agree v ks → Agree w ls
closed_agree c v w ks ls i (Ok u) lt (granted, to) same m =
    subst (Agree w) (sym same)
    (subst (λ (ts : List Bool). Matches ts (known_faults (remove ks i))) (sym (ap (λ (x : View). x.taken) to))
    (matches_closed v.taken (known_faults ks) (known_faults (remove ks i)) (at ks i).fault (close_able v (at ks i).fault u (sym granted)) (λ f. many_removed ks i f lt) m))
closed_agree c v w ks ls i (Err e) lt (_, to) same m = agree_moved v w ks ls (ap (λ (x : View). x.taken) to) same m

serves_agree : (way : Way) (c : Netlist) (v : View) (ks : List KnownTicket) (q : Request) (r : Reply) (h : History) (w : View) (ls : List KnownTicket) (m o : Model) → length v.taken ≡ fault_count c → Serves way c v ks q r h w ls m o → Agree v ks → Agree w ls
serves_agree way c v ks (Take f) r h w ls m o long (a, (_, _, step, _), same) agree = took_agree c v w ks ls f a long step same agree
serves_agree way c v ks (Search i b) r h w ls m o long (same, how) agree =
    ⊎_elim
    (λ (p : (i < length ks) × ((a : Result Solved SearchRefusal) × Meets way c v (searched (at ks i) b a) r h w m o)). agree_moved v w ks ls (searched_still c v w (at ks i) b p.1.0 p.1.1.2) same agree)
    (λ (p : (length ks ≤ i) × Idle v r h w m o). agree_moved v w ks ls (ap (λ (x : View). x.taken) p.1.2) same agree)
    how
serves_agree way c v ks (Close i) r h w ls m o long how agree =
    ⊎_elim
    (λ (p : (i < length ks) × ((a : Result (Unit {0}) CloseRefusal) × Meets way c v (closed (at ks i) a) r h w m o × (ls ≡ cond (is_ok a) (remove ks i) ks))). closed_agree c v w ks ls i p.1.0 p.0 p.1.1.2 p.1.2 agree)
    (λ (p : (length ks ≤ i) × Idle v r h w m o × (ls ≡ ks)). agree_moved v w ks ls (ap (λ (x : View). x.taken) p.1.2) p.2 agree)
    how
serves_agree way c v ks (Sweep i) r h w ls m o long (same, (a, (_, _, (_, to), _))) agree = agree_moved v w ks ls (ap (λ (x : View). x.taken) to ∙ cond_still (is_ok a) _ v refl) same agree
serves_agree way c v ks (Add x y) r h w ls m o long (same, (a, (_, _, (_, to), _))) agree = agree_moved v w ks ls (ap (λ (z : View). z.taken) to ∙ cond_still (is_ok a) _ v refl) same agree
serves_agree way c v ks (Merge i j) r h w ls m o long (same, (a, (_, _, (_, to), _))) agree = agree_moved v w ks ls (ap (λ (x : View). x.taken) to ∙ cond_still (is_ok a) _ v refl) same agree

-- ---- one request

-- tickets as a history knows them
abbrev noted : List Ticket → List KnownTicket
noted [] = []
noted (t ∷ ts) = mine t.fault ∷ noted ts

noted_known : (ts : List Ticket) → Known (noted ts) ts
noted_known [] = refl
noted_known (t ∷ ts) = ap (λ (ns : List ℕ). t.fault ∷ ns) (noted_known ts)

pub one_kept : (way : Way) (c : Netlist) (v w : View) (ts us : List Ticket) (q : Request) (rs : List Reply) (m o : Model) → length v.taken ≡ fault_count c → Reached c v → Runs way c v ts (q ∷ []) rs w us m o → Kept v ts → Kept w us
one_kept way c v w ts us q rs m o long reached runs kept =
    ∥∥₁_elim reached (Π_prop (λ f. hedberg ℕ_discrete _ _)) (λ (past : (h : History) × LeadsTo c h v).
    let e = runs.whatever_history_led_here_is_extended past.0 past.1 (noted ts) (noted_known ts) in
    let (_, _, u, ms, x, (_, _, there, all, _), (r, call, serves, _, _)) = e.each_request_was_served_in_turn in
    let before : Agree v (noted ts) = subst (Matches v.taken) (sym (noted_known ts)) kept in
    let first : Agree u ms = agree_moved v u (noted ts) ms (ap (λ (x : View). x.taken) there) all before in
    let after : Agree w e.tickets = serves_agree way c u ms q r call w e.tickets x o (ap (λ (x : View). length x.taken) there ∙ long) serves first in
    subst (Matches w.taken) e.are_the_wallets_tickets after)

-- every fault of a job has a flag
flags_long : (j : Job) → length (held j).taken ≡ fault_count (card_held j)
flags_long j = all_flagged j.table

-- a run of one request, or one that was not begun for want of room
pub run_kept : {V E : Type 0} (way : Way) (replies : V → List Reply) (j k : Job) (ts us : List Ticket) (q : Request) (r : Result V E) (m o : Model) → IfOk r (λ (x : V). Runs way (card_held j) (held j) ts (q ∷ []) (replies x) (held k) us m o)
    → IfErr r (λ _. k ≡ j) → IfErr r (λ _. us ≡ ts) → Kept (held j) ts → Kept (held k) us
run_kept way replies j k ts us q (Ok x) m o runs _ _ kept = one_kept way (card_held j) (held j) (held k) ts us q (replies x) m o (flags_long j) j.reached runs kept
run_kept way replies j k ts us q (Err e) m o _ same still kept = subst (Kept (held k)) (sym still) (subst (λ (i : Job). Kept (held i) ts) (sym same) kept)

-- ---- the ends

flagged : (b : Bool) (n : ℕ) → n + 1 ≡ bit b → b ≡ true
flagged true n e = refl
flagged false n e = absurd (omega arith)

unflagged : (b : Bool) → 0 ≡ bit b → b ≡ false
unflagged true e = absurd (omega arith)
unflagged false e = refl

pub none_taken : (v : View) (ts : List Ticket) → length ts ≡ 0 → Kept v ts → (f : ℕ) → is_taken v f ≡ false
none_taken v [] e kept f = unflagged (is_taken v f) (kept f)
none_taken v (t ∷ ts) e kept f = absurd (omega arith)

-- ---- looking for a ticket

abbrev fault_of : Ticket → ℕ
fault_of t = t.fault

abbrev zeroth : Ticket
zeroth = record { fault = 0 }

none_many : (f : ℕ) (ns : List ℕ) → ((i : ℕ) → i < length ns → eqb (get_or ns i 0) f ≡ false) → many f ns ≡ 0
none_many f [] none = refl
none_many f (n ∷ ns) none =
    let z : bit (eqb n f) ≡ 0 = ap bit (none 0 (omega arith)) in
    omega (arith, count_cons (λ (k : ℕ). eqb k f) n ns, z, none_many f ns (λ i lt. none (suc i) (omega arith)))

-- a ticket is for this fault, or for another
abbrev pub For : ℕ → Ticket → Type 0
For f t = t.fault ≡ f

abbrev pub NotFor : ℕ → Ticket → Type 0
NotFor f t = eqb t.fault f ≡ false

-- the place of the first ticket for the fault; where there is none, the fault is not taken
pub place_found : (v : View) (f : ℕ) (ts : List Ticket) (r : Option ℕ) → Kept v ts → MatchOption r (AllWithin (NotFor f) ts 0 (length ts)) (λ (i : ℕ). (i < length ts) × HoldsAt (For f) ts i × AllWithin (NotFor f) ts 0 i)
    → MatchOption r (is_taken v f ≡ false) (λ (i : ℕ). IsFor f ts i)
place_found v f ts None kept none =
    unflagged (is_taken v f)
    (sym (none_many f (faults_of ts) (λ i lt. ap (λ (k : ℕ). eqb k f) (get_or-map fault_of ts i zeroth) ∙ none i zeroth (omega arith) (omega (arith, lt, length-map ts fault_of)))) ∙ kept f)
place_found v f ts (Some i) kept (lt, is, _) = (lt, get_or-map fault_of ts i zeroth ∙ is zeroth)

-- The work on one fault: what each call of the job does comes to the definition.
use Rattle.std.proofs.Common.{◌≡◌, ℕ, zero, suc, ◌+◌, ◌<◌, ◌≤◌, Bool, true, false, cond, ltb, List, length, get_or, set, is_ok, IfOk, Some, Ok, Err, Result, sym, refl, ap, ◌∙◌, subst, ⊎_elim, add-one, arith, length-set, get_or-set_other, get_or-set_same}
use Rattle.std.proofs.lemmas.List.{get_or_past}
use Rattle.std.proofs.lemmas.Bool.{cases_Bool, cases_eq, cases_lt, le-ltb, lt-ltb}
use Rattle.card.specs.Netlists.{Netlist}
use Rattle.signal.specs.declared.line.Stuck.{Stuck}
use Rattle.faults.specs.Sites.{fault_count, stuck_of}
use Rattle.solving.specs.Backtracking.{backtracked}
use Rattle.solving.specs.Models.{Model}
use Rattle.solving.specs.Trials.{verdict_of}
use Rattle.ways.specs.Ways.{ByBacktracking}
use Rattle.solving.specs.declared.verdict.Solved.{Solved}
use Rattle.formula.specs.Posing.{holds_formula}
use Rattle.asking.specs.Findings.{Finding, finding, shown, unknown, untestable}
use Rattle.history.specs.Changing.{closing, entering, sweeping, taking}
use Rattle.history.specs.Granting.{closes, searches, sweep_count, sweeps, takes}
use Rattle.history.specs.Views.{View, is_open, is_taken, mark, most, new_view}
use Rattle.history.specs.declared.refusal.SearchRefusal.{SearchRefusal}
use Rattle.history.specs.declared.refusal.SearchRefusal.TheVariants as seek
use Rattle.history.specs.declared.refusal.CloseRefusal.TheVariants as close
use Rattle.history.specs.declared.refusal.VectorRefusal.{VectorRefusal}
use Rattle.history.specs.declared.refusal.VectorRefusal.TheVariants as vector
use Rattle.history.proofs.Granted.{Takable, search_able, taken_able}
use Rattle.history.proofs.Tickets.{get_d_new}
use Rattle.job.specs.Tables.{SearchAnswers, closed_with}
use Rattle.job.specs.declared.ticket.Back.{Back}
use Rattle.sheets.specs.Working.{NoneTaken, finding_from, finding_of_line, found, searching, sheet_budget, sheet_view, sweeping_new, worked_to, working}

refused_granted : {T E : Type 0} (e : E) (t : T) → Err e ≡ Ok t → ⊥
refused_granted e t q = let z : ◌≡◌ {A = ℕ} 0 1 = cc in omega arith

-- ---- the search

found_line : (c : Netlist) (f : ℕ) (s : Stuck) → stuck_of c f ≡ Some s → found c f ≡ finding_from c s (backtracked (holds_formula c s) sheet_budget)
unfolding found
found_line c f s e = ap (finding_of_line c) e

pub entering_taken : (v : View) (f : ℕ) (x : Finding) → (entering v f x).taken ≡ v.taken
entering_taken v f (shown y) = refl
entering_taken v f untestable = refl
entering_taken v f unknown = refl

-- backtracking's own answer is what is entered
backtracked_finding : (c : Netlist) (s : Stuck) (r : Solved) (n : Model) → ByBacktracking (holds_formula c s) sheet_budget r n
    → finding c s r.verdict n.reading ≡ finding_from c s (backtracked (holds_formula c s) sheet_budget)
backtracked_finding c s r n (e, q) =
    ap (λ (x : Solved). finding c s x.verdict n.reading) e ∙ ap (λ (m : Model). finding c s (verdict_of (backtracked (holds_formula c s) sheet_budget)) m.reading) q

module _ (c : Netlist) (v : View) (f : ℕ) (m n : Model) where
  -- a search of a taken, open fault is refused only where the list is full
  pub searched_is : (r : Result Solved SearchRefusal) (w : View) → is_taken v f ≡ true → is_open (mark v f) ≡ true → SearchAnswers c v f sheet_budget m r w n
      → IfOk r (λ solved. (s : Stuck) → stuck_of c f ≡ Some s → ByBacktracking (holds_formula c s) sheet_budget solved n) → w ≡ searching c v f
  searched_is (Ok solved) w held free (e, done) way =
      let room = (search_able v f tt e).room in
      let is : done.found ≡ found c f = done.asks.says ∙ backtracked_finding c done.stuck solved n (way done.stuck done.is_the_faults_line) ∙ sym (found_line c f done.stuck done.is_the_faults_line) in
      done.enters ∙ ap (entering v f) is ∙ ap (λ (b : Bool). cond b (entering v f (found c f)) v) (sym (lt-ltb (length v.vectors) most room))
  searched_is (Err why) w held free (e, is, _) way =
      ⊎_elim
      (λ (lt : length v.vectors < most).
      let granted : searches v f ≡ Ok tt = (λ i. cond (held i) (cond (free i) (cond (ltb (length v.vectors) most) (Ok tt) (Err seek.Full)) (Err seek.Decided)) (Err seek.NotTaken))
      ∙ ap (λ (b : Bool). cond b (Ok tt) (Err seek.Full)) (lt-ltb (length v.vectors) most lt) in
      absurd (refused_granted why tt (sym e ∙ granted)))
      (λ (le : most ≤ length v.vectors). is ∙ ap (λ (b : Bool). cond b (entering v f (found c f)) v) (sym (le-ltb (length v.vectors) most le)))
      (cases_lt (length v.vectors) most)

pub searching_taken : (c : Netlist) (v : View) (f : ℕ) → (searching c v f).taken ≡ v.taken
searching_taken c v f = ⊎_elim
    (λ (t : ltb (length v.vectors) most ≡ true). ap (λ (b : Bool). (cond b (entering v f (found c f)) v).taken) t ∙ entering_taken v f (found c f))
    (λ (t : ltb (length v.vectors) most ≡ false). ap (λ (b : Bool). (cond b (entering v f (found c f)) v).taken) t)
    (cases_Bool (ltb (length v.vectors) most))

-- ---- flags

pub taking_taken : (v : View) (f : ℕ) → f < length v.taken → is_taken (taking v f) f ≡ true
taking_taken v f lt = get_or-set_same v.taken f true false lt

sweeping_new_taken : (c : Netlist) (n : ℕ) (v : View) → (sweeping_new c n v).taken ≡ v.taken
sweeping_new_taken c n v = ⊎_elim
    (λ (t : ltb n (length v.vectors) ≡ true). ap (λ (b : Bool). (cond b (sweeping c v n) v).taken) t)
    (λ (t : ltb n (length v.vectors) ≡ false). ap (λ (b : Bool). (cond b (sweeping c v n) v).taken) t)
    (cases_Bool (ltb n (length v.vectors)))

-- the flag of the fault was set and is cleared, the others stay
cleared : (ts : List Bool) (f g : ℕ) → get_or ts g false ≡ false → get_or (set (set ts f true) f false) g false ≡ false
cleared ts f g e =
    ⊎_elim
    (λ (q : g ≡ f).
    ⊎_elim
    (λ (lt : f < length (set ts f true)). subst (λ (k : ℕ). get_or (set (set ts f true) f false) k false ≡ false) (sym q) (get_or-set_same (set ts f true) f false false lt))
    (λ (le : length (set ts f true) ≤ f). get_or_past (set (set ts f true) f false) g false (omega (arith, length-set (set ts f true) f false, le, q)))
    (cases_lt f (length (set ts f true))))
    (λ (ne : g ≡ f → ⊥). get_or-set_other (set ts f true) f g false false ne ∙ get_or-set_other ts f g true false ne ∙ e)
    (cases_eq g f)

pub none_taken_new : (c : Netlist) → NoneTaken (new_view c)
none_taken_new c f = get_d_new (fault_count c) f false

pub none_taken_worked : (c : Netlist) (v : View) (f : ℕ) → NoneTaken v → NoneTaken (working c v f)
none_taken_worked c v f none g =
    ⊎_elim
    (λ (t : is_open (mark v f) ≡ true).
    let w : View = closing (searching c (taking v f) f) f in
    let same : (working c v f).taken ≡ set (set v.taken f true) f false =
    ap (λ (b : Bool). (cond b (sweeping_new c (length v.vectors) w) v).taken) t ∙ sweeping_new_taken c (length v.vectors) w ∙ ap (λ (ts : List Bool). set ts f false) (searching_taken c (taking v f) f) in
    ap (λ (ts : List Bool). get_or ts g false) same ∙ cleared v.taken f g (none g))
    (λ (t : is_open (mark v f) ≡ false). ap (λ (b : Bool). is_taken (cond b (sweeping_new c (length v.vectors) (closing (searching c (taking v f) f) f)) v) g) t ∙ none g)
    (cases_Bool (is_open (mark v f)))

-- ---- one fault after another

pub worked_more : (c : Netlist) (n : ℕ) (v w : View) → v ≡ worked_to c n → w ≡ working c v n → w ≡ worked_to c (n + 1)
worked_more c n v w e q = q ∙ ap (λ (x : View). working c x n) e ∙ sym (ap (worked_to c) (add-one n))

pub worked_all : (c : Netlist) (n : ℕ) (v : View) → n ≡ fault_count c → v ≡ worked_to c n → v ≡ sheet_view c
unfolding sheet_view
worked_all c n v is e = e ∙ ap (worked_to c) is

pub none_taken_to : (c : Netlist) (n : ℕ) → NoneTaken (worked_to c n)
none_taken_to c zero = none_taken_new c
none_taken_to c (suc n) = none_taken_worked c (worked_to c n) n (none_taken_to c n)

-- ---- the calls of the work on one fault

-- a call that is granted
closed_granted : (r : Result (Unit {0}) Back) → closed_with r ≡ Ok tt → is_ok r ≡ true
closed_granted (Ok u) e = refl
closed_granted (Err b) e = absurd (refused_granted b.why tt e)

module _ (c : Netlist) (v : View) (f : ℕ) (took : Ok tt ≡ takes c v f) where
  able : Takable c v f
  able = taken_able c v f tt (sym took)

  undecided : is_open (mark v f) ≡ true
  undecided = ap is_open able.undecided

  pub after_close : (c1 c2 : Netlist) (v1 v2 v3 : View) (g : ℕ) (m n : Model) (r : Result Solved SearchRefusal) (s : Result (Unit {0}) Back) → f < length v.taken → v1 ≡ taking v f → c1 ≡ c → g ≡ f
      → SearchAnswers c1 v1 g sheet_budget m r v2 n → IfOk r (λ solved. (z : Stuck) → stuck_of c1 g ≡ Some z → ByBacktracking (holds_formula c1 z) sheet_budget solved n)
      → closed_with s ≡ closes v2 g → v3 ≡ cond (is_ok s) (closing v2 g) v2
      → v3 ≡ closing (searching c (taking v f) f) f
  after_close c1 c2 v1 v2 v3 g m n r s lt e1 card same answers way closes-is e3 =
      let answers-here : SearchAnswers c (taking v f) f sheet_budget m r v2 n =
      subst (λ (k : ℕ). SearchAnswers c (taking v f) k sheet_budget m r v2 n) same (subst (λ (u : View). SearchAnswers c u g sheet_budget m r v2 n) e1 (subst (λ (k : Netlist). SearchAnswers k v1 g sheet_budget m r v2 n) card answers)) in
      let way-here : IfOk r (λ solved. (z : Stuck) → stuck_of c f ≡ Some z → ByBacktracking (holds_formula c z) sheet_budget solved n) =
      subst (λ (k : ℕ). IfOk r (λ solved. (z : Stuck) → stuck_of c k ≡ Some z → ByBacktracking (holds_formula c z) sheet_budget solved n)) same
      (subst (λ (k : Netlist). IfOk r (λ solved. (z : Stuck) → stuck_of k g ≡ Some z → ByBacktracking (holds_formula k z) sheet_budget solved n)) card way) in
      let held : is_taken (taking v f) f ≡ true = taking_taken v f lt in
      let e2 : v2 ≡ searching c (taking v f) f = searched_is c (taking v f) f m n r v2 held undecided answers-here way-here in
      let still : is_taken v2 f ≡ true = ap (λ (u : View). is_taken u f) e2 ∙ ap (λ (ts : List Bool). get_or ts f false) (searching_taken c (taking v f) f) ∙ held in
      let granted : closed_with s ≡ Ok tt = closes-is ∙ ap (closes v2) same ∙ ap (λ (b : Bool). cond b (Ok tt) (Err close.NotTaken)) still in
      e3 ∙ ap (λ (b : Bool). cond b (closing v2 g) v2) (closed_granted s granted) ∙ ap (closing v2) same ∙ ap (λ (u : View). closing u f) e2

  module _ (v3 : View) (e3 : v3 ≡ closing (searching c (taking v f) f) f) (listed : ℕ) (is : listed ≡ length v.vectors) where
    worked_as : sweeping_new c listed v3 ≡ working c v f
    worked_as =
        ap (λ (n : ℕ). sweeping_new c n v3) is ∙ ap (sweeping_new c (length v.vectors)) e3
        ∙ ap (λ (b : Bool). cond b (sweeping_new c (length v.vectors) (closing (searching c (taking v f) f) f)) v) (sym undecided)

    pub swept_worked : (d : Netlist) (v4 : View) (r : Result ℕ VectorRefusal) → d ≡ c → listed < length v3.vectors → r ≡ sweeps d v3 listed → v4 ≡ cond (is_ok r) (sweeping d v3 listed) v3 → v4 ≡ working c v f
    swept_worked d v4 r card lt answer e4 =
        let fine : is_ok r ≡ true = ap is_ok (answer ∙ ap (λ (b : Bool). cond b (Ok (sweep_count d v3 listed)) (Err vector.NoSuchVector)) (lt-ltb listed (length v3.vectors) lt)) in
        e4 ∙ ap (λ (b : Bool). cond b (sweeping d v3 listed) v3) fine ∙ ap (λ (k : Netlist). sweeping k v3 listed) card
        ∙ ap (λ (b : Bool). cond b (sweeping c v3 listed) v3) (sym (lt-ltb listed (length v3.vectors) lt)) ∙ worked_as

    pub unswept_worked : length v3.vectors ≤ listed → v3 ≡ working c v f
    unswept_worked le = ap (λ (b : Bool). cond b (sweeping c v3 listed) v3) (sym (le-ltb listed (length v3.vectors) le)) ∙ worked_as

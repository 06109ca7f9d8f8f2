-- Every verdict is right along every history: takes, closes, adds and searches.
use Rattle.std.proofs.Common.{◌≡◌, ℕ, ◌+◌, ◌<◌, ◌≤◌, true, List, [], ◌∷◌, ◌++◌, length, get_or, set, replicate, Some, Ok, sym, refl, ap, ◌∙◌, subst, ⊎_elim, arith, length-append, length-set, get_or-set_other, get_or-set_same}
use lib.ListN.{length-replicate}
use Rattle.std.proofs.lemmas.List.{get_or_append_left, get_or_past, get_or_push}
use Rattle.std.proofs.lemmas.Bool.{cases_eq, cases_lt}
use Rattle.card.specs.Netlists.{Lawful, Netlist}
use Rattle.signal.specs.declared.line.Stuck.{Stuck}
use Rattle.vectors.specs.Vectors.{Cells, InForm}
use Rattle.faults.specs.Catching.{catches_fault}
use Rattle.faults.specs.Showing.{Shows}
use Rattle.faults.specs.Sites.{fault_count, stuck_of}
use Rattle.solving.specs.Models.{Model}
use Rattle.solving.specs.declared.verdict.Solved.{Solved}
use Rattle.asking.specs.Findings.{Finding, Tells, shown, unknown, untestable}
use Rattle.asking.proofs.Told.{asks_tells}
use Rattle.history.specs.Changing.{entering}
use Rattle.history.specs.Histories.{AmpleSearch, AmplySearched, History}
use Rattle.history.specs.Promises.{NoSettingShows}
use Rattle.history.specs.Steps.{Event, KnownTicket, Searched, searched}
use Rattle.history.specs.Views.{View, blank, most}
use Rattle.history.specs.declared.mark.Mark.{Mark}
use Rattle.history.specs.declared.mark.Mark.TheVariants.{Open, Detected, Untestable}
use Rattle.history.proofs.Caught.{fault_caught}
use Rattle.history.proofs.Granted.{Searchable}
use Rattle.history.proofs.Tickets.{get_d_new}

-- ---- marks are told apart

abbrev pub Decided : Mark → Type 0
Decided Open = ⊥
Decided (Detected i) = Unit {0}
Decided Untestable = Unit {0}

pub not_open : (m : Mark) → Decided m → Open ≡ m → ⊥
not_open m d e = subst Decided (sym e) d

pub same_number : (i j : ℕ) → Detected i ≡ Detected j → i ≡ j
same_number i j e = cc

-- a decided mark stands in the list
pub decided_within : (ms : List Mark) (f : ℕ) (m : Mark) → Decided m → get_or ms f Open ≡ m → f < length ms
decided_within ms f m d e = ⊎_elim (λ h. h) (λ (h : length ms ≤ f). absurd (not_open m d (sym (get_or_past ms f Open h) ∙ e))) (cases_lt f (length ms))

-- ---- the invariant

-- vector i is listed and catches the fault
abbrev pub ListedFor : Netlist → ℕ → List Cells → ℕ → Type 0
ListedFor c f xs i = (i < length xs) × (catches_fault c f (get_or xs i blank) ≡ true)

pub record Verdicts (c : Netlist) (h : History) (ms : List Mark) (xs : List Cells) : Type 0 where
  pub all_marked : length ms ≡ fault_count c
  pub few : length xs ≤ most
  pub formed : (i : ℕ) → i < length xs → InForm c.inputs (get_or xs i blank)
  pub detected : (f i : ℕ) → get_or ms f Open ≡ Detected i → ListedFor c f xs i
  pub untestable : (f : ℕ) → get_or ms f Open ≡ Untestable → NoSettingShows c f
  pub settled : (f : ℕ) → AmplySearched c f h → get_or ms f Open ≡ Open → ⊥

pub verdicts_none : (c : Netlist) → Verdicts c [] (replicate (fault_count c) Open) []
verdicts_none c = record {
  all_marked = length-replicate (fault_count c) Open;
  few = omega arith;
  formed = λ i h. absurd (omega arith);
  detected = λ f i e. absurd (not_open (Detected i) tt (sym (get_d_new (fault_count c) f Open) ∙ e));
  untestable = λ f e. absurd (not_open Untestable tt (sym (get_d_new (fault_count c) f Open) ∙ e));
  settled = λ f a e. a;
}

-- a call that leaves marks and vectors, and is no ample search
pub verdicts_still : (c : Netlist) (h : History) (ms : List Mark) (xs : List Cells) (e : Event) → ((f : ℕ) → AmpleSearch c f e → ⊥) → Verdicts c h ms xs → Verdicts c (e ∷ h) ms xs
verdicts_still c h ms xs e small s = record {
  all_marked = s.all_marked;
  few = s.few;
  formed = s.formed;
  detected = s.detected;
  untestable = s.untestable;
  settled = λ f a o. ⊎_elim (λ (k : AmpleSearch c f e). small f k) (λ (k : AmplySearched c f h). s.settled f k o) a;
}

-- ---- one vector more

module _ (c : Netlist) (xs : List Cells) (x : Cells) where
  longer : length (xs ++ (x ∷ [])) ≡ length xs + 1
  longer = length-append xs (x ∷ [])

  listed_more : (f i : ℕ) → ListedFor c f xs i → ListedFor c f (xs ++ (x ∷ [])) i
  listed_more f i (lt, k) = (omega (arith, lt, longer), subst (λ (y : Cells). catches_fault c f y ≡ true) (sym (get_or_append_left xs (x ∷ []) blank i lt)) k)

  formed_more : ((i : ℕ) → i < length xs → InForm c.inputs (get_or xs i blank)) → InForm c.inputs x → (i : ℕ) → i < length (xs ++ (x ∷ [])) → InForm c.inputs (get_or (xs ++ (x ∷ [])) i blank)
  formed_more old new i lt =
      ⊎_elim
      (λ (l : i < length xs). subst (InForm c.inputs) (sym (get_or_append_left xs (x ∷ []) blank i l)) (old i l))
      (λ (l : length xs ≤ i). let e : length xs ≡ i = omega (arith, lt, longer, l) in subst (InForm c.inputs) (sym (get_or_push xs x blank i e)) new)
      (cases_lt i (length xs))

pub verdicts_added : (c : Netlist) (h : History) (ms : List Mark) (xs : List Cells) (e : Event) (x : Cells) → ((f : ℕ) → AmpleSearch c f e → ⊥) → InForm c.inputs x → length xs < most
    → Verdicts c h ms xs → Verdicts c (e ∷ h) ms (xs ++ (x ∷ []))
verdicts_added c h ms xs e x small form room s = record {
  all_marked = s.all_marked;
  few = omega (arith, room, longer c xs x);
  formed = formed_more c xs x s.formed form;
  detected = λ f i m. listed_more c xs x f i (s.detected f i m);
  untestable = s.untestable;
  settled = λ f a o. ⊎_elim (λ (k : AmpleSearch c f e). small f k) (λ (k : AmplySearched c f h). s.settled f k o) a;
}

-- ---- a fault is decided

module _ (c : Netlist) (h : History) (ms : List Mark) (xs ys : List Cells) (f : ℕ) (m : Mark) (t : KnownTicket) (budget : ℕ) (solved : Solved) where
  pub decided_sound : f ≡ t.fault → f < length ms → Decided m
      → ((i : ℕ) → m ≡ Detected i → ListedFor c f ys i) → (m ≡ Untestable → NoSettingShows c f)
      → ((g i : ℕ) → ListedFor c g xs i → ListedFor c g ys i)
      → length ys ≤ most → ((i : ℕ) → i < length ys → InForm c.inputs (get_or ys i blank))
      → Verdicts c h ms xs → Verdicts c (searched t budget (Ok solved) ∷ h) (set ms f m) ys
  decided_sound same lt d caught never grown few formed s =
      let at : (g : ℕ) → g ≡ f → get_or (set ms f m) g Open ≡ m = λ g e. ap (λ (k : ℕ). get_or (set ms f m) k Open) e ∙ get_or-set_same ms f m Open lt in
      let there : (g : ℕ) → (g ≡ f → ⊥) → get_or (set ms f m) g Open ≡ get_or ms g Open = λ g ne. get_or-set_other ms f g m Open ne in
      record {
        all_marked = length-set ms f m ∙ s.all_marked;
        few = few;
        formed = formed;
        detected = λ g i k.
            ⊎_elim
            (λ (e : g ≡ f). subst (λ (n : ℕ). ListedFor c n ys i) (sym e) (caught i (sym (at g e) ∙ k)))
            (λ (ne : g ≡ f → ⊥). grown g i (s.detected g i (sym (there g ne) ∙ k)))
            (cases_eq g f);
        untestable = λ g k.
            ⊎_elim
            (λ (e : g ≡ f). subst (NoSettingShows c) (sym e) (never (sym (at g e) ∙ k)))
            (λ (ne : g ≡ f → ⊥). s.untestable g (sym (there g ne) ∙ k))
            (cases_eq g f);
        settled = λ g a k.
            ⊎_elim
            (λ (e : g ≡ f). not_open m d (sym k ∙ at g e))
            (λ (ne : g ≡ f → ⊥). ⊎_elim (λ (b : AmpleSearch c g (searched t budget (Ok solved))). ne (sym b.1 ∙ sym same)) (λ (b : AmplySearched c g h). s.settled g b (sym (there g ne) ∙ k)) a)
            (cases_eq g f);
      }

pub some_same : (s t : Stuck) → Some s ≡ Some t → s ≡ t
some_same s t e = cc

-- what a search found is true of the fault
module _ (c : Netlist) (h : History) (v : View) (t : KnownTicket) (budget : ℕ) (solved : Solved) (able : Searchable v t.fault) (lt : t.fault < length v.marks) (s : Verdicts c h v.marks v.vectors) (stuck : Stuck) (is : stuck_of c t.fault ≡ Some stuck) where
  entered_sound : (found : Finding) → Tells c stuck budget found → Verdicts c (searched t budget (Ok solved) ∷ h) (entering v t.fault found).marks (entering v t.fault found).vectors
  entered_sound (shown x) tells =
      let f : ℕ = t.fault in
      let n : ℕ = length v.vectors in
      decided_sound c h v.marks v.vectors (v.vectors ++ (x ∷ [])) f (Detected n) t budget solved refl lt tt
      (λ i e.
      let same : n ≡ i = same_number n i e in
      let last : get_or (v.vectors ++ (x ∷ [])) i blank ≡ x = get_or_push v.vectors x blank i same in
      (omega (arith, same, longer c v.vectors x), subst (λ (y : Cells). catches_fault c f y ≡ true) (sym last) (fault_caught c f x stuck is (tells.a_shown_vector_catches_the_fault x refl))))
      (λ e. absurd (cc))
      (listed_more c v.vectors x)
      (omega (arith, able.room, longer c v.vectors x))
      (formed_more c v.vectors x s.formed (tells.a_shown_vector_is_in_form x refl))
      s
  entered_sound untestable tells =
      decided_sound c h v.marks v.vectors v.vectors t.fault Untestable t budget solved refl lt tt
      (λ i e. absurd (cc))
      (λ e z line bits shows. tells.untestable_means_no_setting_shows refl bits (subst (λ (k : Stuck). Shows c k bits) (some_same z stuck (sym line ∙ is)) shows))
      (λ g i k. k)
      s.few
      s.formed
      s
  entered_sound unknown tells = verdicts_still c h v.marks v.vectors (searched t budget (Ok solved)) (λ f a. tells.enough_steps_settle a.2 refl) s

pub verdicts_searched : (c : Netlist) (h : History) (v w : View) (t : KnownTicket) (budget : ℕ) (solved : Solved) (n : Model) → Lawful c → Searchable v t.fault → t.fault < length v.marks
    → Searched c v t.fault budget solved n w → Verdicts c h v.marks v.vectors → Verdicts c (searched t budget (Ok solved) ∷ h) w.marks w.vectors
verdicts_searched c h v w t budget solved n lawful able lt done s =
    subst (λ (u : View). Verdicts c (searched t budget (Ok solved) ∷ h) u.marks u.vectors) (sym done.enters)
    (entered_sound c h v t budget solved able lt s done.stuck done.is_the_faults_line done.found
    (asks_tells c done.stuck lawful budget solved done.found n done.asks))

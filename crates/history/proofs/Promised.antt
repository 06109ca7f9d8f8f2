-- The law of jobs: every history keeps the promise, and no verdict is lost.
use Rattle.std.proofs.Common.{◌≡◌, ℕ, ◌+◌, ◌<◌, Bool, true, false, cond, not, ◌&&◌, List, [], ◌∷◌, length, get_or, set, Ok, Err, count_by, Result, sym, refl, ap, ◌∙◌, subst, ⊎_elim, arith, get_or-set_other}
use Rattle.std.proofs.lemmas.Bool.{cases_eq, false≢true}
use Rattle.card.specs.Netlists.{Lawful, Netlist}
use Rattle.vectors.specs.Vectors.{Cells, holding, bits_from}
use Rattle.vectors.proofs.Fillings.{value_fills}
use Rattle.faults.specs.Catching.{catches_fault}
use Rattle.solving.specs.declared.verdict.Solved.{Solved}
use Rattle.asking.specs.Findings.{Finding, shown, unknown, untestable}
use Rattle.history.specs.Changing.{entering, renamed, sweeping}
use Rattle.history.specs.Histories.{AmpleSearch, History, LeadsTo, Run}
use Rattle.history.specs.Promises.{Keeps, LawOfJobs, NoSettingShows, Promise, Settled, ShownByFillings}
use Rattle.history.specs.Steps.{Event, KnownTicket, Step, added, closed, merged, searched, swept, took}
use Rattle.history.specs.Views.{View, is_detected, is_open, is_taken, is_untestable, mark, new_view, vector_at}
use Rattle.history.specs.declared.mark.Mark.{Mark}
use Rattle.history.specs.declared.mark.Mark.TheVariants.{Open, Detected, Untestable}
use Rattle.history.specs.declared.refusal.TakeRefusal.{TakeRefusal}
use Rattle.history.specs.declared.refusal.SearchRefusal.{SearchRefusal}
use Rattle.history.specs.declared.refusal.CloseRefusal.{CloseRefusal}
use Rattle.history.specs.declared.refusal.VectorRefusal.{VectorRefusal}
use Rattle.history.specs.declared.refusal.AddRefusal.{AddRefusal}
use Rattle.history.specs.declared.refusal.MergeRefusal.{MergeRefusal}
use Rattle.history.proofs.Caught.{catches_shown}
use Rattle.history.proofs.Granted.{add_able, close_able, merge_able, search_able, sweep_able, taken_able}
use Rattle.history.proofs.Merged.{mark_renamed, verdicts_merged}
use Rattle.history.proofs.Swept.{mark_swept, verdicts_swept}
use Rattle.history.proofs.Tickets.{Silent, Tickets, count_cons, taken_within, tickets_closed, tickets_none, tickets_still, tickets_took}
use Rattle.history.proofs.Verdicts.{Decided, Verdicts, decided_within, not_open, verdicts_added, verdicts_none, verdicts_searched, verdicts_still}

-- ---- the invariant over views

pub record Sound (c : Netlist) (h : History) (v : View) : Type 0 where
  pub verdicts : Verdicts c h v.marks v.vectors
  pub tickets : Tickets c h v.taken

sound_new : (c : Netlist) → Sound c [] (new_view c)
sound_new c = record { verdicts = verdicts_none c; tickets = tickets_none c }

module _ (c : Netlist) (lawful : Lawful c) (h : History) (v : View) (s : Sound c h v) where
  -- a refused call changes nothing
  refused_sound : (e : Event) (w : View) → Silent e → ((f : ℕ) → AmpleSearch c f e → ⊥) → w ≡ v → Sound c (e ∷ h) w
  refused_sound e w quiet small is =
      subst (Sound c (e ∷ h)) (sym is) (record { verdicts = verdicts_still c h v.marks v.vectors e small s.verdicts; tickets = tickets_still c h v.taken e quiet s.tickets })

  took_sound : (f : ℕ) (r : Result (Unit {0}) TakeRefusal) (w : View) → Step c v (took f r) w → Sound c (took f r ∷ h) w
  took_sound f (Ok u) w (e, is) =
      let able = taken_able c v f u (sym e) in
      subst (Sound c (took f (Ok u) ∷ h)) (sym is) (record {
        verdicts = verdicts_still c h v.marks v.vectors (took f (Ok u)) (λ g a. a) s.verdicts;
        tickets = tickets_took c h v.taken f u able.a_fault able.free s.tickets;
      })
  took_sound f (Err why) w (e, is) = refused_sound (took f (Err why)) w (refl, refl, λ g. refl, λ g. refl) (λ g a. a) is

  entering_taken : (f : ℕ) (found : Finding) → (entering v f found).taken ≡ v.taken
  entering_taken f (shown x) = refl
  entering_taken f untestable = refl
  entering_taken f unknown = refl

  searched_sound : (t : KnownTicket) (b : ℕ) (r : Result Solved SearchRefusal) (w : View) → Step c v (searched t b r) w → Sound c (searched t b r ∷ h) w
  searched_sound t b (Ok solved) w (e, (n, done)) =
      let able = search_able v t.fault tt e in
      let lt : t.fault < length v.marks = omega (arith, taken_within v.taken t.fault able.taken, s.tickets.all_noted, s.verdicts.all_marked) in
      let same : w.taken ≡ v.taken = ap (λ (u : View). u.taken) done.enters ∙ entering_taken t.fault done.found in
      record {
        verdicts = verdicts_searched c h v w t b solved n lawful able lt done s.verdicts;
        tickets = subst (Tickets c (searched t b (Ok solved) ∷ h)) (sym same)
            (tickets_still c h v.taken (searched t b (Ok solved)) (refl, refl, λ g. refl, λ g. refl) s.tickets);
      }
  searched_sound t b (Err why) w (e, is) = refused_sound (searched t b (Err why)) w (refl, refl, λ g. refl, λ g. refl) (λ g a. false≢true a.0) is

  closed_sound : (t : KnownTicket) (r : Result (Unit {0}) CloseRefusal) (w : View) → Step c v (closed t r) w → Sound c (closed t r ∷ h) w
  closed_sound t (Ok u) w (e, is) =
      subst (Sound c (closed t (Ok u) ∷ h)) (sym is) (record {
        verdicts = verdicts_still c h v.marks v.vectors (closed t (Ok u)) (λ g a. a) s.verdicts;
        tickets = tickets_closed c h v.taken t u (close_able v t.fault u (sym e)) s.tickets;
      })
  closed_sound t (Err why) w (e, is) = refused_sound (closed t (Err why)) w (refl, refl, λ g. refl, λ g. refl) (λ g a. a) is

  swept_sound : (i : ℕ) (r : Result ℕ VectorRefusal) (w : View) → Step c v (swept i r) w → Sound c (swept i r ∷ h) w
  swept_sound i (Ok n) w (e, is) =
      subst (Sound c (swept i (Ok n) ∷ h)) (sym is) (record {
        verdicts = verdicts_swept c v i h n (sweep_able c v i n (sym e)) s.verdicts;
        tickets = tickets_still c h v.taken (swept i (Ok n)) (refl, refl, λ g. refl, λ g. refl) s.tickets;
      })
  swept_sound i (Err why) w (e, is) = refused_sound (swept i (Err why)) w (refl, refl, λ g. refl, λ g. refl) (λ g a. a) is

  added_sound : (care value : ℕ) (r : Result ℕ AddRefusal) (w : View) → Step c v (added care value r) w → Sound c (added care value r ∷ h) w
  added_sound care value (Ok n) w (e, is) =
      let able = add_able c v care value n (sym e) in
      subst (Sound c (added care value (Ok n) ∷ h)) (sym is) (record {
        verdicts = verdicts_added c h v.marks v.vectors (added care value (Ok n)) (holding care value) (λ g a. a) able.is_in_form able.room s.verdicts;
        tickets = tickets_still c h v.taken (added care value (Ok n)) (refl, refl, λ g. refl, λ g. refl) s.tickets;
      })
  added_sound care value (Err why) w (e, is) = refused_sound (added care value (Err why)) w (refl, refl, λ g. refl, λ g. refl) (λ g a. a) is

  merged_sound : (i j : ℕ) (r : Result (Unit {0}) MergeRefusal) (w : View) → Step c v (merged i j r) w → Sound c (merged i j r ∷ h) w
  merged_sound i j (Ok u) w (e, is) =
      subst (Sound c (merged i j (Ok u) ∷ h)) (sym is) (record {
        verdicts = verdicts_merged c h v i j (merge_able v i j u (sym e)) s.verdicts u;
        tickets = tickets_still c h v.taken (merged i j (Ok u)) (refl, refl, λ g. refl, λ g. refl) s.tickets;
      })
  merged_sound i j (Err why) w (e, is) = refused_sound (merged i j (Err why)) w (refl, refl, λ g. refl, λ g. refl) (λ g a. a) is

  step_sound : (e : Event) (w : View) → Step c v e w → Sound c (e ∷ h) w
  step_sound (took f r) w step = took_sound f r w step
  step_sound (searched t b (Ok r)) w step = searched_sound t b (Ok r) w step
  step_sound (searched t b (Err r)) w step = searched_sound t b (Err r) w step
  step_sound (closed t r) w step = closed_sound t r w step
  step_sound (swept i r) w step = swept_sound i r w step
  step_sound (added care value r) w step = added_sound care value r w step
  step_sound (merged i j r) w step = merged_sound i j r w step

pub run_sound : (c : Netlist) → Lawful c → (h : History) (v : View) → LeadsTo c h v → Sound c h v
run_sound c lawful [] v is = subst (Sound c []) (sym is) (sound_new c)
run_sound c lawful (e ∷ h) v (u, before, step) = step_sound c lawful h u (run_sound c lawful h u before) e v step

-- ---- the promise

three : (ms : List Mark) → count_by is_open ms + count_by is_detected ms + count_by is_untestable ms ≡ length ms
three [] = refl
three (Open ∷ ms) = omega (arith, three ms, count_cons is_open Open ms, count_cons is_detected Open ms, count_cons is_untestable Open ms)
three (Detected i ∷ ms) = omega (arith, three ms, count_cons is_open (Detected i) ms, count_cons is_detected (Detected i) ms, count_cons is_untestable (Detected i) ms)
three (Untestable ∷ ms) = omega (arith, three ms, count_cons is_open Untestable ms, count_cons is_detected Untestable ms, count_cons is_untestable Untestable ms)

-- a fault that every filling of a vector shows is shown by some setting, since every vector has a filling
some_setting : (c : Netlist) (f : ℕ) (x : Cells) → ShownByFillings c f x → NoSettingShows c f → ⊥
some_setting c f x k none =
    let bits : List Bool = bits_from x.value 0 c.inputs in
    let fills = value_fills c.inputs x in
    none k.stuck k.is_the_faults_line bits (record { one_for_each = fills.one_for_each; output = k.shown.output; shown = k.shown.shown bits fills })

settle : (c : Netlist) (f : ℕ) (m : Mark) → (m ≡ Open → ⊥) → (m ≡ Untestable → NoSettingShows c f) → ((i : ℕ) → m ≡ Detected i → (x : Cells) × ShownByFillings c f x) → Settled c f m
settle c f Open shut never caught = absurd (shut refl)
settle c f (Detected i) shut never caught =
    let (x, k) = caught i refl in
    record {
      untestable_only_if_no_setting_shows = never;
      untestable_if_no_setting_shows = λ none. absurd (some_setting c f x k none);
      else_detected = λ _. refl;
    }
settle c f Untestable shut never caught = record {
  untestable_only_if_no_setting_shows = never;
  untestable_if_no_setting_shows = λ _. refl;
  else_detected = λ some. absurd (some (never refl));
}

pub promised : (c : Netlist) (h : History) (v : View) → Sound c h v → Promise c h v
promised c h v s = record {
  every_filling_of_its_listed_vector_shows_a_detected_fault = λ f i m. let (lt, k) = s.verdicts.detected f i m in (lt, catches_shown c f (vector_at v i) k);
  its_listed_vector_catches_a_detected_fault = λ f i m. (s.verdicts.detected f i m).1;
  no_setting_shows_an_untestable_fault = s.verdicts.untestable;
  enough_steps_settle_a_fault = λ f a. settle c f (mark v f) (s.verdicts.settled f a) (s.verdicts.untestable f) (λ i m. (vector_at v i, catches_shown c f (vector_at v i) (s.verdicts.detected f i m).1));
  open_detected_and_untestable_are_all_faults = three v.marks ∙ s.verdicts.all_marked;
  as_many_taken_as_takes_less_closes = s.tickets.total;
  each_taken_fault_has_one_unclosed_ticket = λ own f held.
      let one : ◌≡◌ {A = ℕ} (cond (is_taken v f) 1 0) 1 = ap (λ (b : Bool). cond b 1 0) held in
      omega (arith, s.tickets.each own f, one);
  no_other_fault_has_one = λ own f free.
      let none : ◌≡◌ {A = ℕ} (cond (is_taken v f) 1 0) 0 = ap (λ (b : Bool). cond b 1 0) free in
      omega (arith, s.tickets.each own f, none);
  every_fault_has_a_mark_and_a_flag = (s.verdicts.all_marked, s.tickets.all_noted);
  at_most_512_vectors = s.verdicts.few;
  every_listed_vector_is_in_form = s.verdicts.formed;
}

-- ---- no verdict is lost

same_keeps : (v w : View) → w.marks ≡ v.marks → Keeps v w
same_keeps v w is = record {
  detected_stays = λ f i e. ap is_detected (ap (λ (ms : List Mark). get_or ms f Open) is ∙ e);
  untestable_stays = λ f e. ap (λ (ms : List Mark). get_or ms f Open) is ∙ e;
}

-- the mark of a fault that was open is set
set_keeps : (v w : View) (f : ℕ) (m : Mark) → mark v f ≡ Open → w.marks ≡ set v.marks f m → Keeps v w
set_keeps v w f m was is =
    let other : (g : ℕ) (k : Mark) → Decided k → mark v g ≡ k → mark w g ≡ k = λ g k d e.
    ⊎_elim
    (λ (q : g ≡ f). absurd (not_open k d (sym (ap (mark v) q ∙ was) ∙ e)))
    (λ (ne : g ≡ f → ⊥). ap (λ (ms : List Mark). get_or ms g Open) is ∙ get_or-set_other v.marks f g m Open ne ∙ e)
    (cases_eq g f) in
    record { detected_stays = λ g i e. ap is_detected (other g (Detected i) tt e); untestable_stays = λ g e. other g Untestable tt e }

entering_keeps : (v : View) (f : ℕ) (found : Finding) → mark v f ≡ Open → Keeps v (entering v f found)
entering_keeps v f (shown x) was = set_keeps v (entering v f (shown x)) f (Detected (length v.vectors)) was refl
entering_keeps v f untestable was = set_keeps v (entering v f untestable) f Untestable was refl
entering_keeps v f unknown was = same_keeps v v refl

decided_shut : (m : Mark) → Decided m → is_open m ≡ false
decided_shut Open d = absurd d
decided_shut (Detected n) d = refl
decided_shut Untestable d = refl

-- a decided fault is not swept
unswept : (c : Netlist) (v : View) (i f : ℕ) (m : Mark) → Decided m → mark v f ≡ m → mark (sweeping c v i) f ≡ m
unswept c v i f m d e =
    let shut : is_open (mark v f) ≡ false = ap is_open e ∙ decided_shut m d in
    mark_swept c v i f (decided_within v.marks f m d e)
    ∙ ap (λ (b : Bool). cond (b && (not (is_taken v f) && catches_fault c f (vector_at v i))) (Detected i) (mark v f)) shut ∙ e

step_keeps : (c : Netlist) (v : View) (e : Event) (w : View) → Step c v e w → Keeps v w
step_keeps c v (took f (Ok u)) w (e, is) = same_keeps v w (ap (λ (k : View). k.marks) is)
step_keeps c v (took f (Err why)) w (e, is) = same_keeps v w (ap (λ (k : View). k.marks) is)
step_keeps c v (searched t b (Ok solved)) w (e, (n, done)) =
    subst (Keeps v) (sym done.enters) (entering_keeps v t.fault done.found (search_able v t.fault tt e).undecided)
step_keeps c v (searched t b (Err why)) w (e, is) = same_keeps v w (ap (λ (k : View). k.marks) is)
step_keeps c v (closed t (Ok u)) w (e, is) = same_keeps v w (ap (λ (k : View). k.marks) is)
step_keeps c v (closed t (Err why)) w (e, is) = same_keeps v w (ap (λ (k : View). k.marks) is)
step_keeps c v (swept i (Ok n)) w (e, is) =
    subst (Keeps v) (sym is) (record { detected_stays = λ f n k. ap is_detected (unswept c v i f (Detected n) tt k); untestable_stays = λ f k. unswept c v i f Untestable tt k })
step_keeps c v (swept i (Err why)) w (e, is) = same_keeps v w (ap (λ (k : View). k.marks) is)
step_keeps c v (added care value (Ok n)) w (e, is) = same_keeps v w (ap (λ (k : View). k.marks) is)
step_keeps c v (added care value (Err why)) w (e, is) = same_keeps v w (ap (λ (k : View). k.marks) is)
step_keeps c v (merged i j (Ok u)) w (e, is) =
    subst (Keeps v) (sym is) (record {
      detected_stays = λ f n k. ap is_detected (mark_renamed i j v.marks f ∙ ap (renamed i j) k);
      untestable_stays = λ f k. mark_renamed i j v.marks f ∙ ap (renamed i j) k;
    })
step_keeps c v (merged i j (Err why)) w (e, is) = same_keeps v w (ap (λ (k : View). k.marks) is)

number : (m : Mark) → is_detected m ≡ true → (i : ℕ) × (m ≡ Detected i)
number Open e = absurd (false≢true e)
number (Detected i) e = (i, refl)
number Untestable e = absurd (false≢true e)

both_keep : (u v w : View) → Keeps u v → Keeps v w → Keeps u w
both_keep u v w a b = record {
  detected_stays = λ f i d. let (n, e) = number (mark v f) (a.detected_stays f i d) in b.detected_stays f n e;
  untestable_stays = λ f k. b.untestable_stays f (a.untestable_stays f k);
}

pub run_keeps : (c : Netlist) (v : View) (h : History) (w : View) → Run c v h w → Keeps v w
run_keeps c v [] w is = same_keeps v w (ap (λ (k : View). k.marks) is)
run_keeps c v (e ∷ h) w (u, before, step) = both_keep v u w (run_keeps c v h u before) (step_keeps c u e w step)

pub law : LawOfJobs
law c lawful h v run = (promised c h v (run_sound c lawful h v run), λ after w more. run_keeps c v after w more)

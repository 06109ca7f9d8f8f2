-- What is put into the buffer is the text for the card bytes, and it fits.
use Rattle.std.proofs.Common.{◌≡◌, ℕ, ◌≤◌, List, ◌++◌, length, drop, IfErr, IfOk, Some, None, Ok, Err, Result, sym, ap, ◌∙◌, subst, arith, MatchResult}
use Rattle.card.specs.Netlists.{Netlist}
use Rattle.reading.specs.Reading.{reading}
use Rattle.reading.specs.Refusals.{refusal_number, refusal_offset}
use Rattle.reading.specs.Rules.{Accepted}
use Rattle.reading.specs.declared.fault.CardFault.{CardFault}
use Rattle.reading.specs.declared.fault.CardFault.TheVariants as card
use Rattle.reading.proofs.Ruled.{agree}
use Rattle.faults.specs.Sites.{fault_count}
use Rattle.history.specs.Views.{View}
use Rattle.job.specs.Jobs.{card_held, held}
use Rattle.job.specs.declared.job.Job.{Job}
use Rattle.job.proofs.Reaching.{lawful, stands}
use Rattle.report.specs.Limits.{NoMoreVectorsThanDetectedFaults, sheet_room}
use Rattle.report.specs.Lines.{refusal_text, sheet_of}
use Rattle.report.specs.Truths.{Tells, TellsTheTruth}
use Rattle.report.proofs.Lengths.{sheet_fits}
use Rattle.report.proofs.Telling.{few_faults, few_vectors}
use Rattle.sheets.specs.Printing.{Prints, fault_for, text_for}
use Rattle.sheets.specs.Putting.{Put, Puts}
use Rattle.sheets.specs.Refusals.{sheet_fault_of}
use Rattle.sheets.specs.Telling.{Told, ToldFor}
use Rattle.sheets.specs.Working.{sheet_view}
use Rattle.sheets.specs.declared.fault.SheetFault.{SheetFault}
use Rattle.sheets.specs.declared.fault.SheetFault.TheVariants.{Card, Memory, Room}
use Rattle.sheets.specs.declared.sheet.Sheet.{Sheet}
use Rattle.sheets.proofs.Counted.{sheet_modest}

-- ---- faults are told apart

card_memory : (f : CardFault) → Card f ≡ Memory → ⊥
card_memory f e = let z : ◌≡◌ {A = ℕ} 0 1 = cc in omega arith

card_same : (f g : CardFault) → Card f ≡ Card g → f ≡ g
card_same f g e = cc

ok_err : {T E : Type 0} (t : T) (e : E) → Ok t ≡ Err e → ⊥
ok_err t e q = let z : ◌≡◌ {A = ℕ} 0 1 = cc in omega arith

err_same : {T E : Type 0} (e f : E) → ◌≡◌ {A = Result T E} (Err e) (Err f) → e ≡ f
err_same e f q = cc

ok_same : {T E : Type 0} (s t : T) → ◌≡◌ {A = Result T E} (Ok s) (Ok t) → s ≡ t
ok_same s t q = cc

-- a card's fault is carried whole
whole : (g : CardFault) (f : CardFault) → Card g ≡ sheet_fault_of f → f ≡ g
whole g (card.Unknown at) e = sym (card_same g (card.Unknown at) e)
whole g (card.Ended at) e = sym (card_same g (card.Ended at) e)
whole g (card.Operand fault) e = sym (card_same g (card.Operand fault) e)
whole g (card.LateInput at) e = sym (card_same g (card.LateInput at) e)
whole g (card.Limit at) e = sym (card_same g (card.Limit at) e)
whole g (card.NamedTwice at) e = sym (card_same g (card.NamedTwice at) e)
whole g (card.Incomplete at) e = sym (card_same g (card.Incomplete at) e)
whole g (card.Trailing at) e = sym (card_same g (card.Trailing at) e)
whole g card.Memory e = absurd (card_memory g e)

-- ---- the sheet of a worked job fits

pub job_fits : (j : Job) → held j ≡ sheet_view (card_held j) → length (sheet_of (card_held j) (held j)) ≤ sheet_room
job_fits j e =
    let s = stands j.table j.reached in
    sheet_fits (card_held j) (held j) (lawful j.table) (few_faults (card_held j) (held j) (lawful j.table) s) (few_vectors (card_held j) (held j) s)
    (subst NoMoreVectorsThanDetectedFaults (sym e) (sheet_modest (card_held j)))

pub modest : (j : Job) → held j ≡ sheet_view (card_held j) → NoMoreVectorsThanDetectedFaults (held j)
modest j e = subst NoMoreVectorsThanDetectedFaults (sym e) (sheet_modest (card_held j))

-- ---- what was put is the text for the bytes

-- what the preparation of a sheet promises
abbrev pub Prepares : List ℕ → Result Job SheetFault → Type 0
Prepares bytes p = MatchResult p (λ j. (reading bytes ≡ Ok (card_held j)) × (held j ≡ sheet_view (card_held j))) (λ e. (e ≡ Memory → ⊥) → (f : CardFault) × (reading bytes ≡ Err f) × (e ≡ sheet_fault_of f))

module _ (bytes before after : List ℕ) where
  of_card : (j : Job) (s : Sheet) → reading bytes ≡ Ok (card_held j) → held j ≡ sheet_view (card_held j) → Put (sheet_of (card_held j) (held j)) before after s → s.fault ≡ None
      → TellsTheTruth (card_held j) (sheet_of (card_held j) (held j)) → Tells (card_held j) (held j) (sheet_of (card_held j) (held j)) → Prints bytes before after s
  of_card j s reads worked put none truth tells =
      let c : Netlist = card_held j in
      let text : text_for (reading bytes) ≡ sheet_of c (held j) = ap text_for reads ∙ ap (sheet_of c) (sym worked) in
      let same : (k : Netlist) → Accepted bytes k → c ≡ k = λ k a. ok_same c k (sym reads ∙ agree.accepted bytes k a) in
      record {
        answers_the_length_of_the_text = put.long ∙ ap length (sym text);
        carries_the_fault_of_a_bad_card_whole = none ∙ ap fault_for (sym reads);
        writes_the_text_and_leaves_the_bytes_behind_it = put.stands ∙ ap (λ (t : List ℕ). t ++ drop (length t) before) (sym text);
        the_text_has_at_most_65536_bytes = subst (λ (t : List ℕ). length t ≤ sheet_room) (sym text) (job_fits j worked);
        the_sheet_of_a_card_tells_the_truth = λ k a. subst (λ (t : List ℕ). TellsTheTruth k t) (sym text) (subst (λ (n : Netlist). TellsTheTruth n (sheet_of c (held j))) (same k a) truth);
        the_sheet_of_a_card_tells_what_the_run_reached = λ k a.
            subst (λ (t : List ℕ). Tells k (sheet_view k) t) (sym text)
            (subst (λ (n : Netlist). Tells n (sheet_view n) (sheet_of c (held j))) (same k a) (subst (λ (v : View). Tells c v (sheet_of c (held j))) worked tells));
        a_bad_card_has_the_line_of_its_first_broken_rule = λ number offset bad. let (e, is, _, _) = agree.refused bytes number offset bad in absurd (ok_err c e (sym reads ∙ is));
      }

  of_bad_card : (f : CardFault) (s : Sheet) → reading bytes ≡ Err f → Put (refusal_text (refusal_number f) (refusal_offset f)) before after s → s.fault ≡ Some f → length (refusal_text (refusal_number f) (refusal_offset f)) ≤ 41 → Prints bytes before after s
  of_bad_card f s reads put carried short =
      let text : text_for (reading bytes) ≡ refusal_text (refusal_number f) (refusal_offset f) = ap text_for reads in
      let none : (k : Netlist) → Accepted bytes k → ⊥ = λ k a. ok_err k f (sym (agree.accepted bytes k a) ∙ reads) in
      record {
        answers_the_length_of_the_text = put.long ∙ ap length (sym text);
        carries_the_fault_of_a_bad_card_whole = carried ∙ ap fault_for (sym reads);
        writes_the_text_and_leaves_the_bytes_behind_it = put.stands ∙ ap (λ (t : List ℕ). t ++ drop (length t) before) (sym text);
        the_text_has_at_most_65536_bytes = subst (λ (t : List ℕ). length t ≤ sheet_room) (sym text) (omega (arith, short));
        the_sheet_of_a_card_tells_the_truth = λ k a. absurd (none k a);
        the_sheet_of_a_card_tells_what_the_run_reached = λ k a. absurd (none k a);
        a_bad_card_has_the_line_of_its_first_broken_rule = λ number offset bad.
            let (e, is, n, o) = agree.refused bytes number offset bad in
            let same : f ≡ e = err_same f e (sym reads ∙ is) in
            text ∙ ap (λ (x : CardFault). refusal_text (refusal_number x) (refusal_offset x)) same ∙ ap (λ (x : ℕ). refusal_text x (refusal_offset e)) n ∙ ap (refusal_text number) o;
      }

-- what `sheet` prints where the buffer has room
pub told : (bytes before after : List ℕ) (p : Result Job SheetFault) (r : Result Sheet SheetFault) → Prepares bytes p → Puts p before r after → IfOk r (λ s. Prints bytes before after s)
told bytes before after (Ok j) (Ok s) (reads, worked) (put, none, truth, tells) = of_card bytes before after j s reads worked put none truth tells
told bytes before after (Err (Card f)) (Ok s) prepared (put, carried, short) =
    let (g, reads, is) = prepared (card_memory f) in
    of_bad_card bytes before after f s (reads ∙ ap Err (whole f g is)) put carried short
told bytes before after (Err Memory) (Ok s) prepared puts = absurd puts
told bytes before after (Err Room) (Ok s) prepared puts = absurd puts
told bytes before after p (Err e) prepared puts = tt

-- ---- what was told

module _ {X : Type 0} (tells : X → ℕ → ℕ → X → Type 0) (bytes before after : List ℕ) (x y : X) where
  -- a sheet came of a job, which was told of, or of a bad card, of which nothing was
  pub told_for : (p : Result Job SheetFault) (r : Result Sheet SheetFault) → Prepares bytes p → Puts p before r after → IfOk p (λ j. Told tells (fault_count (card_held j)) (fault_count (card_held j)) x y) → IfErr p (λ _. y ≡ x)
      → IfOk r (λ s. ToldFor tells (reading bytes) x y)
  told_for (Ok j) (Ok s) (reads, _) puts each _ = subst (λ (r : Result Netlist CardFault). ToldFor tells r x y) (sym reads) each
  told_for (Err (Card f)) (Ok s) prepared puts _ none = let (g, reads, is) = prepared (card_memory f) in subst (λ (r : Result Netlist CardFault). ToldFor tells r x y) (sym reads) none
  told_for (Err Memory) (Ok s) prepared puts _ none = absurd puts
  told_for (Err Room) (Ok s) prepared puts _ none = absurd puts
  told_for p (Err e) prepared puts each none = tt

  -- no sheet came, so there was no job
  pub told_nothing : (p : Result Job SheetFault) (r : Result Sheet SheetFault) → Puts p before r after → IfErr p (λ _. y ≡ x) → IfErr r (λ _. y ≡ x)
  told_nothing p (Ok s) puts none = tt
  told_nothing (Ok j) (Err e) puts none = absurd puts
  told_nothing (Err f) (Err e) puts none = none

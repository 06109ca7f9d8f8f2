-- A sweep marks only what its vector catches.
use Rattle.std.proofs.Common.{◌≡◌, ℕ, ◌<◌, ◌≤◌, Bool, true, false, cond, not, ◌&&◌, ◌⊎◌, ◌∷◌, length, Ok, sym, ◌∙◌, subst, inl, inr, ⊎_elim, arith}
use Rattle.std.proofs.lemmas.List.FromFn.{get_or-map-range_with_len, length-map-range_with_len}
use Rattle.std.proofs.lemmas.List.{get_or_past}
use Rattle.std.proofs.lemmas.Bool.{and_parts, cases_Bool, cases_lt}
use Rattle.card.specs.Netlists.{Netlist}
use Rattle.faults.specs.Catching.{catches_fault}
use Rattle.history.specs.Changing.{sweeping, swept_mark}
use Rattle.history.specs.Granting.{sweep_marks}
use Rattle.history.specs.Histories.{AmpleSearch, AmplySearched, History}
use Rattle.history.specs.Steps.{swept}
use Rattle.history.specs.Views.{View, is_open, is_taken, mark, vector_at}
use Rattle.history.specs.declared.mark.Mark.{Mark}
use Rattle.history.specs.declared.mark.Mark.TheVariants.{Open, Detected, Untestable}
use Rattle.history.proofs.Verdicts.{Decided, ListedFor, Verdicts, decided_within, not_open, same_number}

module _ (c : Netlist) (v : View) (i : ℕ) where
  -- what stands after a sweep was swept, or stood before
  pub after_sweep : (f : ℕ) (m : Mark) → swept_mark c v i f ≡ m → ((sweep_marks c v i f ≡ true) × (Detected i ≡ m)) ⊎ (mark v f ≡ m)
  after_sweep f m e =
      ⊎_elim
      (λ (t : sweep_marks c v i f ≡ true). inl (t, subst (λ (b : Bool). cond b (Detected i) (mark v f) ≡ m) t e))
      (λ (t : sweep_marks c v i f ≡ false). inr (subst (λ (b : Bool). cond b (Detected i) (mark v f) ≡ m) t e))
      (cases_Bool (sweep_marks c v i f))

  pub mark_swept : (f : ℕ) → f < length v.marks → mark (sweeping c v i) f ≡ swept_mark c v i f
  mark_swept f lt = get_or-map-range_with_len (swept_mark c v i) 0 (length v.marks) f f Open lt (omega arith)

  long : length (sweeping c v i).marks ≡ length v.marks
  long = length-map-range_with_len (swept_mark c v i) 0 (length v.marks)

  -- past the faults every mark is open
  mark_past : (f : ℕ) → length v.marks ≤ f → mark (sweeping c v i) f ≡ Open
  mark_past f le = get_or_past (sweeping c v i).marks f Open (omega (arith, long, le))

  decided_was : (f : ℕ) (m : Mark) → Decided m → mark (sweeping c v i) f ≡ m → ((sweep_marks c v i f ≡ true) × (Detected i ≡ m)) ⊎ (mark v f ≡ m)
  decided_was f m d e =
      let lt : f < length v.marks = omega (arith, long, decided_within (sweeping c v i).marks f m d e) in
      after_sweep f m (sym (mark_swept f lt) ∙ e)

  -- what is open after a sweep was open before
  open_was : (f : ℕ) → mark (sweeping c v i) f ≡ Open → mark v f ≡ Open
  open_was f e =
      ⊎_elim
      (λ (lt : f < length v.marks).
      ⊎_elim
      (λ (t : (sweep_marks c v i f ≡ true) × (Detected i ≡ Open)). absurd (not_open (Detected i) tt (sym t.1)))
      (λ (old : mark v f ≡ Open). old)
      (after_sweep f Open (sym (mark_swept f lt) ∙ e)))
      (λ (le : length v.marks ≤ f). get_or_past v.marks f Open le)
      (cases_lt f (length v.marks))

  caught_by : (f : ℕ) → sweep_marks c v i f ≡ true → catches_fault c f (vector_at v i) ≡ true
  caught_by f t =
      let (_, rest) = and_parts (is_open (mark v f)) (not (is_taken v f) && catches_fault c f (vector_at v i)) t in
      (and_parts (not (is_taken v f)) (catches_fault c f (vector_at v i)) rest).1

  pub verdicts_swept : (h : History) (n : ℕ) → i < length v.vectors → Verdicts c h v.marks v.vectors → Verdicts c (swept i (Ok n) ∷ h) (sweeping c v i).marks v.vectors
  verdicts_swept h n lt s = record {
    all_marked = long ∙ s.all_marked;
    few = s.few;
    formed = s.formed;
    detected = λ f j e.
        ⊎_elim
        (λ (t : (sweep_marks c v i f ≡ true) × (Detected i ≡ Detected j)). subst (ListedFor c f v.vectors) (same_number i j t.1) (lt, caught_by f t.0))
        (λ (old : mark v f ≡ Detected j). s.detected f j old)
        (decided_was f (Detected j) tt e);
    untestable = λ f e.
        ⊎_elim
        (λ (t : (sweep_marks c v i f ≡ true) × (Detected i ≡ Untestable)). absurd (let e = t.1 in cc))
        (λ (old : mark v f ≡ Untestable). s.untestable f old)
        (decided_was f Untestable tt e);
    settled = λ f a e. ⊎_elim (λ (k : AmpleSearch c f (swept i (Ok n))). k) (λ (k : AmplySearched c f h). s.settled f k (open_was f e)) a;
  }

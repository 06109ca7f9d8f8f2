-- A sheet's job has no more vectors than detected faults: each new vector comes with a fault of its own, and no detected fault is lost.
use Rattle.std.proofs.Common.{◌≡◌, ℕ, zero, suc, ◌<◌, ◌≤◌, Bool, true, false, cond, ltb, List, [], ◌∷◌, map, length, count_by, refl, ap, ◌∙◌, ⊎_elim, arith, length-append, length-set}
use lib.ListN.{length-replicate}
use Rattle.std.specs.List.{range_with_len}
use Rattle.std.proofs.lemmas.List.FromFn.{fill_by_all, length-map-range_with_len}
use Rattle.std.proofs.lemmas.List.Sums.{sum_by-cons, sum_by-set}
use Rattle.std.proofs.lemmas.Bool.{cases_Bool, cond_both}
use Rattle.card.specs.Netlists.{Netlist}
use Rattle.faults.specs.Sites.{fault_count}
use Rattle.asking.specs.Findings.{Finding, shown, unknown, untestable}
use Rattle.history.specs.Changing.{closing, entering, sweeping, swept_mark, taking}
use Rattle.history.specs.Granting.{sweep_marks}
use Rattle.history.specs.Views.{View, is_detected, is_open, mark, most, new_view}
use Rattle.history.specs.declared.mark.Mark.{Mark}
use Rattle.history.specs.declared.mark.Mark.TheVariants.{Detected, Open, Untestable}
use Rattle.history.proofs.Granted.{open_mark}
use Rattle.report.specs.Limits.{NoMoreVectorsThanDetectedFaults}
use Rattle.sheets.specs.Working.{found, searching, sheet_view, sweeping_new, worked_to, working}

-- as many marks as faults, and no more vectors than detected faults
pub record Counted (c : Netlist) (v : View) : Type 0 where
  pub all_marked : length v.marks ≡ fault_count c
  pub own_fault : length v.vectors ≤ count_by is_detected v.marks

counted_new : (c : Netlist) → Counted c (new_view c)
counted_new c = record { all_marked = length-replicate (fault_count c) Open; own_fault = omega arith }

-- more pass a weaker test
more_pass : (g h : ℕ → Mark) → ((f : ℕ) → is_detected (g f) ≡ true → is_detected (h f) ≡ true) → (xs : List ℕ) → count_by is_detected (map g xs) ≤ count_by is_detected (map h xs)
more_pass g h weaker [] = omega arith
more_pass g h weaker (x ∷ xs) =
    let a = sum_by-cons (λ (m : Mark). cond (is_detected m) 1 0) (g x) (map g xs) in
    let b = sum_by-cons (λ (m : Mark). cond (is_detected m) 1 0) (h x) (map h xs) in
    let tail = more_pass g h weaker xs in
    ⊎_elim
    (λ (t : is_detected (g x) ≡ true).
    let p : ◌≡◌ {A = ℕ} (cond (is_detected (g x)) 1 0) 1 = ap (λ (k : Bool). cond k 1 0) t in
    let q : ◌≡◌ {A = ℕ} (cond (is_detected (h x)) 1 0) 1 = ap (λ (k : Bool). cond k 1 0) (weaker x t) in
    omega (arith, a, b, tail, p, q))
    (λ (t : is_detected (g x) ≡ false).
    let p : ◌≡◌ {A = ℕ} (cond (is_detected (g x)) 1 0) 0 = ap (λ (k : Bool). cond k 1 0) t in
    omega (arith, a, b, tail, p))
    (cases_Bool (is_detected (g x)))

-- a sweep loses no detected fault
swept_detected : (c : Netlist) (v : View) (i f : ℕ) → is_detected (mark v f) ≡ true → is_detected (swept_mark c v i f) ≡ true
swept_detected c v i f e = cond_both (sweep_marks c v i f) (Detected i) (mark v f) (λ m. is_detected m ≡ true) (λ _. refl) (λ _. e)

counted_swept : (c : Netlist) (v : View) (i : ℕ) → Counted c v → Counted c (sweeping c v i)
counted_swept c v i k =
    let n : ℕ = length v.marks in
    let are : v.marks ≡ map (mark v) (range_with_len 0 n) = fill_by_all (mark v) v.marks n Open refl (λ g lt. refl) in
    let before : count_by is_detected v.marks ≡ count_by is_detected (map (mark v) (range_with_len 0 n)) = ap (count_by is_detected) are in
    record {
      all_marked = length-map-range_with_len (swept_mark c v i) 0 n ∙ k.all_marked;
      own_fault = omega (arith, k.own_fault, before, more_pass (mark v) (swept_mark c v i) (swept_detected c v i) (range_with_len 0 n));
    }

-- what is found of an open fault adds at most one vector, and with it a detected fault
counted_entered : (c : Netlist) (v : View) (f : ℕ) (x : Finding) → f < fault_count c → is_open (mark v f) ≡ true → Counted c v → Counted c (entering v f x)
counted_entered c v f (shown y) lt free k =
    let n : ℕ = length v.vectors in
    let fits : f < length v.marks = omega (arith, lt, k.all_marked) in
    let sums = sum_by-set (λ (m : Mark). cond (is_detected m) 1 0) v.marks f (Detected n) Open fits in
    let was : ◌≡◌ {A = ℕ} (cond (is_detected (mark v f)) 1 0) 0 = ap (λ (m : Mark). cond (is_detected m) 1 0) (open_mark (mark v f) free) in
    record {
      all_marked = length-set v.marks f (Detected n) ∙ k.all_marked;
      own_fault = omega (arith, k.own_fault, sums, was, length-append v.vectors (y ∷ []));
    }
counted_entered c v f untestable lt free k =
    let fits : f < length v.marks = omega (arith, lt, k.all_marked) in
    let sums = sum_by-set (λ (m : Mark). cond (is_detected m) 1 0) v.marks f Untestable Open fits in
    let was : ◌≡◌ {A = ℕ} (cond (is_detected (mark v f)) 1 0) 0 = ap (λ (m : Mark). cond (is_detected m) 1 0) (open_mark (mark v f) free) in
    record { all_marked = length-set v.marks f Untestable ∙ k.all_marked; own_fault = omega (arith, k.own_fault, sums, was) }
counted_entered c v f unknown lt free k = k

counted_searched : (c : Netlist) (v : View) (f : ℕ) → f < fault_count c → is_open (mark v f) ≡ true → Counted c v → Counted c (searching c v f)
counted_searched c v f lt free k = cond_both (ltb (length v.vectors) most) (entering v f (found c f)) v (Counted c) (λ _. counted_entered c v f (found c f) lt free k) (λ _. k)

counted_swept_new : (c : Netlist) (n : ℕ) (v : View) → Counted c v → Counted c (sweeping_new c n v)
counted_swept_new c n v k = cond_both (ltb n (length v.vectors)) (sweeping c v n) v (Counted c) (λ _. counted_swept c v n k) (λ _. k)

counted_worked : (c : Netlist) (v : View) (f : ℕ) → f < fault_count c → Counted c v → Counted c (working c v f)
counted_worked c v f lt k =
    cond_both (is_open (mark v f)) (sweeping_new c (length v.vectors) (closing (searching c (taking v f) f) f)) v (Counted c)
    (λ (t : is_open (mark v f) ≡ true).
    let before : Counted c (taking v f) = record { all_marked = k.all_marked; own_fault = k.own_fault } in
    let searched : Counted c (searching c (taking v f) f) = counted_searched c (taking v f) f lt t before in
    counted_swept_new c (length v.vectors) (closing (searching c (taking v f) f) f) (record { all_marked = searched.all_marked; own_fault = searched.own_fault }))
    (λ _. k)

pub counted_to : (c : Netlist) (n : ℕ) → n ≤ fault_count c → Counted c (worked_to c n)
counted_to c zero le = counted_new c
counted_to c (suc n) le = counted_worked c (worked_to c n) n (omega (arith, le)) (counted_to c n (omega (arith, le)))

pub sheet_modest : (c : Netlist) → NoMoreVectorsThanDetectedFaults (sheet_view c)
unfolding sheet_view
sheet_modest c = (counted_to c (fault_count c) (omega arith)).own_fault

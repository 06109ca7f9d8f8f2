-- Which lines a sheet has: one for each vector, and for a fault the line of its mark and no other.
use Rattle.std.proofs.Common.{◌≡◌, ℕ, zero, suc, ◌+◌, ◌^◌, ◌<◌, ◌≤◌, false, cond, ◌⊎◌, ◌↔◌, List, [], ◌∷◌, ◌++◌, reverse, length, get_or, codes, decimal, count_by, sym, refl, ap, ◌∙◌, subst, inl, inr, ⊎_elim, arith}
use mathlib.Core.HLevel.{⊥_prop}
use mathlib.Core.Logic.{∥∥₁_elim, ∥∥₁_map}
use Rattle.std.specs.Str.Parse.{digits_value}
use Rattle.std.proofs.lemmas.Fmt.{decimal_is_IsNumeral}
use Rattle.std.proofs.lemmas.List.{append_cancel_left, append_cancel_right, reverse-append}
use Rattle.std.proofs.lemmas.List.Sums.{sum_by-cons}
use Rattle.std.proofs.lemmas.Bool.{cases_lt, cases_order, true≢false}
use Rattle.card.specs.Netlists.{Lawful, Netlist}
use Rattle.vectors.specs.Vectors.{Cells}
use Rattle.faults.specs.Sites.{fault_count}
use Rattle.faults.proofs.Sited.{few_sites}
use Rattle.tester.specs.Characters.{characters}
use Rattle.tester.proofs.Showing.{length_characters}
use Rattle.tester.proofs.Truths.{good_nets_carry, truthful}
use Rattle.history.specs.Histories.{History, LeadsTo}
use Rattle.history.specs.Promises.{Promise, Stands}
use Rattle.history.specs.Views.{View, blank, is_detected, is_open, is_untestable, mark, most, vector_at}
use Rattle.history.specs.declared.mark.Mark.{Mark}
use Rattle.history.specs.declared.mark.Mark.TheVariants.{Open, Detected, Untestable}
use Rattle.report.specs.Lines.{ended, fault_line, fault_rows, head_line, numbered, open_line, sheet_lines, sheet_of, sheet_text, untestable_line, vector_line, vector_rows}
use Rattle.report.specs.Truths.{Among, Says, ShownByAPrintedVector, Tells, TellsTheTruth, TrueOfAVector, lines}
use Rattle.report.proofs.Breaks.{sheet_lines_lem}

-- ---- lines among lines

among_left : (l : List ℕ) (a b : List (List ℕ)) → Among l a → Among l (a ++ b)
among_left l [] b h = absurd h
among_left l (x ∷ a) b (inl e) = inl e
among_left l (x ∷ a) b (inr h) = inr (among_left l a b h)

among_right : (l : List ℕ) (a b : List (List ℕ)) → Among l b → Among l (a ++ b)
among_right l [] b h = h
among_right l (x ∷ a) b h = inr (among_right l a b h)

among_parts : (l : List ℕ) (a b : List (List ℕ)) → Among l (a ++ b) → Among l a ⊎ Among l b
among_parts l [] b h = inr h
among_parts l (x ∷ a) b (inl e) = inl (inl e)
among_parts l (x ∷ a) b (inr h) = ⊎_elim (λ k. inl (inr k)) inr (among_parts l a b h)

-- ---- one line and another

-- what the line of a fault says
abbrev called : Mark → List ℕ
called Open = codes "open"
called (Detected v) = []
called Untestable = codes "untestable"

-- the line before that
abbrev before : ℕ → List ℕ
before n = codes "fault " ++ decimal n ++ codes " "

same_number : (f n : ℕ) (w : List ℕ) → f < 2 ^ 64 → n < 2 ^ 64 → fault_line f w ≡ fault_line n w → f ≡ n
same_number f n w a b e =
    let one : before f ≡ before n = append_cancel_right (before f) (before n) w e in
    let two = append_cancel_right (codes "fault " ++ decimal f) (codes "fault " ++ decimal n) (codes " ") one in
    let three = append_cancel_left (codes "fault ") (decimal f) (decimal n) two in
    sym (decimal_is_IsNumeral f a).1 ∙ ap (digits_value 10) three ∙ (decimal_is_IsNumeral n b).1

last_byte : (a w : List ℕ) → get_or (reverse (a ++ w)) 0 0 ≡ get_or (reverse w ++ reverse a) 0 0
last_byte a w = ap (λ z. get_or z 0 0) (reverse-append a w)

other_word : (a b : List ℕ) → a ++ codes "open" ≡ b ++ codes "untestable" → ⊥
other_word a b e = let z : ◌≡◌ {A = ℕ} 110 101 = sym (last_byte a (codes "open")) ∙ ap (λ l. get_or (reverse l) 0 0) e ∙ last_byte b (codes "untestable") in omega (arith, z)

row_said : (f n : ℕ) (m x : Mark) → is_detected m ≡ false → f < 2 ^ 64 → n < 2 ^ 64 → Among (fault_line f (called m)) (fault_rows n x) → (f ≡ n) × (x ≡ m)
row_said f n (Detected v) x d a b h = absurd (true≢false d)
row_said f n Open Open d a b (inl e) = (same_number f n (codes "open") a b e, refl)
row_said f n Open Open d a b (inr h) = absurd h
row_said f n Open (Detected v) d a b h = absurd h
row_said f n Open Untestable d a b (inl e) = absurd (other_word (before f) (before n) e)
row_said f n Open Untestable d a b (inr h) = absurd h
row_said f n Untestable Open d a b (inl e) = absurd (other_word (before n) (before f) (sym e))
row_said f n Untestable Open d a b (inr h) = absurd h
row_said f n Untestable (Detected v) d a b h = absurd h
row_said f n Untestable Untestable d a b (inl e) = (same_number f n (codes "untestable") a b e, refl)
row_said f n Untestable Untestable d a b (inr h) = absurd h

own_row : (f n : ℕ) (m : Mark) → is_detected m ≡ false → f ≡ n → Among (fault_line f (called m)) (fault_rows n m)
own_row f n Open d e = inl (ap (λ (k : ℕ). fault_line k (codes "open")) e)
own_row f n (Detected v) d e = absurd (true≢false d)
own_row f n Untestable d e = inl (ap (λ (k : ℕ). fault_line k (codes "untestable")) e)

-- ---- the lines of the faults

pub record Said (f n : ℕ) (m : Mark) (ms : List Mark) : Type 0 where
  pub place : ℕ
  pub is_there : f ≡ n + place
  pub within : place < length ms
  pub marked : get_or ms place Open ≡ m

fault_said : (f : ℕ) (m : Mark) → is_detected m ≡ false → f < 2 ^ 64 → (n : ℕ) (ms : List Mark) → n + length ms ≤ 2 ^ 64 → Among (fault_line f (called m)) (numbered fault_rows n ms) → Said f n m ms
fault_said f m d a n [] l h = absurd h
fault_said f m d a n (x ∷ ms) l h =
    ⊎_elim
    (λ k. let s = row_said f n m x d a (omega arith) k in record { place = 0; is_there = omega (arith, s.0); within = omega arith; marked = s.1 })
    (λ k. let s = fault_said f m d a (suc n) ms (omega arith) k in record { place = suc s.place; is_there = omega (arith, s.is_there); within = omega (arith, s.within); marked = s.marked })
    (among_parts (fault_line f (called m)) (fault_rows n x) (numbered fault_rows (suc n) ms) h)

fault_says : (f : ℕ) (m : Mark) → is_detected m ≡ false → (n k : ℕ) (ms : List Mark) → f ≡ n + k → k < length ms → get_or ms k Open ≡ m → Among (fault_line f (called m)) (numbered fault_rows n ms)
fault_says f m d n k [] e l g = absurd (omega arith)
fault_says f m d n zero (x ∷ ms) e l g =
    among_left (fault_line f (called m)) (fault_rows n x) (numbered fault_rows (suc n) ms) (subst (λ (y : Mark). Among (fault_line f (called m)) (fault_rows n y)) (sym g) (own_row f n m d (omega arith)))
fault_says f m d n (suc k) (x ∷ ms) e l g = among_right (fault_line f (called m)) (fault_rows n x) (numbered fault_rows (suc n) ms) (fault_says f m d (suc n) k ms (omega arith) (omega arith) g)

-- ---- the other lines

no_head : (f a b c d : ℕ) (w : List ℕ) → fault_line f w ≡ head_line a b c d → ⊥
no_head f a b c d w e = let z : ◌≡◌ {A = ℕ} 32 115 = ap (λ l. get_or l 5 0) e in omega (arith, z)

no_vector : (f : ℕ) (w : List ℕ) (c : Netlist) (n : ℕ) (vs : List Cells) → Among (fault_line f w) (numbered (vector_rows c) n vs) → ⊥
no_vector f w c n [] h = h
no_vector f w c n (v ∷ vs) (inl e) = let z : ◌≡◌ {A = ℕ} 102 118 = ap (λ l. get_or l 0 0) e in omega (arith, z)
no_vector f w c n (v ∷ vs) (inr h) = no_vector f w c (suc n) vs h

vector_says : (c : Netlist) (i n k : ℕ) (vs : List Cells) → i ≡ n + k → k < length vs → Among (vector_line c i (get_or vs k blank)) (numbered (vector_rows c) n vs)
vector_says c i n k [] e l = absurd (omega arith)
vector_says c i n zero (v ∷ vs) e l = let z : i ≡ n = omega arith in inl (ap (λ (j : ℕ). vector_line c j v) z)
vector_says c i n (suc k) (v ∷ vs) e l = inr (vector_says c i (suc n) k vs (omega arith) (omega arith))

-- every line of a vector is true of it
vector_line_true : (c : Netlist) → Lawful c → (n : ℕ) (vs : List Cells) (line : List ℕ) → Among line (numbered (vector_rows c) n vs) → TrueOfAVector c line
vector_line_true c law n [] line h = absurd h
vector_line_true c law n (v ∷ vs) line (inl e) = record {
  number = n;
  cells = v;
  shown = characters c v;
  is_the_line = e;
  one_for_each_output = length_characters c v;
  a_bit_is_what_every_filling_makes = truthful c v law (good_nets_carry c v);
}
vector_line_true c law n (v ∷ vs) line (inr h) = vector_line_true c law (suc n) vs line h

-- no line of a fault begins with v
fault_first : (f : ℕ) (m : Mark) (line : List ℕ) → Among line (fault_rows f m) → get_or line 0 0 ≡ 0x76 → ⊥
fault_first f Open line (inl k) e = let z : ◌≡◌ {A = ℕ} 102 118 = sym (ap (λ l. get_or l 0 0) k) ∙ e in omega (arith, z)
fault_first f Open line (inr h) e = h
fault_first f (Detected v) line h e = h
fault_first f Untestable line (inl k) e = let z : ◌≡◌ {A = ℕ} 102 118 = sym (ap (λ l. get_or l 0 0) k) ∙ e in omega (arith, z)
fault_first f Untestable line (inr h) e = h

no_fault : (n : ℕ) (ms : List Mark) (line : List ℕ) → Among line (numbered fault_rows n ms) → get_or line 0 0 ≡ 0x76 → ⊥
no_fault n [] line h e = h
no_fault n (m ∷ ms) line h e =
    ⊎_elim (λ a. fault_first n m line a e) (λ a. no_fault (suc n) ms line a e) (among_parts line (fault_rows n m) (numbered fault_rows (suc n) ms) h)

-- ---- how many faults and vectors a job holds

kinds : (ms : List Mark) → count_by is_open ms + count_by is_detected ms + count_by is_untestable ms ≡ length ms
kinds [] = refl
kinds (Open ∷ ms) = omega (arith, sum_by-cons (λ x. cond (is_open x) 1 0) Open ms, sum_by-cons (λ x. cond (is_detected x) 1 0) Open ms, sum_by-cons (λ x. cond (is_untestable x) 1 0) Open ms, kinds ms)
kinds (Detected v ∷ ms) = omega (arith, sum_by-cons (λ x. cond (is_open x) 1 0) (Detected v) ms, sum_by-cons (λ x. cond (is_detected x) 1 0) (Detected v) ms, sum_by-cons (λ x. cond (is_untestable x) 1 0) (Detected v) ms, kinds ms)
kinds (Untestable ∷ ms) = omega (arith, sum_by-cons (λ x. cond (is_open x) 1 0) Untestable ms, sum_by-cons (λ x. cond (is_detected x) 1 0) Untestable ms, sum_by-cons (λ x. cond (is_untestable x) 1 0) Untestable ms, kinds ms)

pub all_faults : (c : Netlist) (v : View) → Stands c v → length v.marks ≡ fault_count c
all_faults c v s =
    ⊎_elim (λ e. e)
    (λ o. absurd (∥∥₁_elim s ⊥_prop (λ w. let k = kinds v.marks in let a = w.2.open_detected_and_untestable_are_all_faults in ⊎_elim (λ l. omega (arith, k, a, l)) (λ l. omega (arith, k, a, l)) o)))
    (cases_order (length v.marks) (fault_count c))

pub few_vectors : (c : Netlist) (v : View) → Stands c v → length v.vectors ≤ most
few_vectors c v s =
    ⊎_elim (λ l. absurd (∥∥₁_elim s ⊥_prop (λ w. let k = w.2.at_most_512_vectors in omega (arith, k, l)))) (λ l. l) (cases_lt most (length v.vectors))

pub few_faults : (c : Netlist) (v : View) → Lawful c → Stands c v → length v.marks ≤ 1532
few_faults c v law s = omega (arith, all_faults c v s, few_sites c law)

-- ---- the sheet

module _ (c : Netlist) (v : View) (law : Lawful c) (s : Stands c v) where
  held_lines : lines (sheet_of c v) ≡ sheet_lines c v.marks v.vectors
  held_lines = sheet_lines_lem c v.marks v.vectors (omega (arith, few_faults c v law s)) (omega (arith, few_vectors c v s))

  says : (f : ℕ) (x : Mark) → is_detected x ≡ false → f < fault_count c → Says (sheet_of c v) (fault_line f (called x)) ↔ (mark v f ≡ x)
  says f x d h =
      let line = fault_line f (called x) in
      let few = few_faults c v law s in
      let all = all_faults c v s in (
        λ t. ⊎_elim
            (λ e. absurd (no_head f _ _ _ _ (called x) e))
            (λ k. ⊎_elim
            (λ a. absurd (no_vector f (called x) c 0 v.vectors a))
            (λ a. let y = fault_said f x d (omega (arith, few, all)) 0 v.marks (omega (arith, few)) a in let z : f ≡ y.place = omega (arith, y.is_there) in ap (mark v) z ∙ y.marked)
            (among_parts line (numbered (vector_rows c) 0 v.vectors) (numbered fault_rows 0 v.marks) k))
            (subst (Among line) held_lines t),
        λ e. subst (Among line) (sym held_lines) (inr (among_right line (numbered (vector_rows c) 0 v.vectors) (numbered fault_rows 0 v.marks) (fault_says f x d 0 f v.marks (omega arith) (omega (arith, h, all)) e))),
      )

  listed : (i : ℕ) → i < length v.vectors → Says (sheet_of c v) (vector_line c i (vector_at v i))
  listed i h =
      let line = vector_line c i (vector_at v i) in
      subst (Among line) (sym held_lines) (inr (among_left line (numbered (vector_rows c) 0 v.vectors) (numbered fault_rows 0 v.marks) (vector_says c i 0 i v.vectors (omega arith) h)))

  whole : ended (sheet_lines c v.marks v.vectors) ≡ sheet_of c v
  unfolding sheet_text
  whole = refl

  head_said : Says (sheet_of c v) (head_line (fault_count c) (count_by is_detected v.marks) (count_by is_untestable v.marks) (count_by is_open v.marks))
  head_said =
      let line : ℕ → List ℕ = λ n. head_line n (count_by is_detected v.marks) (count_by is_untestable v.marks) (count_by is_open v.marks) in
      subst (Among (line (fault_count c))) (sym held_lines) (inl (ap line (sym (all_faults c v s))))

  -- a line that begins with v is that of a vector
  sheet_line_true : (line : List ℕ) → get_or line 0 0 ≡ 0x76 → Among line (sheet_lines c v.marks v.vectors) → TrueOfAVector c line
  sheet_line_true line e (inl k) = absurd (let z : ◌≡◌ {A = ℕ} 102 118 = sym (ap (λ l. get_or l 0 0) k) ∙ e in omega (arith, z))
  sheet_line_true line e (inr h) =
      ⊎_elim
      (λ a. vector_line_true c law 0 v.vectors line a)
      (λ a. absurd (no_fault 0 v.marks line a e))
      (among_parts line (numbered (vector_rows c) 0 v.vectors) (numbered fault_rows 0 v.marks) h)

  pub tells : Tells c v (sheet_of c v)
  tells =
      record {
        has_these_lines_and_no_others = held_lines;
        ends_with_its_last_line = ap ended held_lines ∙ whole;
        counts_the_marks_of_the_cards_faults = head_said;
        calls_a_fault_untestable_exactly_if_it_is_marked_so = λ f h. says f Untestable refl h;
        calls_a_fault_open_exactly_if_it_is_marked_so = λ f h. says f Open refl h;
        has_a_line_for_each_vector = listed;
        counts_as_many_faults_as_the_card_has = all_faults c v s;
      }

  -- a fault that has no line is detected, by a vector that has one
  shown : (f : ℕ) (m : Mark) → mark v f ≡ m → f < fault_count c → (Says (sheet_of c v) (untestable_line f) → ⊥) → (Says (sheet_of c v) (open_line f) → ⊥) → ∥ ShownByAPrintedVector c f (sheet_of c v) ∥₁
  shown f Open e h u o = absurd (o ((says f Open refl h).1 e))
  shown f Untestable e h u o = absurd (u ((says f Untestable refl h).1 e))
  shown f (Detected i) e h u o =
      ∥∥₁_map s (λ (w : (t : History) × LeadsTo c t v × Promise c t v).
      let k = w.2.every_filling_of_its_listed_vector_shows_a_detected_fault f i e in
      record { number = i; cells = vector_at v i; is_printed = listed i k.0; shows = k.1 })

  pub tells_the_truth : TellsTheTruth c (sheet_of c v)
  tells_the_truth =
      record {
        no_setting_shows_a_fault_called_untestable = λ f h t line e bits shows. ∥∥₁_elim s ⊥_prop (λ w. w.2.no_setting_shows_an_untestable_fault f ((says f Untestable refl h).0 t) line e bits shows);
        a_printed_vector_shows_a_fault_that_has_no_line = λ f h. shown f (mark v f) refl h;
        every_filling_makes_the_bits_printed_for_the_outputs = λ line t e. sheet_line_true line e (subst (Among line) held_lines t);
      }

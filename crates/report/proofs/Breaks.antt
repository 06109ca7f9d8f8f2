-- No line of a sheet has a byte 0A inside it, so that the lines of the text are the lines that made it.
use Rattle.std.proofs.Common.{◌≡◌, ℕ, suc, ◌+◌, ◌^◌, ◌<◌, ◌≤◌, Bool, true, not, ◌&&◌, eqb, List, [], ◌∷◌, ◌++◌, map, length, get_or, codes, decimal, count_by, sym, refl, ap, ◌∙◌, append_assoc, append-nil, arith}
use Rattle.std.specs.List.{AllByRecursion as All}
use Rattle.std.proofs.lemmas.Fmt.{decimal_is_IsNumeral}
use Rattle.std.proofs.ByRecursion.{All-append}
use Rattle.std.proofs.lemmas.Str.Parse.{digit_at}
use Rattle.std.proofs.lemmas.List.Sums.{count_by-le-length}
use Rattle.std.proofs.lemmas.Bool.{and_from, and_parts, cond-false, ne_eqb, not_from_false, not-true}
use Rattle.card.specs.Netlists.{Netlist}
use Rattle.signal.specs.declared.ternary.Ternary.{Ternary}
use Rattle.signal.specs.declared.ternary.Ternary.TheVariants.{Low, High, X}
use Rattle.vectors.specs.Rows.{character_of, printed}
use Rattle.vectors.specs.Vectors.{Cells, start}
use Rattle.tester.specs.Characters.{characters, good_nets}
use Rattle.history.specs.Views.{is_detected, is_open, is_untestable}
use Rattle.history.specs.declared.mark.Mark.{Mark}
use Rattle.history.specs.declared.mark.Mark.TheVariants.{Open, Detected, Untestable}
use Rattle.report.specs.Lines.{ended, fault_line, fault_rows, head_line, numbered, sheet_lines, sheet_text, vector_line, vector_rows}
use Rattle.report.specs.Truths.{lines, lines_from}

abbrev unbroken : List ℕ → Bool
unbroken [] = true
unbroken (b ∷ bs) = not (eqb b 10) && unbroken bs

-- no byte of the line is 0A
pub record Unbroken (line : List ℕ) : Type 0 where
  pub no_break : unbroken line ≡ true

-- ---- what a line is made of

word : (w : List ℕ) → unbroken w ≡ true → Unbroken w
word w e = record { no_break = e }

both : (a b : List ℕ) → unbroken a ≡ true → unbroken b ≡ true → unbroken (a ++ b) ≡ true
both [] b e f = f
both (x ∷ a) b e f = let p = and_parts (not (eqb x 10)) (unbroken a) e in and_from (not (eqb x 10)) (unbroken (a ++ b)) p.0 (both a b p.1 f)

join : {a b : List ℕ} → Unbroken a → Unbroken b → Unbroken (a ++ b)
join {a} {b} p q = record { no_break = both a b p.no_break q.no_break }

by_place : (l : List ℕ) → ((i : ℕ) → i < length l → get_or l i 0 ≡ 10 → ⊥) → unbroken l ≡ true
by_place [] f = refl
by_place (x ∷ l) f = and_from (not (eqb x 10)) (unbroken l) (not_from_false (eqb x 10) (ne_eqb x 10 (f 0 (omega arith)))) (by_place l (λ i h. f (suc i) (omega arith)))

digits : (n : ℕ) → n < 2 ^ 64 → Unbroken (decimal n)
digits n h = record { no_break = by_place (decimal n) (λ i l e. let d = digit_at (decimal n) i (decimal_is_IsNumeral n h).0.1 l in omega (arith, d.0, e)) }

cell : (t : Ternary) (l : List ℕ) → unbroken l ≡ true → unbroken (character_of t ∷ l) ≡ true
cell Low l e = e
cell High l e = e
cell X l e = e

cells : {Y : Type 0} (f : Y → Ternary) (ys : List Y) → unbroken (map (λ y. character_of (f y)) ys) ≡ true
cells f [] = refl
cells f (y ∷ ys) = cell (f y) (map (λ z. character_of (f z)) ys) (cells f ys)

-- ---- the lines

head_unbroken : (f d u o : ℕ) → f < 2 ^ 64 → d < 2 ^ 64 → u < 2 ^ 64 → o < 2 ^ 64 → Unbroken (head_line f d u o)
head_unbroken f d u o a b c e =
    join (join (join (join (join (join (join (word (codes "faults ") refl) (digits f a)) (word (codes " detected ") refl)) (digits d b)) (word (codes " untestable ") refl)) (digits u c)) (word (codes " open ") refl)) (digits o e)

vector_unbroken : (c : Netlist) (n : ℕ) (v : Cells) → n < 2 ^ 64 → Unbroken (vector_line c n v)
vector_unbroken c n v h =
    join (join (join (join (join (word (codes "vector ") refl) (digits n h)) (word (codes " ") refl)) (word (printed c.inputs v) (cells (λ t. t) (start c.inputs v)))) (word (codes " ") refl))
    (word (characters c v) (cells (λ net. get_or (good_nets c v) net X) c.outputs))

fault_unbroken : (n : ℕ) (w : List ℕ) → n < 2 ^ 64 → unbroken w ≡ true → Unbroken (fault_line n w)
fault_unbroken n w h e = join (join (join (word (codes "fault ") refl) (digits n h)) (word (codes " ") refl)) (word w e)

row_unbroken : (n : ℕ) (m : Mark) → n < 2 ^ 64 → All Unbroken (fault_rows n m)
row_unbroken n Open h = (fault_unbroken n (codes "open") h refl, tt)
row_unbroken n (Detected v) h = tt
row_unbroken n Untestable h = (fault_unbroken n (codes "untestable") h refl, tt)

all_numbered : {Y : Type 0} (P : List ℕ → Type 0) (rows : ℕ → Y → List (List ℕ)) (top : ℕ) → ((i : ℕ) (y : Y) → i < top → All P (rows i y)) → (n : ℕ) (ys : List Y) → n + length ys ≤ top → All P (numbered rows n ys)
all_numbered P rows top f n [] h = tt
all_numbered P rows top f n (y ∷ ys) h = All-append P (rows n y) (numbered rows (suc n) ys) (f n y (omega arith)) (all_numbered P rows top f (suc n) ys (omega arith))

sheet_unbroken : (c : Netlist) (marks : List Mark) (vectors : List Cells) → length marks < 2 ^ 64 → length vectors < 2 ^ 64 → All Unbroken (sheet_lines c marks vectors)
sheet_unbroken c marks vectors m v = (
  head_unbroken (length marks) (count_by is_detected marks) (count_by is_untestable marks) (count_by is_open marks) m (omega (arith, count_by-le-length is_detected marks)) (omega (arith, count_by-le-length is_untestable marks)) (omega (arith, count_by-le-length is_open marks)),
  All-append Unbroken (numbered (vector_rows c) 0 vectors) (numbered fault_rows 0 marks)
      (all_numbered Unbroken (vector_rows c) (2 ^ 64) (λ i x h. (vector_unbroken c i x h, tt)) 0 vectors (omega arith))
      (all_numbered Unbroken fault_rows (2 ^ 64) row_unbroken 0 marks (omega arith)),
)

-- ---- the lines of a text

first_line : (begun l rest : List ℕ) → unbroken l ≡ true → lines_from begun (l ++ (10 ∷ rest)) ≡ (begun ++ l) ∷ lines_from [] rest
first_line begun [] rest e = ap (λ z. z ∷ lines_from [] rest) (sym (append-nil begun))
first_line begun (b ∷ l) rest e =
    let p = and_parts (not (eqb b 10)) (unbroken l) e in
    cond-false (eqb b 10) _ _ (not-true (eqb b 10) p.0) ∙ first_line (begun ++ (b ∷ [])) l rest p.1 ∙ ap (λ z. z ∷ lines_from [] rest) (append_assoc begun (b ∷ []) l)

lines_ended : (ls : List (List ℕ)) → All Unbroken ls → lines (ended ls) ≡ ls
lines_ended [] a = refl
lines_ended (l ∷ ls) a = first_line [] l (ended ls) a.0.no_break ∙ ap (λ z. l ∷ z) (lines_ended ls a.1)

pub sheet_lines_lem : (c : Netlist) (marks : List Mark) (vectors : List Cells) → length marks < 2 ^ 64 → length vectors < 2 ^ 64 → lines (sheet_text c marks vectors) ≡ sheet_lines c marks vectors
unfolding sheet_text
sheet_lines_lem c marks vectors m v = lines_ended (sheet_lines c marks vectors) (sheet_unbroken c marks vectors m v)

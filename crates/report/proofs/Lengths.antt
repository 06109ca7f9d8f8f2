-- How long a sheet can be: at most 77 bytes for a vector, 22 for a fault that is not detected, and a short head.
use Rattle.std.proofs.Common.{◌≡◌, ℕ, suc, ◌+◌, ◌*◌, ◌^◌, ◌<◌, ◌≤◌, cond, List, [], ◌∷◌, ◌++◌, length, codes, count_by, ap, ◌∙◌, arith, length-append}
use Rattle.std.proofs.lemmas.Fmt.{length-decimal-le}
use Rattle.std.proofs.lemmas.List.{length-map}
use Rattle.std.proofs.lemmas.List.Sums.{count_by-le-length, sum_by-cons}
use Rattle.card.specs.Netlists.{Lawful, Netlist}
use Rattle.vectors.specs.Rows.{character_of, printed}
use Rattle.vectors.specs.Vectors.{Cells, start}
use Rattle.vectors.proofs.Fillings.{length_cells}
use Rattle.tester.proofs.Showing.{length_characters}
use Rattle.history.specs.Views.{View, is_detected, is_open, is_untestable, most}
use Rattle.history.specs.declared.mark.Mark.{Mark}
use Rattle.history.specs.declared.mark.Mark.TheVariants.{Open, Detected, Untestable}
use Rattle.report.specs.Limits.{NoMoreVectorsThanDetectedFaults, sheet_room}
use Rattle.report.specs.Lines.{ended, fault_line, fault_rows, head_line, head_of, numbered, refusal_text, sheet_of, sheet_text, vector_line, vector_rows}
use Rattle.report.proofs.Putting.{ended_append}

vector_long : (c : Netlist) (n : ℕ) (v : Cells) → Lawful c → n < 1000 → length (vector_line c n v) ≤ 76
vector_long c n v law h =
    let d = length-decimal-le 3 n (omega arith) (omega arith) (omega arith) in
    let k : length (printed c.inputs v) ≡ c.inputs = length-map (start c.inputs v) character_of ∙ length_cells v 0 c.inputs in
    let m = length_characters c v in
    let ki = law.inputs_fit in
    let mi = law.outputs_fit in
    simp length-append (omega (arith, d, k, m, ki, mi))

fault_long : (n : ℕ) (w : List ℕ) → n < 10000 → length (fault_line n w) ≤ 11 + length w
fault_long n w h = let d = length-decimal-le 4 n (omega arith) (omega arith) (omega arith) in simp length-append (omega (arith, d))

vectors_short : (c : Netlist) → Lawful c → (n : ℕ) (vs : List Cells) → n + length vs ≤ 1000 → length (ended (numbered (vector_rows c) n vs)) ≤ 77 * length vs
vectors_short c law n [] h = omega arith
vectors_short c law n (v ∷ vs) h =
    let rest = ended (numbered (vector_rows c) (suc n) vs) in
    let l = length-append (vector_line c n v) (10 ∷ rest) in
    let one = vector_long c n v law (omega arith) in
    let more = vectors_short c law (suc n) vs (omega arith) in
    omega (arith, l, one, more)

counted_one : (m : Mark) (ms : List Mark) → count_by is_detected (m ∷ ms) ≡ cond (is_detected m) 1 0 + count_by is_detected ms
counted_one m ms = sum_by-cons (λ x. cond (is_detected x) 1 0) m ms

faults_short : (n : ℕ) (ms : List Mark) → n + length ms ≤ 10000 → length (ended (numbered fault_rows n ms)) + 22 * count_by is_detected ms ≤ 22 * length ms
faults_short n [] h = omega arith
faults_short n (Open ∷ ms) h =
    let l = length-append (fault_line n (codes "open")) (10 ∷ ended (numbered fault_rows (suc n) ms)) in
    let one = fault_long n (codes "open") (omega arith) in
    omega (arith, l, one, counted_one Open ms, faults_short (suc n) ms (omega arith))
faults_short n (Detected v ∷ ms) h = omega (arith, counted_one (Detected v) ms, faults_short (suc n) ms (omega arith))
faults_short n (Untestable ∷ ms) h =
    let l = length-append (fault_line n (codes "untestable")) (10 ∷ ended (numbered fault_rows (suc n) ms)) in
    let one = fault_long n (codes "untestable") (omega arith) in
    omega (arith, l, one, counted_one Untestable ms, faults_short (suc n) ms (omega arith))

head_long : (f d u o : ℕ) → f < 10000 → d < 10000 → u < 10000 → o < 10000 → length (head_line f d u o) ≤ 51
head_long f d u o a b c e =
    let p = length-decimal-le 4 f (omega arith) (omega arith) (omega arith) in
    let q = length-decimal-le 4 d (omega arith) (omega arith) (omega arith) in
    let r = length-decimal-le 4 u (omega arith) (omega arith) (omega arith) in
    let s = length-decimal-le 4 o (omega arith) (omega arith) (omega arith) in
    simp length-append (omega (arith, p, q, r, s))

-- with a detected fault for each vector, the sheet fits
pub sheet_fits : (c : Netlist) (v : View) → Lawful c → length v.marks ≤ 1532 → length v.vectors ≤ most → NoMoreVectorsThanDetectedFaults v → length (sheet_of c v) ≤ sheet_room
unfolding sheet_text
sheet_fits c view law few list own =
    let marks = view.marks in
    let vectors = view.vectors in
    let vs = numbered (vector_rows c) 0 vectors in
    let fs = numbered fault_rows 0 marks in
    let head = head_long (length marks) (count_by is_detected marks) (count_by is_untestable marks) (count_by is_open marks) (omega arith)
    (omega (arith, count_by-le-length is_detected marks, few)) (omega (arith, count_by-le-length is_untestable marks, few)) (omega (arith, count_by-le-length is_open marks, few)) in
    let l = length-append (head_of marks) (10 ∷ ended (vs ++ fs)) in
    let parts = ap length (ended_append vs fs) ∙ length-append (ended vs) (ended fs) in
    let v = vectors_short c law 0 vectors (omega (arith, list)) in
    let f = faults_short 0 marks (omega (arith, few)) in
    omega (arith, head, l, parts, v, f, few, list, own)

pub refusal_fits : (number offset : ℕ) → number < 256 → offset < 2 ^ 64 → length (refusal_text number offset) ≤ 41
unfolding refusal_text
refusal_fits number offset a b =
    let p = length-decimal-le 3 number (omega arith) (omega arith) (omega arith) in
    let q = length-decimal-le 20 offset (omega arith) (omega arith) b in
    simp length-append (omega (arith, p, q))

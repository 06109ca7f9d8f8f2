-- The loop of a sweep, fault by fault.
use Rattle.std.proofs.Common.{◌≡◌, ℕ, ◌+◌, ◌<◌, ◌≤◌, Bool, true, false, cond, not, ◌&&◌, List, map, length, get_or, set, Ok, Err, count_by, sym, refl, ap, ap₂, ◌∙◌, subst, ⊎_elim, arith, length-set, get_or-set_other, get_or-set_same}
use lib.ListN.{length-map}
use Rattle.std.specs.List.{range_with_len}
use Rattle.std.proofs.lemmas.List.FromFn.{fill_by_all, sum_by-map-range_with_len_more}
use Rattle.std.proofs.lemmas.List.{get_or-map, map-set}
use Rattle.std.proofs.lemmas.Bool.{cases_eq, lt-ltb}
use Rattle.card.specs.Netlists.{Netlist}
use Rattle.vectors.specs.Vectors.{Cells}
use Rattle.vectors.specs.Views.{cells_of}
use Rattle.vectors.specs.declared.vector.Vector.{Vector}
use Rattle.faults.specs.Catching.{catches_fault}
use Rattle.history.specs.Changing.{sweeping, swept_mark}
use Rattle.history.specs.Granting.{sweep_count, sweeps}
use Rattle.history.specs.Views.{View, blank, is_open, is_taken, mark, vector_at}
use Rattle.history.specs.declared.mark.Mark.{Mark}
use Rattle.history.specs.declared.mark.Mark.TheVariants.{Open, Detected}
use Rattle.history.specs.declared.refusal.VectorRefusal.TheVariants as vector
use Rattle.job.specs.Tables.{mark_of, taken_of}
use Rattle.job.specs.declared.shown.Marked.{Marked}
use Rattle.job.proofs.Tabled.{kept}

abbrev pub sweeps_by : Netlist → View → Cells → ℕ → Bool
sweeps_by c v x f = is_open (mark v f) && (not (is_taken v f) && catches_fault c f x)

-- the mark of a fault
abbrev pub mark_at : List Marked → ℕ → Mark
mark_at xs f = get_or (map mark_of xs) f Open

-- a test that was made of a response of this card
pub asked_of : (m c : Netlist) (x : Cells) (k : Mark) (t : Bool) (f : ℕ) (b : Bool) → m ≡ c → b ≡ (is_open k && (not t && catches_fault m f x)) → b ≡ (is_open k && (not t && catches_fault c f x))
asked_of m c x k t f b p e = e ∙ ap (λ (n : Netlist). is_open k && (not t && catches_fault n f x)) p

at_most_one : (b : Bool) → cond b 1 0 ≤ 1
at_most_one true = omega arith
at_most_one false = omega arith

-- the faults below f were swept, and n of them were marked
pub record SweptTo (c : Netlist) (v : View) (i : ℕ) (x : Cells) (f n : ℕ) (ys : List Marked) : Type 0 where
  pub taken : map taken_of ys ≡ v.taken
  pub long : length ys ≡ length v.marks
  pub done : (g : ℕ) → g < f → mark_at ys g ≡ cond (sweeps_by c v x g) (Detected i) (mark v g)
  pub todo : (g : ℕ) → f ≤ g → mark_at ys g ≡ mark v g
  pub count : n ≡ count_by (λ b. b) (map (sweeps_by c v x) (range_with_len 0 f))
  pub few : n ≤ f

module _ (c : Netlist) (v : View) (i : ℕ) (x : Cells) (f n : ℕ) (ys : List Marked) (s : Marked) (lt : f < length ys) (is : s ≡ get_or ys f s) (so : SweptTo c v i x f n ys) where
  -- the test was made of what stood there at first
  told : (b : Bool) → b ≡ (is_open s.mark && (not s.taken && catches_fault c f x)) → b ≡ sweeps_by c v x f
  told b e =
      let m : s.mark ≡ mark v f = ap mark_of is ∙ sym (get_or-map mark_of ys f s Open lt) ∙ so.todo f (omega arith) in
      let t : s.taken ≡ is_taken v f = ap taken_of is ∙ sym (get_or-map taken_of ys f s false lt) ∙ ap (λ (ts : List Bool). get_or ts f false) so.taken in
      e ∙ ap₂ (λ (k : Mark) (b : Bool). is_open k && (not b && catches_fault c f x)) m t

  counted : (b : Bool) → b ≡ sweeps_by c v x f → n + cond b 1 0 ≡ count_by (λ k. k) (map (sweeps_by c v x) (range_with_len 0 (f + 1)))
  counted b e =
      let more = sum_by-map-range_with_len_more (λ (k : Bool). cond k 1 0) (sweeps_by c v x) 0 f f (omega arith) in
      let here : ◌≡◌ {A = ℕ} (cond b 1 0) (cond (sweeps_by c v x f) 1 0) = ap (λ (k : Bool). cond k 1 0) e in
      omega (arith, more, here, so.count)

  -- the state of this fault is written; no other changes
  stepped : (b : Bool) (zs : List Marked) → b ≡ (is_open s.mark && (not s.taken && catches_fault c f x)) → map taken_of zs ≡ map taken_of ys → map mark_of zs ≡ set (map mark_of ys) f (cond b (Detected i) s.mark) → SweptTo c v i x (f + 1) (n + cond b 1 0) zs
  stepped b zs e ts ms =
      let swept : b ≡ sweeps_by c v x f = told b e in
      let was : s.mark ≡ mark v f = ap mark_of is ∙ sym (get_or-map mark_of ys f s Open lt) ∙ so.todo f (omega arith) in
      let fits : f < length (map mark_of ys) = omega (arith, length-map ys mark_of) in
      let here : mark_at zs f ≡ cond (sweeps_by c v x f) (Detected i) (mark v f) =
      ap (λ (l : List Mark). get_or l f Open) ms ∙ get_or-set_same (map mark_of ys) f (cond b (Detected i) s.mark) Open fits ∙ ap₂ (λ (k : Bool) (m : Mark). cond k (Detected i) m) swept was in
      let there : (g : ℕ) → (g ≡ f → ⊥) → mark_at zs g ≡ mark_at ys g = λ g ne. ap (λ (l : List Mark). get_or l g Open) ms ∙ get_or-set_other (map mark_of ys) f g (cond b (Detected i) s.mark) Open ne in
      record {
        taken = ts ∙ so.taken;
        long = sym (length-map zs mark_of) ∙ ap length ms ∙ length-set (map mark_of ys) f (cond b (Detected i) s.mark) ∙ length-map ys mark_of ∙ so.long;
        done = λ g below.
            ⊎_elim
            (λ (eq : g ≡ f). subst (λ (k : ℕ). mark_at zs k ≡ cond (sweeps_by c v x k) (Detected i) (mark v k)) (sym eq) here)
            (λ (ne : g ≡ f → ⊥). there g ne ∙ so.done g (omega arith))
            (cases_eq g f);
        todo = λ g le. there g (λ eq. omega arith) ∙ so.todo g (omega arith);
        count = counted b swept;
        few = let one = at_most_one b in omega (arith, so.few, one);
      }

  pub swept_yes : (t : Marked) → true ≡ (is_open s.mark && (not s.taken && catches_fault c f x)) → t.mark ≡ Detected i → t.taken ≡ s.taken → SweptTo c v i x (f + 1) (n + 1) (set ys f t)
  swept_yes t e m k = stepped true (set ys f t) e (kept taken_of ys f s t is k) (map-set mark_of ys f t ∙ ap (set (map mark_of ys) f) m)

  pub swept_no : false ≡ (is_open s.mark && (not s.taken && catches_fault c f x)) → SweptTo c v i x (f + 1) n (set ys f s)
  swept_no e = subst (λ (k : ℕ). SweptTo c v i x (f + 1) k (set ys f s)) (omega arith) (stepped false (set ys f s) e (kept taken_of ys f s s is refl) (map-set mark_of ys f s))

-- the cells of a listed vector
pub cells_listed : (xs : List Vector) (i : ℕ) (x : Vector) → i < length xs → x ≡ get_or xs i x → cells_of x ≡ get_or (map cells_of xs) i blank
cells_listed xs i x lt is = ap cells_of is ∙ sym (get_or-map cells_of xs i x blank lt)

module _ (c : Netlist) (v : View) (i : ℕ) (x : Cells) (f n : ℕ) (ys : List Marked) (lt : i < length v.vectors) (is : x ≡ vector_at v i) (over : f ≡ length v.marks) (so : SweptTo c v i x f n ys) where
  pub swept_count : Ok n ≡ sweeps c v i
  swept_count =
      let all : n ≡ sweep_count c v i =
      so.count ∙ ap (λ (k : ℕ). count_by (λ b. b) (map (sweeps_by c v x) (range_with_len 0 k))) over
      ∙ ap (λ (y : Cells). count_by (λ b. b) (map (sweeps_by c v y) (range_with_len 0 (length v.marks)))) is in
      ap Ok all ∙ ap (λ (b : Bool). cond b (Ok (sweep_count c v i)) (Err vector.NoSuchVector)) (sym (lt-ltb i (length v.vectors) lt))

  pub swept_view : ◌≡◌ {A = View} (record { marks = map mark_of ys; taken = map taken_of ys; vectors = v.vectors }) (sweeping c v i)
  swept_view =
      let marks : map mark_of ys ≡ map (swept_mark c v i) (range_with_len 0 (length v.marks)) =
      fill_by_all (swept_mark c v i) (map mark_of ys) (length v.marks) Open (length-map ys mark_of ∙ so.long)
      (λ g below. so.done g (omega (arith, below, over)) ∙ ap (λ (y : Cells). cond (sweeps_by c v y g) (Detected i) (mark v g)) is) in
      λ k. record { marks = marks k; taken = so.taken k; vectors = v.vectors }

-- What single calls make of the lists that a job holds.
use Rattle.std.proofs.Common.{◌≡◌, ℕ, zero, suc, ◌+◌, ◌≤◌, Bool, true, false, cond, ltb, List, [], ◌∷◌, ◌++◌, map, replicate, length, get_or, set, Ok, Err, vec_items, count_by, sym, refl, ap, ◌∙◌, subst}
use lib.ListN.{length-map}
use Rattle.std.proofs.lemmas.List.{map-set, map_push, set-get_or}
use Rattle.std.proofs.lemmas.List.Sums.{sum_by-cons}
use Rattle.std.proofs.lemmas.Bool.{le-ltb}
use Rattle.card.specs.Netlists.{Netlist}
use Rattle.vectors.specs.Vectors.{Cells}
use Rattle.vectors.specs.Views.{cells_of}
use Rattle.vectors.specs.declared.vector.Vector.{Vector}
use Rattle.faults.specs.Sites.{fault_count}
use Rattle.asking.specs.Findings.{Finding, shown, untestable}
use Rattle.history.specs.Changing.{adding, entering}
use Rattle.history.specs.Granting.{searches}
use Rattle.history.specs.Views.{View, is_open, is_taken, mark, most, new_view}
use Rattle.history.specs.declared.mark.Mark.{Mark}
use Rattle.history.specs.declared.mark.Mark.TheVariants.{Detected, Open, Untestable}
use Rattle.history.specs.declared.refusal.SearchRefusal.TheVariants as seek
use Rattle.job.specs.Tables.{card_of, mark_of, taken_of, view_of}
use Rattle.job.specs.declared.shown.Marked.{Marked}
use Rattle.job.specs.declared.table.Table.{Table}

-- ---- marks and flags

-- what a table of these states shows
abbrev pub seen : List Marked → List Cells → View
seen xs cs = record { marks = map mark_of xs; taken = map taken_of xs; vectors = cs }

-- what is read of a fault and does not change when its state is written
pub kept : {Y : Type 0} (g : Marked → Y) (xs : List Marked) (f : ℕ) (s t : Marked) → s ≡ get_or xs f s → g t ≡ g s → map g (set xs f t) ≡ map g xs
kept {Y} g xs f s t is same =
    map-set g xs f t ∙ ap (λ (y : Y). set (map g xs) f y) (same ∙ ap g is) ∙ sym (map-set g xs f (get_or xs f s)) ∙ ap (map g) (set-get_or xs f s)

-- a flag is written, and the mark beside it stays
pub flagged : (xs : List Marked) (cs : List Cells) (f : ℕ) (s : Marked) (b : Bool) → s ≡ get_or xs f s
    → seen (set xs f (record { mark = s.mark; taken = b })) cs ≡ record { marks = map mark_of xs; taken = set (map taken_of xs) f b; vectors = cs }
flagged xs cs f s b is =
    let t : Marked = record { mark = s.mark; taken = b } in
    λ i. record { marks = kept mark_of xs f s t is refl i; taken = map-set taken_of xs f t i; vectors = cs }

-- a mark is written, and the flag beside it stays
pub marked : (xs : List Marked) (cs : List Cells) (f : ℕ) (s : Marked) (m : Mark) → s ≡ get_or xs f s
    → seen (set xs f (record { mark = m; taken = s.taken })) cs ≡ record { marks = set (map mark_of xs) f m; taken = map taken_of xs; vectors = cs }
marked xs cs f s m is =
    let t : Marked = record { mark = m; taken = s.taken } in
    λ i. record { marks = map-set mark_of xs f t i; taken = kept taken_of xs f s t is refl i; vectors = cs }

-- a count of marks or flags is a count of states
pub counted : {X Y : Type 0} (p : Y → Bool) (g : X → Y) (xs : List X) → count_by p (map g xs) ≡ count_by (λ x. p (g x)) xs
counted p g [] = refl
counted p g (x ∷ xs) = sum_by-cons (λ y. cond (p y) 1 0) (g x) (map g xs) ∙ ap (λ (n : ℕ). cond (p (g x)) 1 0 + n) (counted p g xs) ∙ sym (sum_by-cons (λ y. cond (p (g y)) 1 0) x xs)

-- of as many states that are alike
pub map_replicate : {X Y : Type 0} (g : X → Y) (n : ℕ) (x : X) → map g (replicate n x) ≡ replicate n (g x)
map_replicate g zero x = refl
map_replicate {Y = Y} g (suc n) x = ap (λ (ys : List Y). g x ∷ ys) (map_replicate g n x)

pub new_seen : (xs : List Marked) (cs : List Cells) (n : ℕ) (c : Netlist) → xs ≡ replicate n (record { mark = Open; taken = false }) → n ≡ fault_count c → cs ≡ [] → seen xs cs ≡ new_view c
new_seen xs cs n c e many none =
    let m : map mark_of xs ≡ replicate (fault_count c) Open = ap (map mark_of) e ∙ map_replicate mark_of n (record { mark = Open; taken = false }) ∙ ap (λ (k : ℕ). replicate k Open) many in
    let t : map taken_of xs ≡ replicate (fault_count c) false = ap (map taken_of) e ∙ map_replicate taken_of n (record { mark = Open; taken = false }) ∙ ap (λ (k : ℕ). replicate k false) many in
    λ i. record { marks = m i; taken = t i; vectors = none i }

-- as many marks, and as many flags, as the card has faults
pub all_marked : (t : Table) → length (view_of t).marks ≡ fault_count (card_of t)
all_marked t = length-map (vec_items t.states) mark_of ∙ sym t.states.ok.0 ∙ t.a_mark_and_a_flag_for_each_fault

pub all_flagged : (t : Table) → length (view_of t).taken ≡ fault_count (card_of t)
all_flagged t = length-map (vec_items t.states) taken_of ∙ sym t.states.ok.0 ∙ t.a_mark_and_a_flag_for_each_fault

-- as many vectors as are counted
pub all_listed : (t : Table) → t.vectors.len ≡ length (view_of t).vectors
all_listed t = t.vectors.ok.0 ∙ sym (length-map (vec_items t.vectors) cells_of)

-- ---- entering

module _ (xs : List Marked) (vs : List Vector) (f : ℕ) (s : Marked) (found : Finding) (is : s ≡ get_or xs f s) where
  pub entered_shown : (ws : List Vector) (n : ℕ) (x : Vector) → found ≡ shown (cells_of x) → n ≡ length vs → ws ≡ vs ++ (x ∷ []) → seen (set xs f (record { mark = Detected n; taken = s.taken })) (map cells_of ws) ≡ entering (seen xs (map cells_of vs)) f found
  entered_shown ws n x e k p =
      let last : n ≡ length (map cells_of vs) = k ∙ sym (length-map vs cells_of) in
      let more : map cells_of ws ≡ map cells_of vs ++ (cells_of x ∷ []) = ap (map cells_of) p ∙ map_push cells_of vs x in
      let to : ◌≡◌ {A = View} (record { marks = set (map mark_of xs) f (Detected n); taken = map taken_of xs; vectors = map cells_of ws }) (entering (seen xs (map cells_of vs)) f (shown (cells_of x))) =
      λ i. record { marks = set (map mark_of xs) f (Detected (last i)); taken = map taken_of xs; vectors = more i } in
      marked xs (map cells_of ws) f s (Detected n) is ∙ to ∙ ap (entering (seen xs (map cells_of vs)) f) (sym e)

  pub entered_untestable : found ≡ untestable → seen (set xs f (record { mark = Untestable; taken = s.taken })) (map cells_of vs) ≡ entering (seen xs (map cells_of vs)) f found
  entered_untestable e = marked xs (map cells_of vs) f s Untestable is ∙ ap (entering (seen xs (map cells_of vs)) f) (sym e)

pub added_last : (ms : List Mark) (ts : List Bool) (xs ys : List Vector) (x : Vector) (z : Cells) → cells_of x ≡ z → ys ≡ xs ++ (x ∷ [])
    → ◌≡◌ {A = View} (record { marks = ms; taken = ts; vectors = map cells_of ys }) (adding (record { marks = ms; taken = ts; vectors = map cells_of xs }) z)
added_last ms ts xs ys x z is p =
    let q : map cells_of ys ≡ map cells_of xs ++ (z ∷ []) = ap (map cells_of) p ∙ map_push cells_of xs x ∙ ap (λ (y : Cells). map cells_of xs ++ (y ∷ [])) is in
    λ i. record { marks = ms; taken = ts; vectors = q i }

-- ---- refused searches

module _ (v : View) (f : ℕ) (held : true ≡ is_taken v f) (undecided : true ≡ is_open (mark v f)) where
  tested : searches v f ≡ cond (ltb (length v.vectors) most) (Ok tt) (Err seek.Full)
  tested =
      let a : is_taken v f ≡ true = sym held in
      let b : is_open (mark v f) ≡ true = sym undecided in
      λ i. cond (a i) (cond (b i) (cond (ltb (length v.vectors) most) (Ok tt) (Err seek.Full)) (Err seek.Decided)) (Err seek.NotTaken)

  pub search_full : most ≤ length v.vectors → searches v f ≡ Err seek.Full
  search_full le = tested ∙ ap (λ (b : Bool). cond b (Ok tt) (Err seek.Full)) (le-ltb (length v.vectors) most le)

-- the flag and the mark that were read are those of the ticket's fault
module _ (v : View) (g f : ℕ) (same : g ≡ f) (held : true ≡ is_taken v g) (undecided : true ≡ is_open (mark v g)) where
  pub full_answer : most ≤ length v.vectors → searches v f ≡ Err seek.Full
  full_answer le = subst (λ (k : ℕ). searches v k ≡ Err seek.Full) same (search_full v g held undecided le)

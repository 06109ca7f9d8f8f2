-- The list of readers, one gate more at a time; how many read a net, one reader more at a time; and how many there are.
use Rattle.std.proofs.Common.{◌≡◌, ℕ, zero, suc, ◌+◌, ◌*◌, ◌<◌, ◌≤◌, Bool, true, leb, List, [], ◌∷◌, ◌++◌, length, get_or, drop, replicate, sym, refl, ap, ◌∙◌, subst, append_assoc, add-zero, add-suc, suc-add, arith, length-append}
use Rattle.std.specs.List.{AllByRecursion as All}
use Rattle.std.proofs.ByRecursion.{All-append, All-get_or}
use Rattle.std.proofs.lemmas.List.{append-nil, at_drop_all, at_drop_more}
use Rattle.std.proofs.lemmas.List.Sums.{count_by-le-length, length-filter}
use Rattle.card.specs.declared.gate.Gate.{Gate}
use Rattle.card.specs.declared.gate.Operands.{Operands}
use Rattle.card.specs.declared.gate.Operands.TheVariants.{None, One, Two}
use Rattle.card.specs.Netlists.{Lawful, Netlist, Ordered, all_below, nets_read, pins_of}
use Rattle.card.proofs.Below.{below_head, below_tail}
use Rattle.faults.specs.declared.reader.Reader.{Reader}
use Rattle.faults.specs.Readers.{branches, gate_readers, pin_readers, read_in, readers}

-- ---- the list, one gate more

pub listed_more : (k i n : ℕ) (gs : List Gate) (g : Gate) (old more : List Reader) → i < length gs → n ≡ k + i → more ≡ old ++ pin_readers n 0 (pins_of (get_or gs i g))
    → old ++ gate_readers (k + i) (drop i gs) ≡ gate_readers k gs → more ++ gate_readers (k + (i + 1)) (drop (i + 1) gs) ≡ gate_readers k gs
listed_more k i n gs g old more h e p inv =
    let pins = pin_readers (k + i) 0 (pins_of (get_or gs i g)) in
    let rest = drop (i + 1) gs in
    ap (λ z. z ++ gate_readers (k + (i + 1)) rest) (p ∙ ap (λ m. old ++ pin_readers m 0 (pins_of (get_or gs i g))) e)
    ∙ ap (λ m. (old ++ pins) ++ gate_readers m rest) (omega arith)
    ∙ append_assoc old pins (gate_readers (suc (k + i)) rest)
    ∙ ap (λ z. old ++ z) (sym (at_drop_more (gate_readers (k + i)) gs i g h))
    ∙ inv

pub listed_all : (k i : ℕ) (gs : List Gate) (list : List Reader) → length gs ≤ i → list ++ gate_readers (k + i) (drop i gs) ≡ gate_readers k gs → list ≡ gate_readers k gs
listed_all k i gs list h inv = sym (append-nil list) ∙ ap (λ z. list ++ z) (sym (at_drop_all (gate_readers (k + i)) gs i h)) ∙ inv

-- ---- the counts

-- at first every net is read by none
pub read_by_none : (n net : ℕ) → ◌≡◌ {A = ℕ} (get_or (replicate n 0) net 0) 0
read_by_none zero net = refl
read_by_none (suc n) zero = refl
read_by_none (suc n) (suc net) = read_by_none n net

-- ---- how many readers, and which nets they read

length_pins : (j p : ℕ) (xs : List ℕ) → length (pin_readers j p xs) ≡ length xs
length_pins j p [] = refl
length_pins j p (x ∷ xs) = ap suc (length_pins j (suc p) xs)

few_pins : (o : Operands) → length (nets_read o) ≤ 2
few_pins None = omega arith
few_pins (One a) = omega arith
few_pins (Two a b) = omega arith

pub length_readers : (j : ℕ) (gs : List Gate) → length (gate_readers j gs) ≤ 2 * length gs
length_readers j [] = omega arith
length_readers j (g ∷ gs) =
    let a = length-append (pin_readers j 0 (pins_of g)) (gate_readers (suc j) gs) in
    let b = length_pins j 0 (pins_of g) in
    let e = few_pins g.operands in
    let r = length_readers (suc j) gs in
    omega arith

pub length_branches : (c : Netlist) → length (branches c) ≤ 2 * length c.gates
length_branches c =
    let test : Reader → Bool = λ s. leb 2 (read_in (readers c) s.net) in
    let a = length-filter test (readers c) in
    let b = count_by-le-length test (readers c) in
    let r = length_readers c.inputs c.gates in
    omega arith

abbrev OnCard : Reader → Type 0
OnCard r = r.net < 256

pins_on_card : (n j p : ℕ) (xs : List ℕ) → n ≤ 256 → all_below n xs ≡ true → All OnCard (pin_readers j p xs)
pins_on_card n j p [] h e = tt
pins_on_card n j p (x ∷ xs) h e = ((let l = below_head n x xs e in omega arith), pins_on_card n j (suc p) xs h (below_tail n x xs e))

ordered_rest : (j : ℕ) (g : Gate) (gs : List Gate) → Ordered j (g ∷ gs) → Ordered (suc j) gs
ordered_rest j g gs r i d h = ap (λ m. all_below m (pins_of (get_or gs i d))) (suc-add j i ∙ sym (add-suc j i)) ∙ r (suc i) d (omega arith)

gates_on_card : (j : ℕ) (gs : List Gate) → j + length gs ≤ 256 → Ordered j gs → All OnCard (gate_readers j gs)
gates_on_card j [] h o = tt
gates_on_card j (g ∷ gs) h o =
    All-append OnCard (pin_readers j 0 (pins_of g)) (gate_readers (suc j) gs)
    (pins_on_card j j 0 (pins_of g) (omega arith) (ap (λ m. all_below m (pins_of g)) (sym (add-zero j)) ∙ o 0 g (omega arith)))
    (gates_on_card (suc j) gs (omega arith) (ordered_rest j g gs o))

pub on_card : (c : Netlist) (list : List Reader) → Lawful c → list ≡ readers c → (i : ℕ) (d : Reader) → i < length list → (get_or list i d).net < 256
on_card c list r e i d h =
    let all = gates_on_card c.inputs c.gates r.nets_fit r.ordered in
    subst (λ (z : List Reader). i < length z → (get_or z i d).net < 256) (sym e) (λ l. All-get_or OnCard (readers c) i d l all) h

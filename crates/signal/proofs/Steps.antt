-- One gate more of a walk, over an array that holds the nets made so far and leaves the rest.
-- The definition appends to a list; the code writes into an array at the next place.
use Rattle.std.proofs.Common.{◌≡◌, ℕ, suc, ◌+◌, ◌<◌, true, List, [], ◌∷◌, ◌++◌, length, get_or, take, drop, set, Option, sym, refl, ap, ◌∙◌, ap₂, add-zero, add_assoc, arith, get_or-take, length-drop, drop-drop, take-suc-set, drop-set-lt}
use Rattle.std.proofs.lemmas.List.{at_drop_more, at_drop_all, get_or-drop}
use Rattle.card.specs.declared.gate.Gate.{Gate}
use Rattle.card.specs.Netlists.{Ordered, all_below, pins_of}
use Rattle.signal.specs.declared.line.Stuck.{Stuck}
use Rattle.signal.specs.Operations.{Operations}
use Rattle.signal.specs.Gates.{truth}
use Rattle.card.proofs.Below.{below_head, below_tail}
use Rattle.signal.specs.Walks.{unless_stuck, pin_values, gate_net, walked, entered, sticks_pin, sticks_net}

-- the pins of gate i, where the card's own counts k and gs are read off it as r and items
pub ordered_at : (k r i : ℕ) (gs items : List Gate) (g : Gate) → r ≡ k → items ≡ gs → i < length items → Ordered k gs → all_below (r + i) (pins_of (get_or items i g)) ≡ true
ordered_at k r i gs items g er ei h ordered =
    ap₂ (λ m hs. all_below (m + i) (pins_of (get_or hs i g))) er ei ∙ ordered i g (omega (arith, ap length ei))

module _ {S : Type 0} (o : Operations S) (t : Option Stuck) where
  -- pins that read nets below n need no more than those
  pub pins_of_front : (n : ℕ) (xs : List S) (j p : ℕ) (reads : List ℕ) → all_below n reads ≡ true → pin_values o t (take n xs) j p reads ≡ pin_values o t xs j p reads
  pins_of_front n xs j p [] e = refl
  pins_of_front n xs j p (a ∷ reads) e =
      ap₂ (λ v vs. unless_stuck o t (sticks_pin t j p) v ∷ vs) (get_or-take n xs a _ (below_head n a reads e)) (pins_of_front n xs j (suc p) reads (below_tail n a reads e))

  pub gate_of_front : (n : ℕ) (xs : List S) (j : ℕ) (g : Gate) → all_below n (pins_of g) ≡ true → gate_net o t (take n xs) j g ≡ gate_net o t xs j g
  gate_of_front n xs j g e = ap (λ pins. unless_stuck o t (sticks_net t j) (truth o g.function pins)) (pins_of_front n xs j 0 (pins_of g) e)

  -- the walk goes on from one entry more: gate i makes net k + i
  pub walked_more : (xs : List S) (k i : ℕ) (gs : List Gate) (g : Gate) (v : S) → i < length gs → k + i < length xs → all_below (k + i) (pins_of (get_or gs i g)) ≡ true → v ≡ gate_net o t xs (k + i) (get_or gs i g)
      → walked o t (k + (i + 1)) (take (k + (i + 1)) (set xs (k + i) v)) (drop (i + 1) gs) ≡ walked o t (k + i) (take (k + i) xs) (drop i gs)
  walked_more xs k i gs g v hi hj b e =
      let j = k + i in
      let f : v ≡ gate_net o t (take j xs) j (get_or gs i g) = e ∙ sym (gate_of_front j xs j (get_or gs i g) b) in
      let n : k + (i + 1) ≡ suc (k + i) = omega arith in
      ap (λ m. walked o t m (take m (set xs j v)) (drop (i + 1) gs)) n
      ∙ ap (λ ns. walked o t (suc j) ns (drop (i + 1) gs)) (take-suc-set xs j v hj ∙ ap (λ w. take j xs ++ (w ∷ [])) f)
      ∙ sym (at_drop_more (walked o t j (take j xs)) gs i g hi)

  -- behind the last gate the walk is the whole walk from the first one
  pub walked_end : (xs start : List S) (k r i : ℕ) (gs items : List Gate) → r ≡ k → items ≡ gs → i ≡ length items
      → walked o t (r + i) (take (r + i) xs) (drop i items) ≡ walked o t r (take r start) items → take (k + length gs) xs ≡ walked o t k (take k start) gs
  walked_end xs start k r i gs items er ei el ew =
      let n : k + length gs ≡ r + i = omega (arith, er, el, ap length ei) in
      ap (λ m. take m xs) n ∙ sym (at_drop_all (walked o t (r + i) (take (r + i) xs)) items i (omega arith)) ∙ ew
      ∙ ap₂ (λ m hs. walked o t m (take m start) hs) er ei

  -- a walk from the first gate on, over inputs that were entered
  pub walked_all : (xs start entry : List S) (k r n : ℕ) (gs : List Gate) → r ≡ k → take n xs ≡ walked o t (k + 0) (take (k + 0) start) gs → take r start ≡ entered o t 0 (take r entry)
      → take n xs ≡ walked o t k (entered o t 0 (take k entry)) gs
  walked_all xs start entry k r n gs er ew en =
      ew ∙ ap (λ m. walked o t m (take m start) gs) (add-zero k)
      ∙ ap (λ ns. walked o t k ns gs) (ap (λ m. take m start) (sym er) ∙ en ∙ ap (λ m. entered o t 0 (take m entry)) er)

-- gates from the n-th on read nets before them too
pub ordered_from : (k n : ℕ) (gs : List Gate) → Ordered k gs → Ordered (k + n) (drop n gs)
ordered_from k n gs r i d h =
    ap₂ (λ m g. all_below m (pins_of g)) (add_assoc k n i) (get_or-drop n gs i d) ∙ r (n + i) d (let e = length-drop n gs in omega arith)

-- the entries behind the one that is written stay
pub rest_more : {S : Type 0} (xs ys : List S) (k i : ℕ) (v : S) → drop (k + i) xs ≡ drop (k + i) ys → drop (k + (i + 1)) (set xs (k + i) v) ≡ drop (k + (i + 1)) ys
rest_more xs ys k i v e =
    drop-set-lt (k + (i + 1)) xs (k + i) v (omega arith)
    ∙ ap (λ m. drop m xs) (sym (add_assoc k i 1)) ∙ sym (drop-drop 1 (k + i) xs) ∙ ap (drop 1) e ∙ drop-drop 1 (k + i) ys ∙ ap (λ m. drop m ys) (add_assoc k i 1)

-- what stays from one place on stays from any later place on
pub rest_later : {S : Type 0} (xs ys : List S) (k n : ℕ) → drop k xs ≡ drop k ys → drop (k + n) xs ≡ drop (k + n) ys
rest_later xs ys k n e = sym (drop-drop n k xs) ∙ ap (drop n) e ∙ drop-drop n k ys

-- the entries behind all nets stay, where those behind the first ones do
pub rest_all : {S : Type 0} (start entry : List S) (k r n : ℕ) → r ≡ k → drop r start ≡ drop r entry → drop (k + n) start ≡ drop (k + n) entry
rest_all start entry k r n e a = ap (λ m. drop (m + n) start) (sym e) ∙ rest_later start entry r n a ∙ ap (λ m. drop (m + n) entry) e

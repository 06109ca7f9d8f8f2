-- Rows of characters: what is a row, that a row tells its vector, and one character more of a row that is read.
use Rattle.std.proofs.Common.{◌≡◌, ℕ, suc, ◌+◌, ◌-◌, ◌*◌, ◌%◌, ◌^◌, ◌<◌, ◌≤◌, Bool, true, false, cond, ◌&&◌, ◌||◌, eqb, leb, List, [], ◌∷◌, ◌++◌, map, length, get_or, take, drop, sym, refl, ap, ◌∙◌, subst, ap₂, ⊎_elim, zero-mul, add-one, arith}
use lib.Bits.{bit_or}
use Rattle.signal.specs.declared.ternary.Ternary.{Ternary}
use Rattle.signal.specs.declared.ternary.Ternary.TheVariants.{Low, High, X}
use Rattle.std.proofs.lemmas.Nat.{shl_whole}
use Rattle.std.proofs.lemmas.List.{at_drop_more, length-map, map_push, take_more}
use Rattle.std.proofs.lemmas.Bool.{and_from, and_right, cases_lt, eq-eqb, le-leb, or_from, or_parts}
use Rattle.vectors.specs.Vectors.{Cells, holding, bit_at, cell_of, cell_at, start, InForm}
use Rattle.vectors.specs.Rows.{character_of, is_character, all_characters, is_row, fixed_bit, level_bit, printed}
use Rattle.vectors.proofs.Bits.{bit_of_zero, bit_or_lem, bit_past, bit_shifted, bit_shifted_at, bit_shifted_below}
use Rattle.vectors.proofs.Fillings.{start_more, same_cells}
use Rattle.vectors.proofs.Forms.{same_from_cells}

-- every list of cells is spelled by characters
pub spelled : (cells : List Ternary) → all_characters (map character_of cells) ≡ true
spelled [] = refl
spelled (Low ∷ ts) = spelled ts
spelled (High ∷ ts) = spelled ts
spelled (X ∷ ts) = spelled ts

-- the characters of as many cells as there are inputs are a row
pub row_of_cells : (k : ℕ) (bs : List ℕ) (cells : List Ternary) → length cells ≡ k → k ≤ 32 → map character_of cells ≡ bs → is_row k bs ≡ true
row_of_cells k bs cells l h e =
    and_from (eqb (length bs) k) (leb k 32 && all_characters bs)
    (eq-eqb (length bs) k (sym (ap length e) ∙ length-map cells character_of ∙ l))
    (and_from (leb k 32) (all_characters bs) (le-leb k 32 h) (sym (ap all_characters e) ∙ spelled cells))

-- a character tells its cell, so a row tells the cells, and the vector in form
cell_for : ℕ → Ternary
cell_for b = cond (eqb b 48) Low (cond (eqb b 49) High X)

cells_for : (cells : List Ternary) → map cell_for (map character_of cells) ≡ cells
unfolding cell_for
cells_for [] = refl
cells_for (Low ∷ ts) = ap (λ (xs : List Ternary). Low ∷ xs) (cells_for ts)
cells_for (High ∷ ts) = ap (λ (xs : List Ternary). High ∷ xs) (cells_for ts)
cells_for (X ∷ ts) = ap (λ (xs : List Ternary). X ∷ xs) (cells_for ts)

pub same_from_print : (k : ℕ) (v w : Cells) → InForm k v → InForm k w → printed k v ≡ printed k w → v ≡ w
same_from_print k v w f g e = same_from_cells k v w f g (sym (cells_for (start k v)) ∙ ap (map cell_for) e ∙ cells_for (start k w))

-- ---- a cell placed at input j

-- the vector with one cell more, at a free input
abbrev pub placed : Cells → ℕ → Ternary → Cells
placed v j t = holding (bit_or v.care (fixed_bit t * 2 ^ j)) (bit_or v.value (level_bit t * 2 ^ j))

or_none : (x y : Bool) → y ≡ false → (x || y) ≡ x
or_none true y h = refl
or_none false y h = h

below_two : (t : Ternary) → (fixed_bit t < 2) × (level_bit t < 2)
below_two Low = (omega arith, omega arith)
below_two High = (omega arith, omega arith)
below_two X = (omega arith, omega arith)

-- a digit placed at j changes no bit elsewhere
bit_kept : (n d j i : ℕ) → d < 2 → (i ≡ j → ⊥) → bit_at (bit_or n (d * 2 ^ j)) i ≡ bit_at n i
bit_kept n d j i l h = bit_or_lem n (d * 2 ^ j) i ∙ or_none (bit_at n i) (bit_at (d * 2 ^ j) i) (⊎_elim (λ b. bit_shifted_below d j i b) above (cases_lt i j))
  where
    above : j ≤ i → bit_at (d * 2 ^ j) i ≡ false
    above b = ap (bit_at (d * 2 ^ j)) (omega arith) ∙ bit_shifted d j (i - j) ∙ bit_past d 1 (i - j) l (omega arith)

bit_placed : (n d j : ℕ) → bit_at n j ≡ false → bit_at (bit_or n (d * 2 ^ j)) j ≡ bit_at d 0
bit_placed n d j h = bit_or_lem n (d * 2 ^ j) j ∙ ap (λ (x : Bool). x || bit_at (d * 2 ^ j) j) h ∙ bit_shifted_at d j

pub cell_kept : (v : Cells) (j i : ℕ) (t : Ternary) → (i ≡ j → ⊥) → cell_at (placed v j t) i ≡ cell_at v i
cell_kept v j i t h = ap₂ cell_of (bit_kept v.care (fixed_bit t) j i (below_two t).0 h) (bit_kept v.value (level_bit t) j i (below_two t).1 h)

cell_of_digits : (t : Ternary) → cell_of (bit_at (fixed_bit t) 0) (bit_at (level_bit t) 0) ≡ t
cell_of_digits Low = refl
cell_of_digits High = refl
cell_of_digits X = refl

pub cell_placed : (v : Cells) (j : ℕ) (t : Ternary) → bit_at v.care j ≡ false → bit_at v.value j ≡ false → cell_at (placed v j t) j ≡ t
cell_placed v j t c b = ap₂ cell_of (bit_placed v.care (fixed_bit t) j c) (bit_placed v.value (level_bit t) j b) ∙ cell_of_digits t

-- a free cell places no bit
level_under : (t : Ternary) (j i : ℕ) → bit_at (fixed_bit t * 2 ^ j) i ≡ false → bit_at (level_bit t * 2 ^ j) i ≡ false
level_under Low j i h = ap (λ (x : ℕ). bit_at x i) (zero-mul (2 ^ j)) ∙ bit_of_zero i
level_under High j i h = h
level_under X j i h = h

-- the inputs below j are read: the cell of input j joins them
pub in_form_more : (v : Cells) (j : ℕ) (t : Ternary) → InForm j v → InForm (suc j) (placed v j t)
in_form_more v j t f = record {
  within = λ i h. bit_kept v.care (fixed_bit t) j i (below_two t).0 (λ e. omega arith) ∙ f.within i (omega arith);
  free_is_zero = λ i h.
      let p = or_parts (bit_at v.care i) (bit_at (fixed_bit t * 2 ^ j) i) (sym (bit_or_lem v.care (fixed_bit t * 2 ^ j) i) ∙ h) in
      bit_or_lem v.value (level_bit t * 2 ^ j) i ∙ or_from (bit_at v.value i) (bit_at (level_bit t * 2 ^ j) i) (f.free_is_zero i p.0) (level_under t j i p.1);
}

pub start_placed : (v : Cells) (j : ℕ) (t : Ternary) → InForm j v → start (suc j) (placed v j t) ≡ start j v ++ (t ∷ [])
start_placed v j t f =
    let c : bit_at v.care j ≡ false = f.within j (omega arith) in
    start_more (placed v j t) j
    ∙ ap₂ (λ (xs : List Ternary) (x : Ternary). xs ++ (x ∷ [])) (same_cells (placed v j t) v 0 j (λ i _ h. cell_kept v j i t (λ e. omega arith))) (cell_placed v j t c (f.free_is_zero j c))

pub printed_more : (v : Cells) (j : ℕ) (t : Ternary) → InForm j v → printed (suc j) (placed v j t) ≡ printed j v ++ (character_of t ∷ [])
printed_more v j t f = ap (map character_of) (start_placed v j t f) ∙ map_push character_of (start j v) t

-- the code shifts each digit up within 32 bits
shifted_whole : (d j : ℕ) → d < 2 → j < 32 → (d * 2 ^ j) % 2 ^ 32 ≡ d * 2 ^ j
shifted_whole d j l h = shl_whole d 1 j 32 l (omega arith)

pub placed_by_shifts : (c b j f l : ℕ) (t : Ternary) → j < 32 → f ≡ fixed_bit t → l ≡ level_bit t → holding (bit_or c ((f * 2 ^ j) % 2 ^ 32)) (bit_or b ((l * 2 ^ j) % 2 ^ 32)) ≡ placed (holding c b) j t
placed_by_shifts c b j f l t h ef el =
    ap₂ (λ (x y : ℕ). holding (bit_or c x) (bit_or b y))
    (ap (λ (d : ℕ). (d * 2 ^ j) % 2 ^ 32) ef ∙ shifted_whole (fixed_bit t) j (below_two t).0 h)
    (ap (λ (d : ℕ). (d * 2 ^ j) % 2 ^ 32) el ∙ shifted_whole (level_bit t) j (below_two t).1 h)

-- ---- the bytes below j are read, and byte j is the character of a cell

pub read_more : (c b j f l : ℕ) (t : Ternary) (bs : List ℕ) → j < 32 → j < length bs → f ≡ fixed_bit t → l ≡ level_bit t → character_of t ≡ get_or bs j 0
    → InForm j (holding c b) → printed j (holding c b) ≡ take j bs
    → InForm (j + 1) (holding (bit_or c ((f * 2 ^ j) % 2 ^ 32)) (bit_or b ((l * 2 ^ j) % 2 ^ 32)))
    × (printed (j + 1) (holding (bit_or c ((f * 2 ^ j) % 2 ^ 32)) (bit_or b ((l * 2 ^ j) % 2 ^ 32))) ≡ take (j + 1) bs)
read_more c b j f l t bs h k ef el ch form p =
    let v : Cells = holding c b in
    let w : Cells = holding (bit_or c ((f * 2 ^ j) % 2 ^ 32)) (bit_or b ((l * 2 ^ j) % 2 ^ 32)) in
    let e : w ≡ placed v j t = placed_by_shifts c b j f l t h ef el in (
      subst (λ (n : ℕ). InForm n w) (sym (add-one j)) (subst (λ (x : Cells). InForm (suc j) x) (sym e) (in_form_more v j t form)),
      ap₂ printed (add-one j) e ∙ printed_more v j t form ∙ ap₂ (λ (xs : List ℕ) (x : ℕ). xs ++ (x ∷ [])) p ch ∙ sym (take_more bs j 0 k),
    )

pub characters_more : (bs : List ℕ) (j : ℕ) → j < length bs → true ≡ is_character (get_or bs j 0) → all_characters (drop j bs) ≡ all_characters bs → all_characters (drop (j + 1) bs) ≡ all_characters bs
characters_more bs j h ch e = ap (λ (x : Bool). x && all_characters (drop (j + 1) bs)) ch ∙ sym (at_drop_more all_characters bs j 0 h) ∙ e

-- byte j is no character
pub no_row_by_byte : (k : ℕ) (bs : List ℕ) (j : ℕ) → j < length bs → false ≡ is_character (get_or bs j 0) → all_characters (drop j bs) ≡ all_characters bs → false ≡ is_row k bs
no_row_by_byte k bs j h ch e =
    let f : all_characters bs ≡ false = sym e ∙ at_drop_more all_characters bs j 0 h ∙ ap (λ (x : Bool). x && all_characters (drop (j + 1) bs)) (sym ch) in
    sym (and_right (eqb (length bs) k) (leb k 32 && all_characters bs) (and_right (leb k 32) (all_characters bs) f))

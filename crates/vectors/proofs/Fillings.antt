-- The cells of a vector in order, and the settings that fill it: those that every cell allows.
use Rattle.std.proofs.Common.{◌≡◌, ℕ, zero, suc, ◌+◌, ◌<◌, ◌≤◌, Bool, true, false, List, [], ◌∷◌, ◌++◌, length, get_or, take, set, sym, refl, ap, ◌∙◌, subst, ap₂, add-one, arith}
use Rattle.signal.specs.declared.ternary.Ternary.{Ternary}
use Rattle.signal.specs.declared.ternary.Ternary.TheVariants.{X}
use Rattle.std.proofs.lemmas.List.{take_all, take_at, take_more_set}
use Rattle.signal.specs.Ternaries.{has}
use Rattle.vectors.specs.Allowed.{AllowedBy}
use Rattle.vectors.specs.Vectors.{Cells, bit_at, bits_from, cell_of, cell_at, cells_from, start, Fills, FilledByTheAllowed}

-- ---- the cells in order

pub length_cells : (v : Cells) (j n : ℕ) → length (cells_from v j n) ≡ n
length_cells v j zero = refl
length_cells v j (suc n) = ap suc (length_cells v (suc j) n)

-- one cell more, at the end
pub cells_more : (v : Cells) (j n p : ℕ) → p ≡ j + n → cells_from v j (suc n) ≡ cells_from v j n ++ (cell_at v p ∷ [])
cells_more v j zero p e = let s : j ≡ p = omega arith in ap (λ (i : ℕ). cell_at v i ∷ []) s
cells_more v j (suc n) p e = ap (λ xs. cell_at v j ∷ xs) (cells_more v (suc j) n p (omega arith))

pub start_more : (v : Cells) (n : ℕ) → start (suc n) v ≡ start n v ++ (cell_at v n ∷ [])
start_more v n = cells_more v 0 n n (omega arith)

pub cells_at : (v : Cells) (j n i p : ℕ) → p ≡ j + i → i < n → get_or (cells_from v j n) i X ≡ cell_at v p
cells_at v j zero i p q h = absurd (omega arith)
cells_at v j (suc n) zero p q h = let s : j ≡ p = omega arith in ap (cell_at v) s
cells_at v j (suc n) (suc i) p q h = cells_at v (suc j) n i p (omega arith) (omega arith)

-- vectors with the same cells
pub same_cells : (v w : Cells) (j n : ℕ) → ((i : ℕ) → j ≤ i → i < j + n → cell_at v i ≡ cell_at w i) → cells_from v j n ≡ cells_from w j n
same_cells v w j zero h = refl
same_cells v w j (suc n) h = ap₂ (λ x xs. x ∷ xs) (h j (omega arith) (omega arith)) (same_cells v w (suc j) n (λ i a b. h i (omega arith) (omega arith)))

-- ---- a setting and the cells

has_from : (x y b : Bool) → (x ≡ true → b ≡ y) → has (cell_of x y) b ≡ true
has_from false y b h = refl
has_from true false b h = rw (h refl)
has_from true true b h = h refl

bit_from : (x y b : Bool) → has (cell_of x y) b ≡ true → x ≡ true → b ≡ y
bit_from false y b a h = cc
bit_from true false true a h = sym a
bit_from true false false a h = refl
bit_from true true b a h = a

-- the bits agree with the fixed cells from input j on; p is the input of bit i
abbrev Agrees : Cells → ℕ → ℕ → List Bool → Type 0
Agrees v j n bits = (i p : ℕ) → p ≡ j + i → i < n → bit_at v.care p ≡ true → get_or bits i false ≡ bit_at v.value p

allowed_from : (v : Cells) (j n : ℕ) (bits : List Bool) → length bits ≡ n → Agrees v j n bits → AllowedBy (cells_from v j n) bits
allowed_from v j zero [] e f = tt
allowed_from v j zero (b ∷ bs) e f = absurd (omega arith)
allowed_from v j (suc n) [] e f = absurd (omega arith)
allowed_from v j (suc n) (b ∷ bs) e f = (
  has_from (bit_at v.care j) (bit_at v.value j) b (f 0 j (omega arith) (omega arith)),
  allowed_from v (suc j) n bs (omega arith) (λ i p q h. f (suc i) p (omega arith) (omega arith)),
)

length_from : (v : Cells) (j n : ℕ) (bits : List Bool) → AllowedBy (cells_from v j n) bits → length bits ≡ n
length_from v j zero [] a = refl
length_from v j zero (b ∷ bs) a = absurd a
length_from v j (suc n) [] a = absurd a
length_from v j (suc n) (b ∷ bs) a = ap suc (length_from v (suc j) n bs a.1)

agrees_from : (v : Cells) (j n : ℕ) (bits : List Bool) → AllowedBy (cells_from v j n) bits → Agrees v j n bits
agrees_from v j zero bits a i p q h c = absurd (omega arith)
agrees_from v j (suc n) [] a i p q h c = absurd a
agrees_from v j (suc n) (b ∷ bs) a zero p q h c =
    let s : j ≡ p = omega arith in
    bit_from (bit_at v.care p) (bit_at v.value p) b (subst (λ (i : ℕ). has (cell_at v i) b ≡ true) s a.0) c
agrees_from v j (suc n) (b ∷ bs) a (suc i) p q h c = agrees_from v (suc j) n bs a.1 i p (omega arith) (omega arith) c

-- a setting fills a vector exactly if every cell allows its bit
pub filled_by_the_allowed : (k : ℕ) (v : Cells) → FilledByTheAllowed k v (start k v)
filled_by_the_allowed k v bits = (
  λ f. allowed_from v 0 k bits f.one_for_each (λ i p q h c. let s : p ≡ i = omega arith in subst (λ (x : ℕ). get_or bits x false ≡ bit_at v.value p) s (f.agrees p (omega arith) c)),
  λ a. record { one_for_each = length_from v 0 k bits a; agrees = λ j h c. agrees_from v 0 k bits a j j (omega arith) h c },
)

-- ---- the value bits are a filling

pub length_bits : (b j n : ℕ) → length (bits_from b j n) ≡ n
length_bits b j zero = refl
length_bits b j (suc n) = ap suc (length_bits b (suc j) n)

pub bits_at : (b j n i p : ℕ) → p ≡ j + i → i < n → get_or (bits_from b j n) i false ≡ bit_at b p
bits_at b j zero i p q h = absurd (omega arith)
bits_at b j (suc n) zero p q h = let s : j ≡ p = omega arith in ap (bit_at b) s
bits_at b j (suc n) (suc i) p q h = bits_at b (suc j) n i p (omega arith) (omega arith)

pub value_fills : (k : ℕ) (v : Cells) → Fills k v (bits_from v.value 0 k)
value_fills k v = record { one_for_each = length_bits v.value 0 k; agrees = λ j h c. bits_at v.value 0 k j j (omega arith) h }

-- ---- the cells entered into nets, one more

pub entered_more : (v : Cells) (nets : List Ternary) (j : ℕ) (x : Ternary) → j < length nets → x ≡ cell_at v j → take j nets ≡ start j v → take (j + 1) (set nets j x) ≡ start (j + 1) v
entered_more v nets j x h e p =
    take_more_set nets j x h
    ∙ ap₂ (λ (xs : List Ternary) (y : Ternary). xs ++ (y ∷ [])) p e
    ∙ sym (ap (λ (n : ℕ). start n v) (add-one j) ∙ start_more v j)

-- all are entered
pub entered_all : (v : Cells) (cells rest : List Ternary) (j k : ℕ) → take j cells ≡ start j v → length cells ≡ k → k ≤ j → j ≤ k → take k (cells ++ rest) ≡ start k v
entered_all v cells rest j k p l h g =
    let e : j ≡ k = omega arith in
    take_at cells rest k l ∙ sym (take_all j cells (omega arith)) ∙ p ∙ ap (λ n. start n v) e

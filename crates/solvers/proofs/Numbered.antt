-- The settings of the leading variables by number: each stands at its number, and written over open variables it leads.
use Rattle.std.proofs.Common.{◌≡◌, ℕ, zero, suc, ◌+◌, ◌-◌, ◌*◌, ◌/◌, ◌^◌, ◌<◌, ◌≤◌, Bool, true, false, cond, leb, List, [], ◌∷◌, ◌++◌, map, length, get_or, drop, set, replicate, Some, None, sym, refl, ap, ◌∙◌, ap₂, append_assoc, not-suc-le-zero, pow-suc, add-one, arith, length-append, length-set, leb-false, leb-true}
use lib.ListN.{length-map, get_or-map}
use Rattle.std.proofs.lemmas.List.{get_or_append_left, get_or-append_right, get_or_default, set_at, set-append_left, drop_more}
use Rattle.solving.specs.Settings.{Setting, full}
use Rattle.solving.specs.Leading.{leads}
use Rattle.solving.specs.Counting.{settings}
use Rattle.solving.proofs.Tallies.{settings_length}
use Rattle.solvers.specs.Numbering.{bits_of, written}

pub bits_length : (k n : ℕ) → length (bits_of k n) ≡ k
bits_length zero n = refl
bits_length (suc k) n = ap suc (bits_length k (cond (leb (2 ^ k) n) (n - 2 ^ k) n))

-- a setting in the first half and in the second
first_half : (k n : ℕ) → n < 2 ^ k → get_or (settings (suc k)) n [] ≡ false ∷ get_or (settings k) n []
unfolding settings
first_half k n h =
    let l : length (map (λ (bs : List Bool). false ∷ bs) (settings k)) ≡ 2 ^ k = length-map (settings k) (λ (bs : List Bool). false ∷ bs) ∙ settings_length k in
    get_or_append_left (map (λ (bs : List Bool). false ∷ bs) (settings k)) _ [] n (omega arith)
    ∙ get_or_default (map (λ (bs : List Bool). false ∷ bs) (settings k)) n [] (false ∷ []) (omega arith)
    ∙ get_or-map (λ (bs : List Bool). false ∷ bs) (settings k) n []

second_half : (k n : ℕ) → 2 ^ k ≤ n → n < 2 ^ (suc k) → get_or (settings (suc k)) n [] ≡ true ∷ get_or (settings k) (n - 2 ^ k) []
unfolding settings
second_half k n h g =
    let l : length (map (λ (bs : List Bool). false ∷ bs) (settings k)) ≡ 2 ^ k = length-map (settings k) (λ (bs : List Bool). false ∷ bs) ∙ settings_length k in
    let m : length (map (λ (bs : List Bool). true ∷ bs) (settings k)) ≡ 2 ^ k = length-map (settings k) (λ (bs : List Bool). true ∷ bs) ∙ settings_length k in
    let p : 2 ^ suc k ≡ 2 ^ k + 2 ^ k = rw pow-suc (omega arith) in
    get_or-append_right (map (λ (bs : List Bool). false ∷ bs) (settings k)) _ (2 ^ k) n [] l h
    ∙ get_or_default (map (λ (bs : List Bool). true ∷ bs) (settings k)) (n - 2 ^ k) [] (true ∷ []) (omega arith)
    ∙ get_or-map (λ (bs : List Bool). true ∷ bs) (settings k) (n - 2 ^ k) []

pub setting_at : (k n : ℕ) → n < 2 ^ k → get_or (settings k) n [] ≡ bits_of k n
unfolding settings
setting_at zero n h = let z : n ≡ 0 = omega arith in rw z
setting_at (suc k) n h = go (leb (2 ^ k) n) refl (setting_at k) where
  go : (b : Bool) → leb (2 ^ k) n ≡ b → ((m : ℕ) → m < 2 ^ k → get_or (settings k) m [] ≡ bits_of k m) → get_or (settings (suc k)) n [] ≡ b ∷ bits_of k (cond b (n - 2 ^ k) n)
  go true e deeper =
      let p : 2 ^ suc k ≡ 2 ^ k + 2 ^ k = rw pow-suc (omega arith) in
      let g = leb-true (2 ^ k) n e in
      second_half k n g h ∙ ap (λ (bs : List Bool). true ∷ bs) (deeper (n - 2 ^ k) (omega arith))
  go false e deeper =
      let g = leb-false (2 ^ k) n e in
      first_half k n g ∙ ap (λ (bs : List Bool). false ∷ bs) (deeper n g)

pub settings_from : (k n : ℕ) → n < 2 ^ k → drop n (settings k) ≡ bits_of k n ∷ drop (n + 1) (settings k)
settings_from k n h =
    let l = settings_length k in
    drop_more (settings k) n [] (omega arith) ∙ ap (λ (bs : List Bool). bs ∷ drop (n + 1) (settings k)) (setting_at k n h)

-- bits written over open variables
written_after : (xs : Setting) (m : ℕ) (bs : List Bool) → length bs ≤ m → written (xs ++ replicate m None) (length xs) bs ≡ xs ++ (full bs ++ replicate (m - length bs) None)
written_after xs m [] h = let z : m - 0 ≡ m = omega arith in rw z
written_after xs zero (b ∷ bs) h = absurd (not-suc-le-zero h)
written_after xs (suc m) (b ∷ bs) h =
    let p : set (xs ++ (None ∷ replicate m None)) (length xs) (Some b) ≡ (xs ++ (Some b ∷ [])) ++ replicate m None = set_at xs None (replicate m None) (Some b) (length xs) refl ∙ sym (append_assoc xs (Some b ∷ []) (replicate m None)) in
    let q : suc (length xs) ≡ length (xs ++ (Some b ∷ [])) = sym (length-append xs (Some b ∷ []) ∙ omega arith) in
    let z : suc m - suc (length bs) ≡ m - length bs = omega arith in
    ap₂ (λ (a : Setting) (j : ℕ). written a j bs) p q
    ∙ written_after (xs ++ (Some b ∷ [])) m bs (omega arith)
    ∙ append_assoc xs (Some b ∷ []) (full bs ++ replicate (m - length bs) None)
    ∙ ap (λ n. xs ++ (Some b ∷ (full bs ++ replicate n None))) (sym z)

pub written_leads : (v : ℕ) (bs : List Bool) → length bs ≤ v → written (replicate v None) 0 bs ≡ leads v bs
written_leads v bs h = written_after [] v bs h

-- one more bit
pub written_more : (a : Setting) (j k rest weight : ℕ) → weight ≡ 2 ^ k → written a j (bits_of (suc k) rest) ≡ written (set a j (Some (leb weight rest))) (j + 1) (bits_of k (cond (leb weight rest) (rest - weight) rest))
written_more a j k rest weight e = rw (e, add-one)

pub half_power : (weight n k : ℕ) → weight ≡ 2 ^ n → n ≡ suc k → weight / 2 ≡ 2 ^ k
half_power weight n k w e =
    let p : 2 ^ n ≡ 2 ^ suc k = ap (λ m. 2 ^ m) e in
    let q : 2 ^ suc k ≡ 2 ^ k * 2 = rw pow-suc (omega arith) in
    omega arith

-- bits written over the first places leave the others as they are
pub written_front : (a b : Setting) (j : ℕ) (bs : List Bool) → j + length bs ≤ length a → written (a ++ b) j bs ≡ written a j bs ++ b
written_front a b j [] h = refl
written_front a b j (x ∷ bs) h =
    let n : length (set a j (Some x)) ≡ length a = length-set a j (Some x) in
    ap (λ (y : Setting). written y (suc j) bs) (set-append_left a b j (Some x) (omega arith))
    ∙ written_front (set a j (Some x)) b (suc j) bs (omega (arith, n, h))

-- The bits of a number without one of them, and the cells of a vector with one of them free.
use Rattle.std.proofs.Common.{◌≡◌, ℕ, zero, suc, ◌+◌, ◌-◌, ◌*◌, ◌/◌, ◌%◌, ◌^◌, ◌<◌, ◌≤◌, Bool, true, false, cond, not, ◌&&◌, eqb, sym, refl, ap, ◌∙◌, ap₂, ⊎_elim, arith, pow-add}
use lib.Bits.{bit_and}
use Rattle.signal.specs.declared.ternary.Ternary.TheVariants.{X}
use Rattle.std.proofs.lemmas.Nat.{div-add-mod', div-mul-add, mod_below, mod-mul-add}
use Rattle.std.proofs.lemmas.Bool.{and_left, and_right, both_ways, cases_Bool, cases_eq, cases_lt, cond-false, cond-true, eq-eqb, eqb-true, ne_eqb, true≢false}
use Rattle.vectors.specs.Freeing.{FreesOnly, freed, without}
use Rattle.vectors.specs.Vectors.{Cells, bit_at, cell_of}
use Rattle.vectors.proofs.Bits.{bit_lowest, bit_past, bit_suc}
use Rattle.vectors.proofs.Forms.{free_from_bits, zero_where_free}

-- a bit of a number below 2 ^ k is below place k
pub bit_within : (n k j : ℕ) → n < 2 ^ k → bit_at n j ≡ true → j < k
bit_within n k j h t = ⊎_elim (λ l. l) (λ l. absurd (both_ways (bit_at n j) (bit_past n k j h l) t)) (cases_lt j k)

kept : (x y : Bool) → y ≡ false → (x && not y) ≡ x
kept true y e = ap not e
kept false y e = refl

next : (i j : ℕ) → eqb i j ≡ eqb (suc i) (suc j)
next i j = ⊎_elim (λ e. eq-eqb i j e ∙ sym (eq-eqb (suc i) (suc j) (ap suc e))) (λ e. ne_eqb i j e ∙ sym (ne_eqb (suc i) (suc j) (λ z. e (omega arith)))) (cases_eq i j)

-- the bits of a number less the weight of one of them
record Less (n j m : ℕ) : Type 0 where
  fits : 2 ^ j ≤ n
  others : (i : ℕ) → bit_at m i ≡ (bit_at n i && not (eqb i j))

less : (j n : ℕ) → bit_at n j ≡ true → Less n j (n - 2 ^ j)
less zero n t =
    let odd : n % 2 ≡ 1 = eqb-true (n % 2) 1 (sym (bit_lowest n) ∙ t) in
    let s = div-add-mod' n 2 in
    let e : n - 1 ≡ n / 2 * 2 + 0 = omega arith in
    let d : (n - 1) / 2 ≡ n / 2 = ap (λ (x : ℕ). x / 2) e ∙ div-mul-add (n / 2) 2 0 (omega arith) in
    let m : (n - 1) % 2 ≡ 0 = ap (λ (x : ℕ). x % 2) e ∙ mod-mul-add (n / 2) 2 0 (omega arith) in
    record { fits = omega arith; others = at d m }
  where
    at : (n - 1) / 2 ≡ n / 2 → (n - 1) % 2 ≡ 0 → (i : ℕ) → bit_at (n - 1) i ≡ (bit_at n i && not (eqb i 0))
    at d m zero = bit_lowest (n - 1) ∙ ap (λ (x : ℕ). eqb x 1) m ∙ sym (and_right (bit_at n 0) false refl)
    at d m (suc i) = bit_suc (n - 1) i ∙ ap (λ (x : ℕ). bit_at x i) d ∙ sym (bit_suc n i) ∙ sym (kept (bit_at n (suc i)) (eqb (suc i) 0) (ne_eqb (suc i) 0 (λ z. omega arith)))
less (suc j) n t =
    let r = less j (n / 2) (sym (bit_suc n j) ∙ t) in
    let f = r.fits in
    let s = div-add-mod' n 2 in
    let l = mod_below n 2 (omega arith) in
    let p : 2 ^ suc j ≡ 2 * 2 ^ j = ap (λ (x : ℕ). 2 ^ x) (omega arith) ∙ pow-add 2 1 j in
    let e : n - 2 ^ suc j ≡ (n / 2 - 2 ^ j) * 2 + n % 2 = omega arith in
    let d : (n - 2 ^ suc j) / 2 ≡ n / 2 - 2 ^ j = ap (λ (x : ℕ). x / 2) e ∙ div-mul-add (n / 2 - 2 ^ j) 2 (n % 2) l in
    let m : (n - 2 ^ suc j) % 2 ≡ n % 2 = ap (λ (x : ℕ). x % 2) e ∙ mod-mul-add (n / 2 - 2 ^ j) 2 (n % 2) l in
    record { fits = omega arith; others = at d m r.others }
  where
    at : (n - 2 ^ suc j) / 2 ≡ n / 2 - 2 ^ j → (n - 2 ^ suc j) % 2 ≡ n % 2 → ((i : ℕ) → bit_at (n / 2 - 2 ^ j) i ≡ (bit_at (n / 2) i && not (eqb i j))) → (i : ℕ) → bit_at (n - 2 ^ suc j) i ≡ (bit_at n i && not (eqb i (suc j)))
    at d m o zero = bit_lowest (n - 2 ^ suc j) ∙ ap (λ (x : ℕ). eqb x 1) m ∙ sym (bit_lowest n) ∙ sym (kept (bit_at n 0) (eqb 0 (suc j)) (ne_eqb 0 (suc j) (λ z. omega arith)))
    at d m o (suc i) =
        bit_suc (n - 2 ^ suc j) i ∙ ap (λ (x : ℕ). bit_at x i) d ∙ o i
        ∙ ap₂ (λ (x y : Bool). x && not y) (sym (bit_suc n i)) (next i j)

-- the number without bit j has every other bit
pub bit_without : (n j i : ℕ) → bit_at (without n j) i ≡ (bit_at n i && not (eqb i j))
bit_without n j i = ⊎_elim
    (λ t. ap (λ (x : ℕ). bit_at x i) (cond-true (bit_at n j) (n - 2 ^ j) n t) ∙ (less j n t).others i)
    (λ f. ap (λ (x : ℕ). bit_at x i) (cond-false (bit_at n j) (n - 2 ^ j) n f) ∙ absent f)
    (cases_Bool (bit_at n j))
  where
    absent : bit_at n j ≡ false → bit_at n i ≡ (bit_at n i && not (eqb i j))
    absent f = ⊎_elim
        (λ e. let z : bit_at n i ≡ false = ap (bit_at n) e ∙ f in z ∙ sym (and_left (bit_at n i) (not (eqb i j)) z))
        (λ e. sym (kept (bit_at n i) (eqb i j) (ne_eqb i j e)))
        (cases_eq i j)

-- ---- cells

cell_of_both : (x y e : Bool) → cell_of (x && not e) (y && not e) ≡ cond e X (cell_of x y)
cell_of_both true true true = refl
cell_of_both true true false = refl
cell_of_both true false true = refl
cell_of_both true false false = refl
cell_of_both false y true = refl
cell_of_both false y false = refl

pub freed_cells : (v : Cells) (j : ℕ) → FreesOnly j v (freed v j)
freed_cells v j i = ap₂ cell_of (bit_without v.care j i) (bit_without v.value j i) ∙ cell_of_both (bit_at v.care i) (bit_at v.value i) (eqb i j)

pub freed_is_zero : (c b j : ℕ) → bit_and b c ≡ b → bit_and (without b j) (without c j) ≡ without b j
freed_is_zero c b j e = free_from_bits (without c j) (without b j) (λ i f.
    bit_without b j i ∙ gone (bit_at c i) (bit_at b i) (eqb i j) (zero_where_free c b i e) (sym (bit_without c j i) ∙ f))
  where
    gone : (x y z : Bool) → (x ≡ false → y ≡ false) → (x && not z) ≡ false → (y && not z) ≡ false
    gone true y true h f = and_right y false refl
    gone true y false h f = absurd (true≢false f)
    gone false y z h f = ap (λ (w : Bool). w && not z) (h refl)

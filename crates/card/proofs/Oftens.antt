-- Operands that stand as often, case by case of how many there are.
use Rattle.std.proofs.Common.{◌≡◌, ℕ, ◌≤◌, cond, eqb, ◌⊎◌, [], ◌∷◌, sym, refl, ap, ◌∙◌, inl, inr, ⊎_elim, arith}
use Rattle.std.proofs.lemmas.Bool.{cases_eq, eq-eqb, ne_eqb}
use Rattle.card.specs.Alikes.{AsOften}

-- one place of a list: 1 where the number stands there, else 0
abbrev one : ℕ → ℕ → ℕ
one n x = cond (eqb n x) 1 0

here : (n x : ℕ) → n ≡ x → one n x ≡ 1
here n x e = ap (λ b. cond b 1 0) (eq-eqb n x e)

away : (n x : ℕ) → (n ≡ x → ⊥) → one n x ≡ 0
away n x e = ap (λ b. cond b 1 0) (ne_eqb n x e)

little : (n x : ℕ) → one n x ≤ 1
little n x = ⊎_elim (λ e. let h = here n x e in omega arith) (λ e. let h = away n x e in omega arith) (cases_eq n x)

stands_there : (n x : ℕ) → one n x ≡ 1 → n ≡ x
stands_there n x e = ⊎_elim (λ h. h) (λ h. let z = away n x h in absurd (omega arith)) (cases_eq n x)

pub often_one : (x y : ℕ) → AsOften (x ∷ []) (y ∷ []) → x ≡ y
often_one x y a = let p = a x in let h = here x x refl in stands_there x y (omega arith)

pub often_two : (p q x y : ℕ) → AsOften (p ∷ q ∷ []) (x ∷ y ∷ []) → ((p ≡ x) × (q ≡ y)) ⊎ ((p ≡ y) × (q ≡ x))
often_two p q x y a =
    let ap1 = a p in
    let aq1 = a q in
    let hp = here p p refl in
    let hq = here q q refl in
    ⊎_elim
    (λ e. let s : one q p ≡ one q x = ap (one q) e in inl (e, stands_there q y (omega arith)))
    (λ e. let n = away p x e in
    let t = little p y in
    let f = stands_there p y (omega arith) in
    let s : one q p ≡ one q y = ap (one q) f in
    inr (f, stands_there q x (omega arith)))
    (cases_eq p x)

pub swapped_often : (p q : ℕ) → AsOften (p ∷ q ∷ []) (q ∷ p ∷ [])
swapped_often p q n = omega arith

pub never_none_one : (x : ℕ) → AsOften [] (x ∷ []) → ⊥
never_none_one x a = let p = a x in let h = here x x refl in omega arith

pub never_none_two : (x y : ℕ) → AsOften [] (x ∷ y ∷ []) → ⊥
never_none_two x y a = let p = a x in let h = here x x refl in omega arith

pub never_one_two : (z x y : ℕ) → AsOften (z ∷ []) (x ∷ y ∷ []) → ⊥
never_one_two z x y a =
    let px = a x in
    let py = a y in
    let hx = here x x refl in
    let hy = here y y refl in
    let lz = little x z in
    let zx = stands_there x z (omega arith) in
    ⊎_elim
    (λ e. let s = here x y e in omega arith)
    (λ e. let n = away x y e in
    let lw = little y z in
    let zy = stands_there y z (omega arith) in
    e (zx ∙ sym zy))
    (cases_eq x y)

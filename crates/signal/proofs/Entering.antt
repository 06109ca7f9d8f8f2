-- The inputs as the walk enters them: as they are, but for one that sticks.
-- The definition goes over all inputs; the code writes at most one, and these lemmas say that it is the same.
use Rattle.std.proofs.Common.{◌≡◌, ℕ, zero, suc, ◌+◌, ◌<◌, ◌≤◌, false, cond, List, [], ◌∷◌, length, get_or, take, set, Some, None, Option, sym, refl, ap, ◌∙◌, ap₂, add-zero, add-suc, suc-add, arith, length-take, eq-eqb, ne_eqb}
use lib.Seq.{take-set-lt, set_out}
use Rattle.signal.specs.declared.line.Line.TheVariants.{Net, Pin}
use Rattle.signal.specs.declared.line.Stuck.{Stuck}
use Rattle.signal.specs.Operations.{Operations}
use Rattle.signal.specs.Walks.{is_net, sticks_net, entered, unless_stuck}

module _ {S : Type 0} (o : Operations S) where
  pub length_entered : (t : Option Stuck) (j : ℕ) (xs : List S) → length (entered o t j xs) ≡ length xs
  length_entered t j [] = refl
  length_entered t j (x ∷ xs) = ap suc (length_entered t (suc j) xs)

  pub entered_at : (t : Option Stuck) (j : ℕ) (xs : List S) (i : ℕ) (d : S) → i < length xs → get_or (entered o t j xs) i d ≡ unless_stuck o t (sticks_net t (j + i)) (get_or xs i d)
  entered_at t j [] i d h = absurd (omega arith)
  entered_at t j (x ∷ xs) zero d h = rw add-zero
  entered_at t j (x ∷ xs) (suc i) d h =
      entered_at t (suc j) xs i d (omega arith) ∙ ap (λ m. unless_stuck o t (sticks_net t m) (get_or xs i d)) (suc-add j i ∙ sym (add-suc j i))

  -- where no input sticks
  pub entered_free : (t : Option Stuck) (j : ℕ) (xs : List S) → ((i : ℕ) → j ≤ i → sticks_net t i ≡ false) → entered o t j xs ≡ xs
  entered_free t j [] h = refl
  entered_free t j (x ∷ xs) h =
      ap₂ (λ b ys. unless_stuck o t b x ∷ ys) (h j (omega arith)) (entered_free t (suc j) xs (λ i l. h i (omega arith)))

  pub entered_none : (j : ℕ) (xs : List S) → entered o None j xs ≡ xs
  entered_none j xs = entered_free None j xs (λ i l. refl)

  pub entered_pin : (t : Option Stuck) (s : Stuck) (m q j : ℕ) (xs : List S) → t ≡ Some s → s.line ≡ Pin m q → entered o t j xs ≡ xs
  entered_pin t s m q j xs e f = entered_free t j xs (λ i l. ap (λ z. sticks_net z i) e ∙ ap (λ z. is_net z i) f)

  -- where net m sticks, at place n from here
  pub entered_net : (s : Stuck) (m n j : ℕ) (xs : List S) → s.line ≡ Net m → m ≡ j + n → entered o (Some s) j xs ≡ set xs n (o.constant s.level)
  entered_net s m n j [] f e = refl
  entered_net s m zero j (x ∷ xs) f e =
      ap₂ (λ b ys. cond b (o.constant s.level) x ∷ ys) (ap (λ z. is_net z j) f ∙ eq-eqb m j (omega arith)) (entered_free (Some s) (suc j) xs (λ i l. ap (λ z. is_net z i) f ∙ ne_eqb m i (λ q. omega arith)))
  entered_net s m (suc n) j (x ∷ xs) f e =
      ap₂ (λ b ys. cond b (o.constant s.level) x ∷ ys) (ap (λ z. is_net z j) f ∙ ne_eqb m j (λ q. omega arith)) (entered_net s m n (suc j) xs f (omega arith))

  -- a write at a stuck input enters the inputs
  pub entered_by_write : (t : Option Stuck) (s : Stuck) (k m : ℕ) (v : S) (xs : List S) → t ≡ Some s → s.line ≡ Net m → m < k → v ≡ o.constant s.level → take k (set xs m v) ≡ entered o t 0 (take k xs)
  entered_by_write t s k m v xs e f h w =
      take-set-lt k xs m v h ∙ ap (set (take k xs) m) w ∙ sym (entered_net s m m 0 (take k xs) f (omega arith)) ∙ ap (λ z. entered o z 0 (take k xs)) (sym e)

  -- a stuck net that is no input changes none
  pub entered_past : (t : Option Stuck) (s : Stuck) (k m : ℕ) (xs : List S) → t ≡ Some s → s.line ≡ Net m → k ≤ m → take k xs ≡ entered o t 0 (take k xs)
  entered_past t s k m xs e f h =
      sym (ap (λ z. entered o z 0 (take k xs)) e ∙ entered_net s m m 0 (take k xs) f (omega arith) ∙ set_out (take k xs) m _ (simp length-take (omega arith)))

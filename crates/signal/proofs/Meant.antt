-- Each function means at bits what its name says, for any number of pins.
-- The pins are joined from the left, so each lemma follows the fold.
use Rattle.std.proofs.Common.{◌≡◌, suc, ◌%◌, ◌≤◌, Bool, true, false, ◌&&◌, ◌||◌, ◌↔◌, List, [], ◌∷◌, length, sym, refl, ap, ◌∙◌, arith}
use mathlib.Core.Bool.{false≢true}
use Rattle.card.specs.declared.function.Function.TheVariants.{And2, Or2, Xor2}
use Rattle.signal.specs.Operations.{bit_operations, differ}
use Rattle.signal.specs.Gates.{folded, truth}
use Rattle.signal.specs.Meanings.{BitMeaning, ones}

ones_few : (bits : List Bool) → ones bits ≤ length bits
ones_few [] = omega arith
ones_few (true ∷ bits) = let h = ones_few bits in omega arith
ones_few (false ∷ bits) = let h = ones_few bits in omega arith

false_stays : (bits : List Bool) → folded ◌&&◌ false bits ≡ false
false_stays [] = refl
false_stays (b ∷ bits) = false_stays bits

true_stays : (bits : List Bool) → folded ◌||◌ true bits ≡ true
true_stays [] = refl
true_stays (b ∷ bits) = true_stays bits

-- a zero among the pins
no_every : (bits : List Bool) → (folded ◌&&◌ false bits ≡ true) ↔ (ones bits ≡ suc (length bits))
no_every bits = (λ e. absurd (false≢true (sym (false_stays bits) ∙ e)), λ e. absurd (let h = ones_few bits in omega arith))

every : (bits : List Bool) → (folded ◌&&◌ true bits ≡ true) ↔ (ones bits ≡ length bits)
every [] = (λ e. refl, λ e. refl)
every (true ∷ bits) = let h = every bits in (λ e. ap suc (h.0 e), λ e. h.1 (omega arith))
every (false ∷ bits) = no_every bits

and_every : (bits : List Bool) → (truth bit_operations And2 bits ≡ true) ↔ (ones bits ≡ length bits)
and_every [] = (λ e. refl, λ e. refl)
and_every (true ∷ bits) = let h = every bits in (λ e. ap suc (h.0 e), λ e. h.1 (omega arith))
and_every (false ∷ bits) = no_every bits

some : (bits : List Bool) → (folded ◌||◌ false bits ≡ true) ↔ (1 ≤ ones bits)
some [] = (λ e. absurd (false≢true e), λ h. absurd (omega arith))
some (true ∷ bits) = (λ e. omega arith, λ h. true_stays bits)
some (false ∷ bits) = some bits

or_some : (bits : List Bool) → (truth bit_operations Or2 bits ≡ true) ↔ (1 ≤ ones bits)
or_some [] = (λ e. absurd (false≢true e), λ h. absurd (omega arith))
or_some (true ∷ bits) = (λ e. omega arith, λ h. true_stays bits)
or_some (false ∷ bits) = some bits

-- two pins as their difference
paired : (b c : Bool) (bits : List Bool) → ones (differ b c ∷ bits) % 2 ≡ ones (b ∷ c ∷ bits) % 2
paired true true bits = omega arith
paired true false bits = refl
paired false true bits = refl
paired false false bits = refl

odd : (b : Bool) (bits : List Bool) → (folded differ b bits ≡ true) ↔ (ones (b ∷ bits) % 2 ≡ 1)
odd true [] = (λ e. refl, λ e. refl)
odd false [] = (λ e. absurd (false≢true e), λ e. absurd (omega arith))
odd b (c ∷ bits) = let h = odd (differ b c) bits in (λ e. sym (paired b c bits) ∙ h.0 e, λ e. h.1 (paired b c bits ∙ e))

xor_odd : (bits : List Bool) → (truth bit_operations Xor2 bits ≡ true) ↔ (ones bits % 2 ≡ 1)
xor_odd [] = (λ e. absurd (false≢true e), λ e. absurd (omega arith))
xor_odd (b ∷ bits) = odd b bits

pub bits_mean : BitMeaning
bits_mean =
    record {
      ida_is_the_pin = λ b. refl;
      and_where_every_pin_is_one = and_every;
      or_where_some_pin_is_one = or_some;
      xor_where_the_ones_are_odd = xor_odd;
      inva_negates_ida = λ bits. refl;
      nand_negates_and = λ bits. refl;
      nor_negates_or = λ bits. refl;
      xnor_negates_xor = λ bits. refl;
      zero_never = λ bits. refl;
      one_always = λ bits. refl;
    }

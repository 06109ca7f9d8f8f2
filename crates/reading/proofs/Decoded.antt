-- Decoding and spelling: what the bytes begin with is the spelling of the command that decoding answers, and back.
use Rattle.std.proofs.Common.{◌≡◌, ℕ, zero, suc, ◌+◌, ◌-◌, ◌*◌, ◌/◌, ◌%◌, ◌<◌, ◌≤◌, true, false, ◌&&◌, eqb, ltb, leb, List, [], ◌∷◌, ◌++◌, length, Ok, Err, Result, sym, refl, ap, ◌∙◌, subst, mul_comm, arith}
use native.Mathlib.Nat.{div-add-mod}
use Rattle.std.proofs.lemmas.Nat.{div-mul-add, mod-mul-add}
use Rattle.std.proofs.lemmas.Bool.{cond_both, cond-true, cond-false, and_parts, or_parts, or_from, or_left, or_right, eqb-true, ne_eqb, leb-true, leb-false, le-leb, lt-ltb, le-ltb, ltb-true, ltb-false, lt-leb}
use Rattle.card.specs.declared.function.Function.{Function}
use Rattle.card.specs.declared.function.Function.TheVariants.{Ida, And2, Or2, Xor2, Inva, Nand2, Nor2, Xnor2, Zero, One as High}
use Rattle.card.specs.declared.gate.Gate.{Gate}
use Rattle.card.specs.declared.gate.Operands.{Operands}
use Rattle.card.specs.declared.gate.Operands.TheVariants.{None as NoOperand, One, Two}
use Rattle.reading.specs.declared.command.Command.{Command}
use Rattle.reading.specs.declared.command.Command.TheVariants.{AddInput, AddGate, AddOutput, End}
use Rattle.reading.specs.declared.fault.OperandFault.TheVariants.{Cut}
use Rattle.reading.specs.declared.fault.CardFault.{CardFault}
use Rattle.reading.specs.declared.fault.CardFault.TheVariants.{Unknown, Ended, Operand}
use Rattle.reading.specs.Commands.{net_bytes, nets_bytes, size_of, spelled}
use Rattle.card.specs.Functions.{function_number, function_of, pin_count}
use Rattle.card.specs.Netlists.{nets_read, pins_of}
use Rattle.reading.specs.Reading.{bytes_for, command_at, command_of, gate_of, net_at, operands_at, operands_in, output_of, word}
use Rattle.reading.specs.Rules.{Bytes, WellFormed, opens, operands_after}

-- two bytes are the bytes of the number that they spell
pub net_bytes_lem : (h l : ℕ) → l < 256 → net_bytes (256 * h + l) ≡ h ∷ l ∷ []
net_bytes_lem h l b =
    let c = mul_comm 256 h in
    let q : (256 * h + l) / 256 ≡ h = ap (λ (x : ℕ). (x + l) / 256) c ∙ div-mul-add h 256 l b in
    let r : (256 * h + l) % 256 ≡ l = ap (λ (x : ℕ). (x + l) % 256) c ∙ mod-mul-add h 256 l b in
    cc

-- the bytes of a number spell it
pub net_word : (n : ℕ) → 256 * (n / 256) + n % 256 ≡ n
net_word n = div-add-mod n 256

-- a digit is the number of its function
pub digit_number : (j : ℕ) → j ≤ 9 → function_number (function_of j) ≡ j
digit_number zero h = refl
digit_number (suc zero) h = refl
digit_number (suc (suc zero)) h = refl
digit_number (suc (suc (suc zero))) h = refl
digit_number (suc (suc (suc (suc zero)))) h = refl
digit_number (suc (suc (suc (suc (suc zero))))) h = refl
digit_number (suc (suc (suc (suc (suc (suc zero)))))) h = refl
digit_number (suc (suc (suc (suc (suc (suc (suc zero))))))) h = refl
digit_number (suc (suc (suc (suc (suc (suc (suc (suc zero)))))))) h = refl
digit_number (suc (suc (suc (suc (suc (suc (suc (suc (suc zero))))))))) h = refl
digit_number (suc (suc (suc (suc (suc (suc (suc (suc (suc (suc j)))))))))) h = absurd (omega arith)

pub few_pins : (f : Function) → pin_count f ≤ 2
few_pins Ida = omega arith
few_pins And2 = omega arith
few_pins Or2 = omega arith
few_pins Xor2 = omega arith
few_pins Inva = omega arith
few_pins Nand2 = omega arith
few_pins Nor2 = omega arith
few_pins Xnor2 = omega arith
few_pins Zero = omega arith
few_pins High = omega arith

-- the operands that decoding finds are spelled behind the first byte
pub operands_spelled : (n b : ℕ) (more : List ℕ) → n ≤ 2 → Bytes (b ∷ more) → bytes_for n ≤ length (b ∷ more)
    → (length (nets_read (operands_in (b ∷ more) n)) ≡ n) × ((tail : List ℕ) × (more ≡ nets_bytes (nets_read (operands_in (b ∷ more) n)) ++ tail))
operands_spelled zero b more h y l = (refl, (more, refl))
operands_spelled (suc zero) b [] h y l = absurd (omega arith)
operands_spelled (suc zero) b (p ∷ []) h y l = absurd (omega arith)
operands_spelled (suc zero) b (p ∷ q ∷ tail) h y l = (refl, (tail, ap (λ (x : List ℕ). x ++ tail) (sym (net_bytes_lem p q (y 2)))))
operands_spelled (suc (suc zero)) b [] h y l = absurd (omega arith)
operands_spelled (suc (suc zero)) b (p ∷ []) h y l = absurd (omega arith)
operands_spelled (suc (suc zero)) b (p ∷ q ∷ []) h y l = absurd (omega arith)
operands_spelled (suc (suc zero)) b (p ∷ q ∷ r ∷ []) h y l = absurd (omega arith)
operands_spelled (suc (suc zero)) b (p ∷ q ∷ r ∷ s ∷ tail) h y l =
    let e = net_bytes_lem p q (y 2) in
    let f = net_bytes_lem r s (y 4) in
    (refl, (tail, sym (ap (λ (x : List ℕ). x ++ nets_bytes ((256 * r + s) ∷ []) ++ tail) e ∙ ap (λ (x : List ℕ). p ∷ q ∷ x ++ tail) f)))
operands_spelled (suc (suc (suc n))) b more h y l = absurd (omega arith)

-- operands that are spelled behind a byte are the ones that decoding finds
pub operands_read : (os : Operands) (b : ℕ) (tail : List ℕ) (at : ℕ) → operands_at (b ∷ (nets_bytes (nets_read os) ++ tail)) (length (nets_read os)) at ≡ Ok os
operands_read NoOperand b tail at = cond-true (leb 1 (length (b ∷ tail))) _ _ (le-leb 1 (length (b ∷ tail)) (omega arith))
operands_read (One n) b tail at =
    cond-true (leb 3 (length (b ∷ (net_bytes n ++ tail)))) _ _ (le-leb 3 (length (b ∷ (net_bytes n ++ tail))) (omega arith)) ∙ ap (λ x. Ok (One x)) (net_word n)
operands_read (Two m n) b tail at =
    cond-true (leb 5 (length (b ∷ (net_bytes m ++ net_bytes n ++ tail)))) _ _ (le-leb 5 (length (b ∷ (net_bytes m ++ net_bytes n ++ tail))) (omega arith))
    ∙ ap (λ x. Ok (Two x (256 * (n / 256) + n % 256))) (net_word m) ∙ ap (λ x. Ok (Two m x)) (net_word n)

-- where a byte is left, it decides
pub first_byte : (b : ℕ) (more : List ℕ) (at : ℕ) → command_at (b ∷ more) at ≡ command_of b (b ∷ more) at
first_byte b more at = cond-false (eqb (length (b ∷ more)) 0) _ _ (ne_eqb (length (b ∷ more)) 0 (λ e. omega (arith, e)))

-- a gate command's first byte
pub gate_byte : (f : Function) (rest : List ℕ) (at : ℕ) → command_of (0x30 + function_number f) rest at ≡ gate_of f (operands_at rest (pin_count f) at)
gate_byte Ida rest at = refl
gate_byte And2 rest at = refl
gate_byte Or2 rest at = refl
gate_byte Xor2 rest at = refl
gate_byte Inva rest at = refl
gate_byte Nand2 rest at = refl
gate_byte Nor2 rest at = refl
gate_byte Xnor2 rest at = refl
gate_byte Zero rest at = refl
gate_byte High rest at = refl

-- a spelled command is decoded
pub spelled_decoded : (c : Command) (tail : List ℕ) (at : ℕ) → WellFormed c → command_at (spelled c ++ tail) at ≡ Ok c
spelled_decoded AddInput tail at w = first_byte 0x20 tail at
spelled_decoded (AddGate g) tail at w =
    first_byte (0x30 + function_number g.function) (nets_bytes (pins_of g) ++ tail) at
    ∙ gate_byte g.function (spelled (AddGate g) ++ tail) at
    ∙ ap (λ n. gate_of g.function (operands_at (spelled (AddGate g) ++ tail) n at)) (sym w)
    ∙ ap (gate_of g.function) (operands_read g.operands (0x30 + function_number g.function) tail at)
spelled_decoded (AddOutput n) tail at w =
    first_byte 0x40 (net_bytes n ++ tail) at
    ∙ ap output_of (cond-true (ltb 2 (length (spelled (AddOutput n) ++ tail))) _ _ (lt-ltb 2 (length (spelled (AddOutput n) ++ tail)) (omega arith)) ∙ ap Ok (net_word n))
spelled_decoded End tail at w = first_byte 0x7f tail at

pub length_spelled : (c : Command) → length (spelled c) ≡ size_of c
length_spelled AddInput = refl
length_spelled (AddGate g) = size g.operands
  where
    size : (os : Operands) → suc (length (nets_bytes (nets_read os))) ≡ 1 + 2 * length (nets_read os)
    size NoOperand = refl
    size (One n) = refl
    size (Two m n) = refl
length_spelled (AddOutput n) = refl
length_spelled End = refl

-- what decoding answers, with the bytes that it stands for
pub data Decoding (rest : List ℕ) (at : ℕ) : Result Command CardFault → Type 0 where
  none_left : rest ≡ [] → Decoding rest at (Err (Ended at))
  no_command : (b : ℕ) (more : List ℕ) → rest ≡ b ∷ more → opens b ≡ false → Decoding rest at (Err (Unknown at))
  cut_short : (b : ℕ) (more : List ℕ) → rest ≡ b ∷ more → opens b ≡ true → length more < 2 * operands_after b → Decoding rest at (Err (Operand (Cut at)))
  whole : (c : Command) (tail : List ℕ) → WellFormed c → rest ≡ spelled c ++ tail → Decoding rest at (Ok c)

-- the operand bytes that a gate asks for
pub bytes_for_lem : (n : ℕ) → n ≤ 2 → bytes_for n ≡ 1 + 2 * n
bytes_for_lem zero h = refl
bytes_for_lem (suc zero) h = refl
bytes_for_lem (suc (suc zero)) h = refl
bytes_for_lem (suc (suc (suc n))) h = absurd (omega arith)

module _ (b : ℕ) (more : List ℕ) (at : ℕ) (bytes : Bytes (b ∷ more)) where
  gate_decoding : (leb 0x30 b && leb b 0x39) ≡ true → Decoding (b ∷ more) at (gate_of (function_of (b - 0x30)) (operands_at (b ∷ more) (pin_count (function_of (b - 0x30))) at))
  gate_decoding t =
      let f = function_of (b - 0x30) in
      let n = pin_count f in
      let p = and_parts (leb 0x30 b) (leb b 0x39) t in
      let lo = leb-true 0x30 b p.0 in
      let hi = leb-true b 0x39 p.1 in
      let num : function_number f ≡ b - 0x30 = digit_number (b - 0x30) (omega arith) in
      let opn : opens b ≡ true = or_right (eqb b 0x20) _ (or_left (leb 0x30 b && leb b 0x39) _ t) in
      let after : operands_after b ≡ n = cond-true (leb 0x30 b && leb b 0x39) n _ t in
      let all : bytes_for n ≡ 1 + 2 * n = bytes_for_lem n (few_pins f) in
      let byte : 0x30 + function_number f ≡ b = omega (arith, num) in
      cond_both (leb (bytes_for n) (length (b ∷ more))) (Ok (operands_in (b ∷ more) n)) (Err (Cut at)) (λ r. Decoding (b ∷ more) at (gate_of f r))
      (λ e. let o = operands_spelled n b more (few_pins f) bytes (leb-true (bytes_for n) (length (b ∷ more)) e) in
      let g : Gate = record { function = f; operands = operands_in (b ∷ more) n } in
      whole (AddGate g) o.1.0 o.0 (ap (λ (x : ℕ). x ∷ more) (sym byte) ∙ ap (λ (x : List ℕ). (0x30 + function_number f) ∷ x) o.1.1))
      (λ e. let l = leb-false (bytes_for n) (length (b ∷ more)) e in cut_short b more refl opn (omega (arith, l, all, after)))

  output_decoding : b ≡ 0x40 → Decoding (b ∷ more) at (output_of (net_at (b ∷ more) 1 at))
  output_decoding t =
      cond_both (ltb 2 (length (b ∷ more))) (Ok (word (b ∷ more) 1)) (Err (Cut at)) (λ r. Decoding (b ∷ more) at (output_of r))
      (λ e. spell more bytes (ltb-true 2 (length (b ∷ more)) e))
      (λ e. let l = ltb-false 2 (length (b ∷ more)) e in
      let opn : opens b ≡ true = ap opens t in
      let after : operands_after b ≡ 1 = ap operands_after t in
      cut_short b more refl opn (omega (arith, l, after)))
    where
      spell : (ms : List ℕ) → Bytes (b ∷ ms) → 2 < length (b ∷ ms) → Decoding (b ∷ ms) at (Ok (AddOutput (word (b ∷ ms) 1)))
      spell [] y l = absurd (omega arith)
      spell (p ∷ []) y l = absurd (omega arith)
      spell (p ∷ q ∷ tail) y l = whole (AddOutput (256 * p + q)) tail tt (ap (λ (x : ℕ). x ∷ p ∷ q ∷ tail) t ∙ ap (λ (x : List ℕ). 0x40 ∷ (x ++ tail)) (sym (net_bytes_lem p q (y 2))))

pub decoding : (rest : List ℕ) (at : ℕ) → Bytes rest → Decoding rest at (command_at rest at)
decoding [] at y = none_left refl
decoding (b ∷ more) at y =
    subst (Decoding (b ∷ more) at) (sym (first_byte b more at))
    (cond_both (eqb b 0x20) _ _ (Decoding (b ∷ more) at)
    (λ e. whole AddInput more tt (ap (λ (x : ℕ). x ∷ more) (eqb-true b 0x20 e)))
    (λ e. cond_both (leb 0x30 b && leb b 0x39) _ _ (Decoding (b ∷ more) at)
    (λ f. gate_decoding b more at y f)
    (λ f. cond_both (eqb b 0x40) _ _ (Decoding (b ∷ more) at)
    (λ g. output_decoding b more at y (eqb-true b 0x40 g))
    (λ g. cond_both (eqb b 0x7f) _ _ (Decoding (b ∷ more) at)
    (λ h. whole End more tt (ap (λ (x : ℕ). x ∷ more) (eqb-true b 0x7f h)))
    (λ h. no_command b more refl (or_from (eqb b 0x20) _ e (or_from (leb 0x30 b && leb b 0x39) _ f (or_from (eqb b 0x40) _ g h))))))))

-- a byte that begins no command is refused
pub unknown_decoded : (b : ℕ) (more : List ℕ) (at : ℕ) → opens b ≡ false → command_at (b ∷ more) at ≡ Err (Unknown at)
unknown_decoded b more at o =
    let p = or_parts (eqb b 0x20) _ o in
    let q = or_parts (leb 0x30 b && leb b 0x39) _ p.1 in
    let r = or_parts (eqb b 0x40) _ q.1 in
    first_byte b more at ∙ cond-false (eqb b 0x20) _ _ p.0 ∙ cond-false (leb 0x30 b && leb b 0x39) _ _ q.0 ∙ cond-false (eqb b 0x40) _ _ r.0 ∙ cond-false (eqb b 0x7f) _ _ r.1

-- a command whose operands are cut is refused
pub cut_decoded : (b : ℕ) (more : List ℕ) (at : ℕ) → opens b ≡ true → length more < 2 * operands_after b → command_at (b ∷ more) at ≡ Err (Operand (Cut at))
cut_decoded b more at o l =
    first_byte b more at ∙
    cond_both (eqb b 0x20) _ _ (λ r. r ≡ Err (Operand (Cut at)))
    (λ e. let z : operands_after b ≡ 0 = ap operands_after (eqb-true b 0x20 e) in absurd (omega (arith, l, z)))
    (λ e. cond_both (leb 0x30 b && leb b 0x39) _ _ (λ r. r ≡ Err (Operand (Cut at)))
    (λ f. let n = pin_count (function_of (b - 0x30)) in
    let after : operands_after b ≡ n = cond-true (leb 0x30 b && leb b 0x39) n _ f in
    let all : bytes_for n ≡ 1 + 2 * n = bytes_for_lem n (few_pins (function_of (b - 0x30))) in
    ap (gate_of (function_of (b - 0x30))) (cond-false (leb (bytes_for n) (length (b ∷ more))) _ _ (lt-leb (bytes_for n) (length (b ∷ more)) (omega (arith, l, after, all)))))
    (λ f. cond_both (eqb b 0x40) _ _ (λ r. r ≡ Err (Operand (Cut at)))
    (λ g. let after : operands_after b ≡ 1 = ap operands_after (eqb-true b 0x40 g) in
    ap output_of (cond-false (ltb 2 (length (b ∷ more))) _ _ (le-ltb 2 (length (b ∷ more)) (omega (arith, l, after)))))
    (λ g. let z : operands_after b ≡ 0 = cond-false (leb 0x30 b && leb b 0x39) _ _ f ∙ cond-false (eqb b 0x40) _ _ g in absurd (omega (arith, l, z)))))

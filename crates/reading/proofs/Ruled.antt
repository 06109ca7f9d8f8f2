-- Reading by the definition and reading by the rules agree: along commands that keep the rules, and at the command where they end.
use Rattle.std.proofs.Common.{◌≡◌, ℕ, zero, suc, ◌+◌, ◌*◌, ◌<◌, ◌≤◌, true, false, ltb, List, [], ◌∷◌, ◌++◌, length, drop, Some, None, Ok, Err, Option, Result, sym, refl, ap, ◌∙◌, subst, append_assoc, arith, length-append, length-drop}
use Rattle.std.proofs.lemmas.List.{drop_at, get_or-drop}
use Rattle.std.proofs.lemmas.Bool.{cond_both, ltb-true, ltb-false}
use Rattle.reading.specs.declared.command.Command.{Command}
use Rattle.reading.specs.declared.command.Command.TheVariants.{AddInput, AddGate, AddOutput, End}
use Rattle.reading.specs.declared.fault.OperandFault.TheVariants.{Cut}
use Rattle.reading.specs.declared.fault.CardFault.{CardFault}
use Rattle.reading.specs.declared.fault.CardFault.TheVariants.{Unknown, Ended, Operand, Trailing}
use Rattle.reading.specs.Commands.{adds, size_of, spelled}
use Rattle.card.specs.Netlists.{Netlist}
use Rattle.reading.specs.Reading.{accepted, command_at, decoded, fault_of, judged, nothing, onward, read_from, reading}
use Rattle.reading.specs.Refusals.{refusal_number, refusal_offset}
use Rattle.reading.specs.Rules.{Accepted, Agree, AllKeepRules, Begins, BreaksFirst, Bytes, KeepsRules, Refused, WellFormed, all_spelled, broken, cut, declared_by, ended, opens, operands_after, trailing, unknown}
use Rattle.reading.proofs.Decoded.{Decoding, cut_decoded, cut_short, decoding, length_spelled, no_command, none_left, spelled_decoded, unknown_decoded, whole}
use Rattle.reading.proofs.Judged.{broken_faults, fault_says, keeps_rules, no_fault}
use Rattle.reading.proofs.Steps.{accepted_end, accepted_more, accepted_trailing, read_bad, read_done, read_more, step_accepted, step_broken, step_undecoded}

-- where the reading stands after commands that keep the rules
pub record Along (cs : List Command) (rest : List ℕ) (at n : ℕ) (d : Netlist) : Type 0 where
  pub left : ℕ
  pub enough : length rest < left
  pub same : read_from n (all_spelled cs ++ rest) at d ≡ read_from left rest (at + length (all_spelled cs)) (declared_by d cs)

pub along : (cs : List Command) (rest : List ℕ) (at n : ℕ) (d : Netlist) → AllKeepRules d cs → length (all_spelled cs ++ rest) < n → Along cs rest at n d
along [] rest at n d k l =
    let z : at ≡ at + 0 = omega arith in
    record { left = n; enough = l; same = ap (λ x. read_from n rest x d) z }
along (c ∷ cs) rest at n d k l =
    let T = all_spelled cs ++ rest in
    let a : (spelled c ++ all_spelled cs) ++ rest ≡ spelled c ++ T = append_assoc (spelled c) (all_spelled cs) rest in
    let la = ap length a in
    let ls = length_spelled c in
    let lt = length-append (spelled c) T in
    let one = one_byte c in
    let s = step_accepted d (spelled c ++ T) at c (sym (spelled_decoded c T at k.1)) (no_fault d c at k.2) ∙ accepted_more d c (spelled c ++ T) at (adds d c) (size_of c) k.0 refl refl in
    let r = read_more (spelled c ++ T) at d n (size_of c) (adds d c) (omega arith) one (omega arith) s in
    let dr = drop_at (spelled c) T (size_of c) ls in
    let rl = r.1 in
    let i = along cs rest (at + size_of c) r.0 (adds d c) k.3 (omega arith) in
    let lz = length-append (spelled c) (all_spelled cs) in
    let z : (at + size_of c) + length (all_spelled cs) ≡ at + length (spelled c ++ all_spelled cs) = omega arith in
    record {
      left = i.left;
      enough = i.enough;
      same = ap (λ x. read_from n x at d) a ∙ r.2 ∙ ap (λ x. read_from r.0 x (at + size_of c) (adds d c)) dr ∙ i.same
          ∙ ap (λ x. read_from i.left rest x (declared_by (adds d c) cs)) z;
    }
  where
    one_byte : (c : Command) → 1 ≤ size_of c
    one_byte AddInput = omega arith
    one_byte (AddGate g) = omega arith
    one_byte (AddOutput o) = omega arith
    one_byte End = omega arith

-- how a reading ends, at the command that begins the tail
pub data Finish (d : Netlist) (o : ℕ) (tail : List ℕ) : Result Netlist CardFault → Type 0 where
  f_end : tail ≡ 0x7f ∷ [] → KeepsRules d End → Finish d o tail (Ok d)
  f_unknown : (b : ℕ) (rest : List ℕ) → tail ≡ b ∷ rest → opens b ≡ false → Finish d o tail (Err (Unknown o))
  f_ended : tail ≡ [] → Finish d o tail (Err (Ended o))
  f_cut : (b : ℕ) (rest : List ℕ) → tail ≡ b ∷ rest → opens b ≡ true → length rest < 2 * operands_after b → Finish d o tail (Err (Operand (Cut o)))
  f_broken : (c : Command) (rest : List ℕ) (e : CardFault) → WellFormed c → tail ≡ spelled c ++ rest → BreaksFirst d c (refusal_number e) → refusal_offset e ≡ o → Finish d o tail (Err e)
  f_trailing : (b : ℕ) (rest : List ℕ) → tail ≡ 0x7f ∷ b ∷ rest → KeepsRules d End → Finish d o tail (Err (Trailing (o + 1)))

-- what a reading of the rest comes to: commands that keep the rules, and how it ends behind them
pub record Outcome (d : Netlist) (at : ℕ) (rest : List ℕ) (r : Result Netlist CardFault) : Type 0 where
  pub commands : List Command
  pub tail : List ℕ
  pub place : ℕ
  pub keep : AllKeepRules d commands
  pub spell : rest ≡ all_spelled commands ++ tail
  pub places : place ≡ at + length (all_spelled commands)
  pub finish : Finish (declared_by d commands) place tail r

-- it ends at the first command
here : (d : Netlist) (at : ℕ) (rest : List ℕ) (r : Result Netlist CardFault) → Finish d at rest r → Outcome d at rest r
here d at rest r f = record { commands = []; tail = rest; place = at; keep = tt; spell = refl; places = omega arith; finish = f }

-- it goes on behind a command
behind : (d : Netlist) (at : ℕ) (rest after : List ℕ) (c : Command) (r : Result Netlist CardFault) → (c ≡ End → ⊥) → WellFormed c → KeepsRules d c → rest ≡ spelled c ++ after → Outcome (adds d c) (at + size_of c) after r → Outcome d at rest r
behind d at rest after c r n w k s u =
    let ls = length_spelled c in
    let lt = length-append (spelled c) (all_spelled u.commands) in
    let up = u.places in
    record {
      commands = c ∷ u.commands;
      tail = u.tail;
      place = u.place;
      keep = (n, w, k, u.keep);
      spell = s ∙ ap (λ x. spelled c ++ x) u.spell ∙ sym (append_assoc (spelled c) (all_spelled u.commands) u.tail);
      places = omega arith;
      finish = u.finish;
    }

bytes_left : (k : ℕ) (bs : List ℕ) → Bytes bs → Bytes (drop k bs)
bytes_left k bs y i = subst (λ x. x < 256) (sym (get_or-drop k bs i 0)) (y (k + i))

-- the readings of what is left, by fewer turns
abbrev Later : ℕ → Type 0
Later n = (rest : List ℕ) (at : ℕ) (d : Netlist) → Bytes rest → length rest < n → Outcome d at rest (read_from n rest at d)

module _ (n : ℕ) (later : Later n) (d : Netlist) (rest : List ℕ) (at : ℕ) (bytes : Bytes rest) (few : length rest < suc n) where
  abbrev next : Netlist → ℕ → Result Netlist CardFault
  next e size = read_from n (drop size rest) (at + size) e

  -- a command that keeps the rules and does not end the card
  go_on : (c : Command) (tail : List ℕ) → (c ≡ End → ⊥) → WellFormed c → rest ≡ spelled c ++ tail → fault_of d c at ≡ None → 1 ≤ size_of c → Outcome d at rest (next (adds d c) (size_of c))
  go_on c tail e w s f one =
      let len = length-drop (size_of c) rest in
      let ls = length_spelled c in
      let lr = ap length s ∙ length-append (spelled c) tail in
      let l : length (drop (size_of c) rest) < n = omega arith in
      behind d at rest (drop (size_of c) rest) c _ e w (keeps_rules d c at f)
      (s ∙ ap (λ x. spelled c ++ x) (sym (ap (drop (size_of c)) s ∙ drop_at (spelled c) tail (size_of c) (length_spelled c))))
      (later (drop (size_of c) rest) (at + size_of c) (adds d c) (bytes_left (size_of c) rest bytes) l)

  -- the end command, with or without bytes behind it
  at_end : (tail : List ℕ) → rest ≡ 0x7f ∷ tail → KeepsRules d End → Outcome d at rest (onward next d (accepted d End rest at))
  at_end [] s k =
      let l = ap length s in
      cond_both (ltb 1 (length rest)) _ _ (λ x. Outcome d at rest (onward next d x))
      (λ e. let b = ltb-true 1 (length rest) e in absurd (omega arith))
      (λ e. here d at rest _ (f_end s k))
  at_end (b ∷ after) s k =
      let l = ap length s in
      cond_both (ltb 1 (length rest)) _ _ (λ x. Outcome d at rest (onward next d x))
      (λ e. here d at rest _ (f_trailing b after s k))
      (λ e. let u = ltb-false 1 (length rest) e in absurd (omega arith))

  take_command : (c : Command) (tail : List ℕ) → WellFormed c → rest ≡ spelled c ++ tail → fault_of d c at ≡ None → Outcome d at rest (onward next d (accepted d c rest at))
  take_command AddInput tail w s f = go_on AddInput tail (λ same. cc) w s f (omega arith)
  take_command (AddGate g) tail w s f = go_on (AddGate g) tail (λ same. cc) w s f (omega arith)
  take_command (AddOutput o) tail w s f = go_on (AddOutput o) tail (λ same. cc) w s f (omega arith)
  take_command End tail w s f = at_end tail s (keeps_rules d End at f)

  by_fault : (c : Command) (tail : List ℕ) → WellFormed c → rest ≡ spelled c ++ tail → (q : Option CardFault) → fault_of d c at ≡ q → Outcome d at rest (onward next d (judged d c rest at q))
  by_fault c tail w s (Some e) f = let y = fault_says d c at e f in here d at rest _ (f_broken c tail e w s y.first y.place)
  by_fault c tail w s None f = take_command c tail w s f

  by_decoding : (r : Result Command CardFault) → Decoding rest at r → Outcome d at rest (onward next d (decoded d rest at r))
  by_decoding r (none_left e) = here d at rest _ (f_ended e)
  by_decoding r (no_command b after s o) = here d at rest _ (f_unknown b after s o)
  by_decoding r (cut_short b after s o l) = here d at rest _ (f_cut b after s o l)
  by_decoding r (whole c tail w s) = by_fault c tail w s (fault_of d c at) refl

pub outcome : (n : ℕ) → Later n
unfolding read_from
outcome zero rest at d y l = absurd (omega arith)
outcome (suc n) rest at d y l = by_decoding n (outcome n) d rest at y l (command_at rest at) (decoding rest at y)

-- the same, from the start
begins : (bs : List ℕ) (r : Result Netlist CardFault) (u : Outcome nothing 0 bs r) (rest : List ℕ) → u.tail ≡ rest → Begins bs u.place (declared_by nothing u.commands) rest
begins bs r u rest t =
    let p = u.places in
    record { commands = u.commands; keep = u.keep; declare = refl; spell = u.spell ∙ ap (λ x. all_spelled u.commands ++ x) t; offset = omega arith }

-- the fault, by its number and offset
abbrev RefusedBy : List ℕ → CardFault → Type 0
RefusedBy bs f = Refused bs (refusal_number f) (refusal_offset f)

module _ (bs : List ℕ) (o : ℕ) (e : Netlist) (tail : List ℕ) (at : (rest : List ℕ) → tail ≡ rest → Begins bs o e rest) where
  accepts_by : (d : Netlist) (r : Result Netlist CardFault) → r ≡ Ok d → Finish e o tail r → Accepted bs d
  accepts_by d r p (f_end t k) = let s : e ≡ d = cc in subst (Accepted bs) s (record { at = o; begins = at (0x7f ∷ []) t; complete = k })
  accepts_by d r p (f_unknown b rest t h) = absurd (cc)
  accepts_by d r p (f_ended t) = absurd (cc)
  accepts_by d r p (f_cut b rest t h l) = absurd (cc)
  accepts_by d r p (f_broken c rest f w t b h) = absurd (cc)
  accepts_by d r p (f_trailing b rest t k) = absurd (cc)

  refuses_by : (f : CardFault) (r : Result Netlist CardFault) → r ≡ Err f → Finish e o tail r → RefusedBy bs f
  refuses_by f r p (f_end t k) = absurd (cc)
  refuses_by f r p (f_unknown b rest t h) = let s : Unknown o ≡ f = cc in subst (RefusedBy bs) s (unknown (at (b ∷ rest) t) h)
  refuses_by f r p (f_ended t) = let s : Ended o ≡ f = cc in subst (RefusedBy bs) s (ended (at [] t))
  refuses_by f r p (f_cut b rest t h l) = let s : Operand (Cut o) ≡ f = cc in subst (RefusedBy bs) s (cut (at (b ∷ rest) t) h l)
  refuses_by f r p (f_broken c rest g w t b h) =
      let s : g ≡ f = cc in
      subst (RefusedBy bs) s (subst (λ x. Refused bs (refusal_number g) x) (sym h) (broken c rest w (at (spelled c ++ rest) t) b))
  refuses_by f r p (f_trailing b rest t k) = let s : Trailing (o + 1) ≡ f = cc in subst (RefusedBy bs) s (trailing (at (0x7f ∷ b ∷ rest) t) k)

-- reading goes along the commands that the bytes begin with
reached : (bs : List ℕ) (o : ℕ) (d : Netlist) (rest : List ℕ) → Begins bs o d rest → (n : ℕ) × (length rest < n) × (reading bs ≡ read_from n rest o d)
reached bs o d rest b =
    let l = ap length b.spell in
    let u = along b.commands rest 0 (suc (length bs)) nothing b.keep (omega arith) in
    let bo = b.offset in
    let z : 0 + length (all_spelled b.commands) ≡ o = omega arith in (
      u.left,
      u.enough,
      ap (λ x. read_from (suc (length bs)) x 0 nothing) b.spell ∙ u.same
          ∙ ap (λ x. read_from u.left rest x (declared_by nothing b.commands)) z ∙ ap (read_from u.left rest o) (sym b.declare),
    )

pub record Answered (bs : List ℕ) (r o : ℕ) : Type 0 where
  pub fault : CardFault
  pub is : reading bs ≡ Err fault
  pub number : refusal_number fault ≡ r
  pub offset : refusal_offset fault ≡ o

answered : (bs : List ℕ) (r o : ℕ) → Refused bs r o → Answered bs r o
answered bs r o (unknown {o = p} {b} {d} {rest} s h) =
    let q = reached bs p d (b ∷ rest) s in
    record { fault = Unknown p; is = q.2 ∙ read_bad (b ∷ rest) p d q.0 (Unknown p) q.1 (step_undecoded d (b ∷ rest) p (Unknown p) (sym (unknown_decoded b rest p h))); number = refl; offset = refl }
answered bs r o (ended {o = p} {d} s) =
    let q = reached bs p d [] s in
    record { fault = Ended p; is = q.2 ∙ read_bad [] p d q.0 (Ended p) q.1 (step_undecoded d [] p (Ended p) refl); number = refl; offset = refl }
answered bs r o (cut {o = p} {b} {d} {rest} s h l) =
    let q = reached bs p d (b ∷ rest) s in
    record { fault = Operand (Cut p); is = q.2 ∙ read_bad (b ∷ rest) p d q.0 (Operand (Cut p)) q.1 (step_undecoded d (b ∷ rest) p (Operand (Cut p)) (sym (cut_decoded b rest p h l))); number = refl; offset = refl }
answered bs r o (broken {o = p} {r = t} c {d} rest w s f) =
    let q = reached bs p d (spelled c ++ rest) s in
    let y = broken_faults d c p t f in
    record { fault = y.fault; is = q.2 ∙ read_bad (spelled c ++ rest) p d q.0 y.fault q.1 (step_broken d (spelled c ++ rest) p c y.fault (sym (spelled_decoded c rest p w)) y.is); number = y.number; offset = y.offset }
answered bs r o (trailing {o = p} {b} {d} {rest} s k) =
    let q = reached bs p d (0x7f ∷ b ∷ rest) s in
    record {
      fault = Trailing (p + 1);
      is = q.2 ∙ read_bad (0x7f ∷ b ∷ rest) p d q.0 (Trailing (p + 1)) q.1
          (step_accepted d (0x7f ∷ b ∷ rest) p End (sym (spelled_decoded End (b ∷ rest) p tt)) (no_fault d End p k) ∙ accepted_trailing d End (0x7f ∷ b ∷ rest) p refl (omega arith));
      number = refl;
      offset = refl;
    }

pub agree : Agree
agree = record {
  accepts = λ bs y d e. let u = outcome (suc (length bs)) bs 0 nothing y (omega arith) in accepts_by bs u.place _ u.tail (begins bs (reading bs) u) d (reading bs) e u.finish;
  accepted = λ bs d a.
      let q = reached bs a.at d (0x7f ∷ []) a.begins in
      q.2 ∙ read_done (0x7f ∷ []) a.at d q.0 q.1 (step_accepted d (0x7f ∷ []) a.at End (sym (spelled_decoded End [] a.at tt)) (no_fault d End a.at a.complete) ∙ accepted_end d End (0x7f ∷ []) a.at refl (omega arith));
  refuses = λ bs y e p. let u = outcome (suc (length bs)) bs 0 nothing y (omega arith) in refuses_by bs u.place _ u.tail (begins bs (reading bs) u) e (reading bs) p u.finish;
  refused = λ bs r o f. let a = answered bs r o f in (a.fault, a.is, a.number, a.offset);
}

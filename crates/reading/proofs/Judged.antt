-- The fault of a command is the first rule that it breaks, and the first broken rule is its fault.
use Rattle.std.proofs.Common.{◌≡◌, ℕ, true, false, eqb, Some, None, sym, refl, ◌∙◌, subst, ⊎_elim, arith}
use Rattle.std.proofs.lemmas.Bool.{cond_both, cond-true, cond-false, eqb-true, true≢false}
use Rattle.reading.specs.declared.command.Command.{Command}
use Rattle.reading.specs.declared.fault.OperandFault.TheVariants.{Undeclared}
use Rattle.reading.specs.declared.fault.CardFault.{CardFault}
use Rattle.reading.specs.declared.fault.CardFault.TheVariants.{LateInput, Limit, Operand, NamedTwice, Incomplete}
use Rattle.reading.specs.Commands.{incomplete, late, overfull, repeated, undeclared}
use Rattle.card.specs.Netlists.{Netlist}
use Rattle.reading.specs.Reading.{fault_of}
use Rattle.reading.specs.Refusals.{refusal_number, refusal_offset}
use Rattle.reading.specs.Rules.{BreaksFirst, KeepsRules, breaks}
use Rattle.reading.proofs.Steps.{Kept, kept, stopped}

module _ (d : Netlist) (c : Command) where
  -- a rule that none of the five is broken at
  unbroken : (q : ℕ) → (q ≡ 3 → late d c ≡ false) → (q ≡ 4 → overfull d c ≡ false) → (q ≡ 5 → undeclared d c ≡ false) → (q ≡ 6 → repeated d c ≡ false) → (q ≡ 7 → incomplete d c ≡ false) → breaks d c q ≡ false
  unbroken q h3 h4 h5 h6 h7 =
      cond_both (eqb q 3) _ _ (λ x. x ≡ false) (λ e. h3 (eqb-true q 3 e)) (λ _.
      cond_both (eqb q 4) _ _ (λ x. x ≡ false) (λ e. h4 (eqb-true q 4 e)) (λ _.
      cond_both (eqb q 5) _ _ (λ x. x ≡ false) (λ e. h5 (eqb-true q 5 e)) (λ _.
      cond_both (eqb q 6) _ _ (λ x. x ≡ false) (λ e. h6 (eqb-true q 6 e)) (λ _.
      cond_both (eqb q 7) _ _ (λ x. x ≡ false) (λ e. h7 (eqb-true q 7 e)) (λ _. refl)))))

  pub kept_rules : Kept d c → KeepsRules d c
  kept_rules k q = unbroken q (λ _. k.not_late) (λ _. k.not_overfull) (λ _. k.all_declared) (λ _. k.not_repeated) (λ _. k.not_incomplete)

module _ (d : Netlist) (c : Command) (at : ℕ) where
  pub keeps_rules : fault_of d c at ≡ None → KeepsRules d c
  keeps_rules e = kept_rules d c (kept d c at e)

  pub no_fault : KeepsRules d c → fault_of d c at ≡ None
  no_fault k = cond-false (late d c) _ _ (k 3) ∙ cond-false (overfull d c) _ _ (k 4) ∙ cond-false (undeclared d c) _ _ (k 5) ∙ cond-false (repeated d c) _ _ (k 6) ∙ cond-false (incomplete d c) _ _ (k 7)

  -- what a fault says
  pub record Says (e : CardFault) : Type 0 where
    pub first : BreaksFirst d c (refusal_number e)
    pub place : refusal_offset e ≡ at

  says_at : (f e : CardFault) → f ≡ e → Says f → Says e
  says_at f e p s = subst Says p s

  pub fault_says : (e : CardFault) → fault_of d c at ≡ Some e → Says e
  fault_says e p =
      ⊎_elim (λ s. says_at (LateInput at) e s.1 (record { first = record { broken = s.0; none_before = λ q l. unbroken d c q (λ z. absurd (omega (arith, z, l))) (λ z. absurd (omega (arith, z, l))) (λ z. absurd (omega (arith, z, l))) (λ z. absurd (omega (arith, z, l))) (λ z. absurd (omega (arith, z, l))) }; place = refl })) (λ a.
      ⊎_elim (λ s. says_at (Limit at) e s.1 (record { first = record { broken = s.0; none_before = λ q l. unbroken d c q (λ _. a.0) (λ z. absurd (omega (arith, z, l))) (λ z. absurd (omega (arith, z, l))) (λ z. absurd (omega (arith, z, l))) (λ z. absurd (omega (arith, z, l))) }; place = refl })) (λ b.
      ⊎_elim (λ s. says_at (Operand (Undeclared at)) e s.1 (record { first = record { broken = s.0; none_before = λ q l. unbroken d c q (λ _. a.0) (λ _. b.0) (λ z. absurd (omega (arith, z, l))) (λ z. absurd (omega (arith, z, l))) (λ z. absurd (omega (arith, z, l))) }; place = refl })) (λ f.
      ⊎_elim (λ s. says_at (NamedTwice at) e s.1 (record { first = record { broken = s.0; none_before = λ q l. unbroken d c q (λ _. a.0) (λ _. b.0) (λ _. f.0) (λ z. absurd (omega (arith, z, l))) (λ z. absurd (omega (arith, z, l))) }; place = refl })) (λ g.
      ⊎_elim (λ s. says_at (Incomplete at) e s.1 (record { first = record { broken = s.0; none_before = λ q l. unbroken d c q (λ _. a.0) (λ _. b.0) (λ _. f.0) (λ _. g.0) (λ z. absurd (omega (arith, z, l))) }; place = refl })) (λ h.
      let r = h.1 in absurd (cc))
      (stopped (incomplete d c) _ _ _ g.1))
      (stopped (repeated d c) _ _ _ f.1))
      (stopped (undeclared d c) _ _ _ b.1))
      (stopped (overfull d c) _ _ _ a.1))
      (stopped (late d c) _ _ _ p)

  -- the fault of the first broken rule
  pub record Faults (r : ℕ) : Type 0 where
    pub fault : CardFault
    pub is : fault_of d c at ≡ Some fault
    pub number : refusal_number fault ≡ r
    pub offset : refusal_offset fault ≡ at

  pub broken_faults : (r : ℕ) → BreaksFirst d c r → Faults r
  broken_faults r b =
      let n = b.none_before in
      cond_both (eqb r 3) _ _ (λ x. x ≡ true → Faults r)
      (λ e t. let z = eqb-true r 3 e in record { fault = LateInput at; is = cond-true (late d c) _ _ t; number = sym z; offset = refl }) (λ _.
      cond_both (eqb r 4) _ _ (λ x. x ≡ true → Faults r)
      (λ e t. let z = eqb-true r 4 e in record { fault = Limit at; is = cond-false (late d c) _ _ (n 3 (omega (arith, z))) ∙ cond-true (overfull d c) _ _ t; number = sym z; offset = refl }) (λ _.
      cond_both (eqb r 5) _ _ (λ x. x ≡ true → Faults r)
      (λ e t. let z = eqb-true r 5 e in record { fault = Operand (Undeclared at); is = cond-false (late d c) _ _ (n 3 (omega (arith, z))) ∙ cond-false (overfull d c) _ _ (n 4 (omega (arith, z))) ∙ cond-true (undeclared d c) _ _ t; number = sym z; offset = refl }) (λ _.
      cond_both (eqb r 6) _ _ (λ x. x ≡ true → Faults r)
      (λ e t. let z = eqb-true r 6 e in record { fault = NamedTwice at; is = cond-false (late d c) _ _ (n 3 (omega (arith, z))) ∙ cond-false (overfull d c) _ _ (n 4 (omega (arith, z))) ∙ cond-false (undeclared d c) _ _ (n 5 (omega (arith, z))) ∙ cond-true (repeated d c) _ _ t; number = sym z; offset = refl }) (λ _.
      cond_both (eqb r 7) _ _ (λ x. x ≡ true → Faults r)
      (λ e t. let z = eqb-true r 7 e in record { fault = Incomplete at; is = cond-false (late d c) _ _ (n 3 (omega (arith, z))) ∙ cond-false (overfull d c) _ _ (n 4 (omega (arith, z))) ∙ cond-false (undeclared d c) _ _ (n 5 (omega (arith, z))) ∙ cond-false (repeated d c) _ _ (n 6 (omega (arith, z))) ∙ cond-true (incomplete d c) _ _ t; number = sym z; offset = refl }) (λ _.
      λ t. absurd (true≢false (sym t))))))) b.broken

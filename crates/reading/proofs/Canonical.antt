-- Every lawful card's canonical writing spells it: the commands keep the rules, one after the other, and declare the card.
use Rattle.std.proofs.Common.{◌≡◌, ℕ, zero, suc, ◌+◌, ◌<◌, ◌≤◌, true, eqb, ltb, List, [], ◌∷◌, ◌++◌, map, length, get_or, replicate, Ok, sym, refl, ap, ◌∙◌, subst, append_assoc, append-nil, arith, length-append}
use Rattle.std.proofs.lemmas.List.{get_or_append_left, get_or_at}
use Rattle.std.proofs.lemmas.Bool.{and_from, and_parts, eq-eqb, lt-leb, ne_eqb, not_from_true, or_from}
use Rattle.card.specs.declared.gate.Gate.{Gate}
use Rattle.reading.specs.declared.command.Command.{Command}
use Rattle.reading.specs.declared.command.Command.TheVariants.{AddInput, AddGate, AddOutput, End}
use Rattle.reading.specs.Commands.{adds}
use Rattle.card.specs.Functions.{pin_count}
use Rattle.card.specs.Netlists.{Distinct, Lawful, Netlist, all_below, nets, pins_of}
use Rattle.reading.specs.Reading.{nothing, reading}
use Rattle.reading.specs.Rules.{Accepted, AllKeepRules, all_spelled, declared_by}
use Rattle.reading.specs.Writing.{commands_of, written}
use Rattle.reading.proofs.Pushes.{not_stands}
use Rattle.reading.proofs.Judged.{kept_rules}
use Rattle.reading.proofs.Ruled.{agree}

-- commands after commands
keep_append : (cs bs : List Command) (d : Netlist) → AllKeepRules d cs → AllKeepRules (declared_by d cs) bs → AllKeepRules d (cs ++ bs)
keep_append [] bs d k l = l
keep_append (c ∷ cs) bs d k l = (k.0, k.1, k.2, keep_append cs bs (adds d c) k.3 l)

declared_append : (cs bs : List Command) (d : Netlist) → declared_by d (cs ++ bs) ≡ declared_by (declared_by d cs) bs
declared_append [] bs d = refl
declared_append (c ∷ cs) bs d = declared_append cs bs (adds d c)

-- the inputs
keep_inputs : (j : ℕ) (d : Netlist) → length d.gates ≡ 0 → d.inputs + j ≤ 32 → AllKeepRules d (replicate j AddInput)
keep_inputs zero d g h = tt
keep_inputs (suc j) d g h = (
  (λ same. cc),
  tt,
  kept_rules d AddInput (record {
    not_late = not_from_true (eqb (length d.gates) 0) (eq-eqb (length d.gates) 0 g);
    not_overfull = lt-leb 32 d.inputs (omega arith);
    all_declared = refl;
    not_repeated = refl;
    not_incomplete = refl;
  }),
  keep_inputs j (adds d AddInput) g (omega arith),
)

declared_inputs : (j : ℕ) (d : Netlist) → declared_by d (replicate j AddInput) ≡ record { inputs = d.inputs + j; gates = d.gates; outputs = d.outputs }
declared_inputs zero d = let z : d.inputs ≡ d.inputs + 0 = omega arith in ap (λ i. record { inputs = i; gates = d.gates; outputs = d.outputs }) z
declared_inputs (suc j) d =
    let z : (d.inputs + 1) + j ≡ d.inputs + suc j = omega arith in
    declared_inputs j (adds d AddInput) ∙ ap (λ i. record { inputs = i; gates = d.gates; outputs = d.outputs }) z

-- the gates: each has its pins, and reads nets declared before it
pub record GatesFollow (n : ℕ) (gs : List Gate) : Type 0 where
  pub fits : n + length gs ≤ 256
  pub pins : (i : ℕ) (d : Gate) → i < length gs → length (pins_of (get_or gs i d)) ≡ pin_count (get_or gs i d).function
  pub reads : (i : ℕ) (d : Gate) → i < length gs → all_below (n + i) (pins_of (get_or gs i d)) ≡ true

keep_gates : (gs : List Gate) (d : Netlist) → GatesFollow (nets d) gs → AllKeepRules d (map AddGate gs)
keep_gates [] d f = tt
keep_gates (g ∷ gs) d f =
    let len = length-append d.gates (g ∷ []) in
    let fit = f.fits in
    let z : nets d + 0 ≡ nets d = omega arith in (
      (λ same. cc),
      f.pins 0 g (omega arith),
      kept_rules d (AddGate g) (record {
        not_late = refl;
        not_overfull = lt-leb 256 (nets d) (omega arith);
        all_declared = not_from_true (all_below (nets d) (pins_of g)) (ap (λ x. all_below x (pins_of g)) (sym z) ∙ f.reads 0 g (omega arith));
        not_repeated = refl;
        not_incomplete = refl;
      }),
      keep_gates gs (adds d (AddGate g)) (record {
        fits = omega arith;
        pins = λ i e h. f.pins (suc i) e (omega arith);
        reads = λ i e h.
            let y : nets (adds d (AddGate g)) + i ≡ nets d + suc i = omega arith in
            ap (λ x. all_below x (pins_of (get_or gs i e))) y ∙ f.reads (suc i) e (omega arith);
      }),
    )

declared_gates : (gs : List Gate) (d : Netlist) → declared_by d (map AddGate gs) ≡ record { inputs = d.inputs; gates = d.gates ++ gs; outputs = d.outputs }
declared_gates [] d = ap (λ x. record { inputs = d.inputs; gates = x; outputs = d.outputs }) (sym (append-nil d.gates))
declared_gates (g ∷ gs) d = declared_gates gs (adds d (AddGate g)) ∙ ap (λ x. record { inputs = d.inputs; gates = x; outputs = d.outputs }) (append_assoc d.gates (g ∷ []) gs)

-- the outputs: declared nets, none of them twice
pub record OutputsFollow (d : Netlist) (os : List ℕ) : Type 0 where
  pub fits : length d.outputs + length os ≤ 32
  pub declared : all_below (nets d) os ≡ true
  pub distinct : Distinct (d.outputs ++ os)

keep_outputs : (os : List ℕ) (d : Netlist) → OutputsFollow d os → AllKeepRules d (map AddOutput os)
keep_outputs [] d f = tt
keep_outputs (o ∷ os) d f =
    let len = length-append d.outputs (o ∷ []) in
    let all = length-append d.outputs (o ∷ os) in
    let fit = f.fits in
    let p = and_parts (ltb o (nets d)) (all_below (nets d) os) f.declared in (
      (λ same. cc),
      tt,
      kept_rules d (AddOutput o) (record {
        not_late = refl;
        not_overfull = lt-leb 32 (length d.outputs) (omega arith);
        all_declared = not_from_true (all_below (nets d) (o ∷ [])) (and_from (ltb o (nets d)) true p.0 refl);
        not_repeated = not_stands o d.outputs (λ i h e.
            f.distinct i (length d.outputs) h (omega arith)
            (get_or_append_left d.outputs (o ∷ os) 0 i h ∙ e ∙ sym (get_or_at d.outputs o os 0 (length d.outputs) refl)));
        not_incomplete = refl;
      }),
      keep_outputs os (adds d (AddOutput o)) (record {
        fits = omega arith;
        declared = p.1;
        distinct = subst Distinct (sym (append_assoc d.outputs (o ∷ []) os)) f.distinct;
      }),
    )

declared_outputs : (os : List ℕ) (d : Netlist) → declared_by d (map AddOutput os) ≡ record { inputs = d.inputs; gates = d.gates; outputs = d.outputs ++ os }
declared_outputs [] d = ap (λ x. record { inputs = d.inputs; gates = d.gates; outputs = x }) (sym (append-nil d.outputs))
declared_outputs (o ∷ os) d = declared_outputs os (adds d (AddOutput o)) ∙ ap (λ x. record { inputs = d.inputs; gates = d.gates; outputs = x }) (append_assoc d.outputs (o ∷ []) os)

module _ (c : Netlist) (law : Lawful c) where
  abbrev after_inputs : Netlist
  after_inputs = record { inputs = c.inputs; gates = []; outputs = [] }

  abbrev after_gates : Netlist
  after_gates = record { inputs = c.inputs; gates = c.gates; outputs = [] }

  inputs_declare : declared_by nothing (replicate c.inputs AddInput) ≡ after_inputs
  inputs_declare = let z : 0 + c.inputs ≡ c.inputs = omega arith in declared_inputs c.inputs nothing ∙ ap (λ i. record { inputs = i; gates = []; outputs = [] }) z

  keep_all : AllKeepRules nothing (commands_of c)
  keep_all =
      let few = law.inputs_fit in
      let fit = law.nets_fit in
      keep_append (replicate c.inputs AddInput) (map AddGate c.gates ++ map AddOutput c.outputs) nothing
      (keep_inputs c.inputs nothing refl (omega arith))
      (subst (λ d. AllKeepRules d (map AddGate c.gates ++ map AddOutput c.outputs)) (sym inputs_declare)
      (keep_append (map AddGate c.gates) (map AddOutput c.outputs) after_inputs
      (keep_gates c.gates after_inputs (record {
        fits = omega arith;
        pins = law.pins_match;
        reads = λ i e h. let z : (c.inputs + 0) + i ≡ c.inputs + i = omega arith in ap (λ x. all_below x (pins_of (get_or c.gates i e))) z ∙ law.ordered i e h;
      }))
      (subst (λ d. AllKeepRules d (map AddOutput c.outputs)) (sym (declared_gates c.gates after_inputs))
      (keep_outputs c.outputs after_gates (record { fits = let f = law.outputs_fit in omega arith; declared = law.outputs_declared; distinct = law.outputs_distinct })))))

  declare_all : declared_by nothing (commands_of c) ≡ c
  declare_all =
      declared_append (replicate c.inputs AddInput) (map AddGate c.gates ++ map AddOutput c.outputs) nothing
      ∙ ap (λ d. declared_by d (map AddGate c.gates ++ map AddOutput c.outputs)) inputs_declare
      ∙ declared_append (map AddGate c.gates) (map AddOutput c.outputs) after_inputs
      ∙ ap (λ d. declared_by d (map AddOutput c.outputs)) (declared_gates c.gates after_inputs)
      ∙ declared_outputs c.outputs after_gates

  pub written_accepted : Accepted (written c) c
  written_accepted =
      let some = law.some_input in
      let out = law.some_output in
      record {
        at = length (all_spelled (commands_of c));
        begins = record { commands = commands_of c; keep = keep_all; declare = sym declare_all; spell = refl; offset = refl };
        complete = kept_rules c End (record {
          not_late = refl;
          not_overfull = refl;
          all_declared = refl;
          not_repeated = refl;
          not_incomplete = or_from (eqb c.inputs 0) (eqb (length c.outputs) 0) (ne_eqb c.inputs 0 (λ e. omega arith)) (ne_eqb (length c.outputs) 0 (λ e. omega arith));
        });
      }

  pub written_reads : reading (written c) ≡ Ok c
  written_reads = agree.accepted (written c) c written_accepted

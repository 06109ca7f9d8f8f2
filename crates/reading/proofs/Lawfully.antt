-- Commands that keep the rules declare a lawful card, and every lawful card is declared by such commands.
use Rattle.std.proofs.Common.{◌≡◌, ℕ, ◌+◌, ◌≤◌, true, eqb, ltb, List, [], ◌∷◌, ◌++◌, length, Ok, sym, refl, ap, ◌∙◌, subst, not-suc-le-zero, arith, length-append}
use Rattle.std.proofs.lemmas.Bool.{and_parts, eqb-true, leb-false, ltb-true, not-false, or_parts, true≢false}
use Rattle.reading.specs.declared.command.Command.{Command}
use Rattle.reading.specs.declared.command.Command.TheVariants.{AddInput, AddGate, AddOutput, End}
use Rattle.reading.specs.Commands.{adds}
use Rattle.card.specs.Functions.{pin_count}
use Rattle.card.specs.Netlists.{Distinct, Lawful, Netlist, Ordered, PinsMatch, all_below, nets, pins_of}
use Rattle.reading.specs.Reading.{nothing, reading}
use Rattle.reading.specs.Rules.{Accepted, AllKeepRules, Bytes, KeepsRules, Refused, WellFormed, breaks, broken, cut, declared_by, ended, trailing, unknown}
use Rattle.card.proofs.Below.{below_push, below_weaken}
use Rattle.reading.proofs.Pushes.{distinct_push, each_push}
use Rattle.reading.proofs.Ruled.{agree}

-- the rules of a card that is not yet ended
pub record SoFar (d : Netlist) : Type 0 where
  pub inputs_fit : d.inputs ≤ 32
  pub nets_fit : nets d ≤ 256
  pub outputs_fit : length d.outputs ≤ 32
  pub pins_match : PinsMatch d.gates
  pub ordered : Ordered d.inputs d.gates
  pub outputs_declared : all_below (nets d) d.outputs ≡ true
  pub outputs_distinct : Distinct d.outputs

-- rules 3 to 6 one by one, by their numbers
one_more : (d : Netlist) (c : Command) → SoFar d → WellFormed c → KeepsRules d c → SoFar (adds d c)
one_more d AddInput s w k =
    let none : length d.gates ≡ 0 = eqb-true (length d.gates) 0 (not-false _ (k 3)) in
    let few = leb-false 32 d.inputs (k 4) in
    record {
      inputs_fit = omega arith;
      nets_fit = omega arith;
      outputs_fit = s.outputs_fit;
      pins_match = s.pins_match;
      ordered = λ i g h. absurd (omega arith);
      outputs_declared = below_weaken (nets d) (d.inputs + 1 + length d.gates) d.outputs (omega arith) s.outputs_declared;
      outputs_distinct = s.outputs_distinct;
    }
one_more d (AddGate g) s w k =
    let few = leb-false 256 (nets d) (k 4) in
    let len = length-append d.gates (g ∷ []) in
    record {
      inputs_fit = s.inputs_fit;
      nets_fit = omega arith;
      outputs_fit = s.outputs_fit;
      pins_match = each_push (λ i x. length (pins_of x) ≡ pin_count x.function) d.gates g s.pins_match w;
      ordered = each_push (λ i x. all_below (d.inputs + i) (pins_of x) ≡ true) d.gates g s.ordered (not-false _ (k 5));
      outputs_declared = below_weaken (nets d) (d.inputs + length (d.gates ++ (g ∷ []))) d.outputs (omega arith) s.outputs_declared;
      outputs_distinct = s.outputs_distinct;
    }
one_more d (AddOutput n) s w k =
    let few = leb-false 32 (length d.outputs) (k 4) in
    let len = length-append d.outputs (n ∷ []) in
    let low = ltb-true n (nets d) (and_parts (ltb n (nets d)) true (not-false _ (k 5))).0 in
    record {
      inputs_fit = s.inputs_fit;
      nets_fit = s.nets_fit;
      outputs_fit = omega arith;
      pins_match = s.pins_match;
      ordered = s.ordered;
      outputs_declared = below_push (nets d) d.outputs n s.outputs_declared low;
      outputs_distinct = distinct_push d.outputs n s.outputs_distinct (k 6);
    }
one_more d End s w k = s

all_more : (cs : List Command) (d : Netlist) → SoFar d → AllKeepRules d cs → SoFar (declared_by d cs)
all_more [] d s k = s
all_more (c ∷ cs) d s k = all_more cs (adds d c) (one_more d c s k.1 k.2) k.3

start : SoFar nothing
start = record {
  inputs_fit = omega arith;
  nets_fit = omega arith;
  outputs_fit = omega arith;
  pins_match = λ i g h. absurd (not-suc-le-zero h);
  ordered = λ i g h. absurd (not-suc-le-zero h);
  outputs_declared = refl;
  outputs_distinct = λ i j h l. absurd (not-suc-le-zero l);
}

pub accepted_lawful : (bs : List ℕ) (d : Netlist) → Accepted bs d → Lawful d
accepted_lawful bs d a =
    let b = a.begins in
    let s = subst SoFar (sym b.declare) (all_more b.commands nothing start b.keep) in
    let c = or_parts (eqb d.inputs 0) (eqb (length d.outputs) 0) (a.complete 7) in
    let i : 1 ≤ d.inputs = grind (arith, c.0) in
    let o : 1 ≤ length d.outputs = grind (arith, c.1) in
    record {
      some_input = i;
      inputs_fit = s.inputs_fit;
      nets_fit = s.nets_fit;
      some_output = o;
      outputs_fit = s.outputs_fit;
      pins_match = s.pins_match;
      ordered = s.ordered;
      outputs_declared = s.outputs_declared;
      outputs_distinct = s.outputs_distinct;
    }

pub reading_lawful : (bs : List ℕ) (d : Netlist) → Bytes bs → reading bs ≡ Ok d → Lawful d
reading_lawful bs d y e = accepted_lawful bs d (agree.accepts bs y d e)

-- reading never answers want of memory
pub no_rule_zero : (bs : List ℕ) (r o : ℕ) → Refused bs r o → r ≡ 0 → ⊥
no_rule_zero bs r o (unknown s h) z = omega (arith, z)
no_rule_zero bs r o (ended s) z = omega (arith, z)
no_rule_zero bs r o (cut s h l) z = omega (arith, z)
no_rule_zero bs r o (broken c {d} rest w s f) z = true≢false (sym f.broken ∙ ap (breaks d c) z)
no_rule_zero bs r o (trailing s k) z = omega (arith, z)

-- One question to a solver, from what its parts promise.
use Rattle.std.proofs.Common.{◌≡◌, ℕ, ◌≤◌, Bool, List, length, take, Some, None, Option, sym, refl, ap, ◌∙◌, subst, arith}
use Rattle.card.specs.Netlists.{Netlist, Lawful}
use Rattle.signal.specs.declared.line.Stuck.{Stuck}
use Rattle.vectors.specs.Vectors.{Cells}
use Rattle.faults.specs.Thinning.{thinned}
use Rattle.solving.specs.Answers.{Answers, Says}
use Rattle.solving.specs.Models.{Model}
use Rattle.solving.specs.declared.verdict.Solved.{Solved}
use Rattle.solving.specs.declared.verdict.Verdict.{Verdict}
use Rattle.solving.specs.declared.verdict.Verdict.TheVariants.{Found}
use Rattle.formula.specs.Meanings.{Fits}
use Rattle.formula.specs.Posing.{holds_formula}
use Rattle.asking.specs.Findings.{Asks, Finding, Tells, finding, fixing, shown}
use Rattle.asking.proofs.Told.{asks_tells}

-- what `ask` promises
pub record Both (c : Netlist) (s : Stuck) (budget : ℕ) (solved : Solved) (found : Finding) (n : Model) : Type 0 where
  pub asked : Asks c s budget solved found n
  pub tells : Tells c s budget found

pub both : (c : Netlist) (s : Stuck) (budget : ℕ) (solved : Solved) (found : Finding) (n : Model) → Lawful c → Asks c s budget solved found n → Both c s budget solved found n
both c s budget solved found n lawful asks = record { asked = asks; tells = asks_tells c s lawful budget solved found n asks }

-- the model that was solved is the formula's
pub answered : (c : Netlist) (s : Stuck) (budget : ℕ) (solved : Solved) (m n : Model) → m ≡ holds_formula c s → Answers m budget solved n → Answers (holds_formula c s) budget solved n
answered c s budget solved m n e a = subst (λ (k : Model). Answers k budget solved n) e a

thinned_from : (c : Netlist) (s : Stuck) (budget : ℕ) (n : Model) (setting vector : Cells) (r : Option (List Bool)) → n.reading ≡ r → Says (holds_formula c s) budget Found r → Fits c s
    → ((reading : List Bool) → n.reading ≡ Some reading → length reading ≡ n.variables → c.inputs ≤ length reading → setting ≡ fixing (take c.inputs reading))
    → n.variables ≡ (holds_formula c s).variables
    → vector ≡ thinned c s setting c.inputs
    → shown vector ≡ finding c s Found r
thinned_from c s budget n setting vector None e says fits told same thin = absurd says
thinned_from c s budget n setting vector (Some r) e (long, sat) fits told same thin =
    let is : setting ≡ fixing (take c.inputs r) = told r e (long ∙ sym same) (omega (arith, long, fits.inputs_are_variables)) in
    ap shown (thin ∙ ap (λ (v : Cells). thinned c s v c.inputs) is)

pub found_asked : (c : Netlist) (s : Stuck) (budget : ℕ) (solved : Solved) (m n : Model) (setting vector : Cells) → Lawful c → Fits c s → solved.verdict ≡ Found
    → m ≡ holds_formula c s → Answers m budget solved n
    → ((reading : List Bool) → n.reading ≡ Some reading → length reading ≡ n.variables → c.inputs ≤ length reading → setting ≡ fixing (take c.inputs reading))
    → vector ≡ thinned c s setting c.inputs
    → Both c s budget solved (shown vector) n
found_asked c s budget solved m n setting vector lawful fits is e a told thin =
    let b : Answers (holds_formula c s) budget solved n = answered c s budget solved m n e a in
    let says : Says (holds_formula c s) budget Found n.reading = subst (λ (v : Verdict). Says (holds_formula c s) budget v n.reading) is b.says in
    both c s budget solved (shown vector) n lawful (record {
      answers = b;
      says = thinned_from c s budget n setting vector n.reading refl says fits told b.variables thin ∙ ap (λ (v : Verdict). finding c s v n.reading) (sym is);
    })

pub other_asked : (c : Netlist) (s : Stuck) (budget : ℕ) (solved : Solved) (m n : Model) (v : Verdict) → Lawful c → solved.verdict ≡ v
    → m ≡ holds_formula c s → Answers m budget solved n → Both c s budget solved (finding c s v n.reading) n
other_asked c s budget solved m n v lawful is e a =
    both c s budget solved (finding c s v n.reading) n lawful (record {
      answers = answered c s budget solved m n e a;
      says = ap (λ (w : Verdict). finding c s w n.reading) (sym is);
    })

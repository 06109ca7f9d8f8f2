use Rattle.std.proofs.Common.{◌≡◌, ℕ, ◌≤◌, Bool, List, length, take, Some, subst}
use Rattle.card.specs.Views.{netlist_of}
use Rattle.vectors.specs.Views.{cells_of}
use Rattle.card.specs.Netlists.{Netlist}
use Rattle.signal.specs.declared.line.Stuck.{Stuck}
use Rattle.formula.specs.Posing.{holds_formula}
use Rattle.solving.specs.Models.{Model}
use Rattle.solving.specs.declared.verdict.Solved.{Solved}
use Rattle.asking.proofs.ask.ask.Given.{Over}
use Rattle.solving.specs.declared.verdict.Verdict.TheVariants.{None as Unsatisfiable, Undecided}
use Rattle.asking.specs.Findings.{fixing}
use Rattle.asking.proofs.Asked.{found_asked, other_asked}
use Rattle.asking.proofs.ask.ask.Goals as goal

-- the formula was what it held
own : (g : Over) (k : Netlist) (s : Stuck) (budget : ℕ) (m n : Model) (r : Solved) → m ≡ holds_formula k s → g.S.Answering.answering m budget r n → g.S.Answering.answering (holds_formula k s) budget r n
own g k s budget m n r e way = subst (λ (x : Model). g.S.Answering.answering x budget r n) e way

pub returns-in-Found : goal.returns-in-Found
returns-in-Found g c =
    let k : ℕ = (netlist_of c.args.card.now).inputs in
    let n : Model = g.S.Solver.model c.answer-solved.new.self in
    let told : (reading : List Bool) → n.reading ≡ Some reading → length reading ≡ n.variables → k ≤ length reading → cells_of c.setting.result ≡ fixing (take k reading) =
    subst (λ (i : ℕ). (reading : List Bool) → n.reading ≡ Some reading → length reading ≡ n.variables → i ≤ length reading → cells_of c.setting.result ≡ fixing (take i reading)) c.inputs-inputs.ensures.counts_the_inputs c.setting.ensures.fixes_each_input_to_its_bit in
    let b = found_asked _ c.args.stuck c.args.budget c.answer-solved.result _ n (cells_of c.setting.result) (cells_of c.thin.result)
    c.args.card.now.lawful c.encode.ensures.formula_is_within_the_solvers_limits c.in-Found.is
    c.encode.ensures.solver_holds_exactly_the_formula c.answer-solved.ensures.answers told c.thin.ensures.tries_each_cell_in_rising_order in
    record { the_solver_was_asked_the_formula_and_answered_this = b.asked; the_solver_answered_in_its_own_way = own g (netlist_of c.args.card.now) c.args.stuck c.args.budget _ _ _ c.encode.ensures.solver_holds_exactly_the_formula c.answer-solved.ensures.in_its_own_way; the_outcome_is_true_of_the_fault = b.tells }

pub returns-in-None : goal.returns-in-None
returns-in-None g c =
    let b = other_asked _ c.args.stuck c.args.budget c.answer-solved.result _ _ Unsatisfiable
    c.args.card.now.lawful c.in-None.is c.encode.ensures.solver_holds_exactly_the_formula c.answer-solved.ensures.answers in
    record { the_solver_was_asked_the_formula_and_answered_this = b.asked; the_solver_answered_in_its_own_way = own g (netlist_of c.args.card.now) c.args.stuck c.args.budget _ _ _ c.encode.ensures.solver_holds_exactly_the_formula c.answer-solved.ensures.in_its_own_way; the_outcome_is_true_of_the_fault = b.tells }

pub returns-in-Undecided : goal.returns-in-Undecided
returns-in-Undecided g c =
    let b = other_asked _ c.args.stuck c.args.budget c.answer-solved.result _ _ Undecided
    c.args.card.now.lawful c.in-Undecided.is c.encode.ensures.solver_holds_exactly_the_formula c.answer-solved.ensures.answers in
    record { the_solver_was_asked_the_formula_and_answered_this = b.asked; the_solver_answered_in_its_own_way = own g (netlist_of c.args.card.now) c.args.stuck c.args.budget _ _ _ c.encode.ensures.solver_holds_exactly_the_formula c.answer-solved.ensures.in_its_own_way; the_outcome_is_true_of_the_fault = b.tells }

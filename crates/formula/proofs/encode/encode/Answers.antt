-- The calls give one part of the formula each; the solver takes it all.
use Rattle.std.proofs.Common.{◌≡◌, cond, [], ◌∷◌, ap, ◌∙◌, arith}
use Rattle.card.specs.Netlists.{nets}
use Rattle.card.specs.Views.{netlist_of}
use Rattle.solving.specs.Models.{begun, startable}
use Rattle.formula.specs.Formulas.{formula_of}
use Rattle.formula.specs.Posing.{given}
use Rattle.formula.specs.Rows.{over, rows}
use Rattle.formula.specs.Variables.{stuck_line, variables}
use Rattle.formula.proofs.Loops.{encoded, was_started}
use Rattle.formula.proofs.Ranged.{formula_taken}
use Rattle.formula.proofs.Standing.{formula_stands}
use Rattle.formula.proofs.encode.encode.Goals as goal

pub returns : goal.returns
returns g c =
    let w = netlist_of c.args.card.now in
    let s = c.args.stuck in
    let lawful = c.args.card.now.lawful in
    let laws = formula_stands w s lawful in
    let model = g.S.Solver.model in
    let ek : c.inputs.result ≡ w.inputs = c.inputs.ensures.counts_the_inputs in
    let ev = c.variable_count.ensures.counts_the_variables in
    let el : c.stuck_line.result.number ≡ stuck_line (nets w) = c.stuck_line.ensures.is_the_stuck_lines_variable in
    let ef = c.tied.ensures.is_the_constant_function in
    let m0 = model c.args.solver.now in
    let m1 = model c.start.new.self in
    let m2 = model c.put_gates.new.solver in
    let m3 = model c.put.new.solver in
    let m4 = model c.put_inputs.new.solver in
    let m5 = model c.put_gates-2.new.solver in
    let m6 = model c.put_outputs.new.solver in
    let h1 : m1 ≡ begun (variables w) w.inputs = was_started m0 m1 (variables w) w.inputs (omega (arith, lawful.some_input)) (omega (arith, lawful.inputs_fit)) laws.fits.inputs_are_variables (omega (arith, laws.fits.at_most_545_variables))
    (c.start.ensures.state ∙ (λ i. cond (startable (ev i) (ek i)) (begun (ev i) (ek i)) m0)) in
    record {
      solver_holds_exactly_the_formula = encoded w s m1 m2 m3 m4 m5 m6 _
          c.put_gates.ensures.gives_the_gates_clauses_in_order
          (c.put.ensures.gives_the_functions_clauses ∙ (λ i. given m2 (over (el i ∷ []) (rows (ef i)))))
          c.put_inputs.ensures.gives_the_inputs_clauses_in_order
          c.put_gates-2.ensures.gives_the_gates_clauses_in_order
          c.put_outputs.ensures.gives_the_outputs_clauses_in_order
          c.put_differences.ensures.gives_the_clause
          ∙ ap (λ m. given m (formula_of w s)) h1 ∙ formula_taken w s lawful laws.fits;
      satisfying_readings_are_those_of_showing_settings = laws.means;
      formula_is_led = laws.led;
      formula_is_within_the_solvers_limits = laws.fits;
    }

use Rattle.posing.proofs.Differs.{posed, differ_found, found_read, differ_none, none_unread, differ_undecided, undecided_unread}
use Rattle.posing.proofs.differ.Goals as goal

pub returns-in-Found : goal.returns-in-Found
returns-in-Found g c = record {
  differ_or_the_budget_is_small = differ_found (g.S.Solver.model c.pose.new.solver) (g.S.Solver.model c.solve.new.self) c.args.budget c.solve.result c.pose.ensures.holds_the_formula c.solve.ensures.answers c.read.result c.in-Found.is c.read.ensures.are_the_readings_bits;
  the_solver_was_asked_the_formula = (c.solve.result, posed (g.S.Solver.model c.pose.new.solver) (g.S.Solver.model c.solve.new.self) c.args.budget c.solve.result c.pose.ensures.holds_the_formula c.solve.ensures.answers);
  are_the_bits_that_the_solver_found = found_read (g.S.Solver.model c.pose.new.solver) (g.S.Solver.model c.solve.new.self) c.args.budget c.solve.result c.pose.ensures.holds_the_formula c.solve.ensures.answers c.read.result c.in-Found.is c.read.ensures.are_the_readings_bits;
}

pub returns-in-None : goal.returns-in-None
returns-in-None g c = record {
  differ_or_the_budget_is_small = differ_none (g.S.Solver.model c.pose.new.solver) (g.S.Solver.model c.solve.new.self) c.args.budget c.solve.result c.pose.ensures.holds_the_formula c.solve.ensures.answers c.in-None.is;
  the_solver_was_asked_the_formula = (c.solve.result, posed (g.S.Solver.model c.pose.new.solver) (g.S.Solver.model c.solve.new.self) c.args.budget c.solve.result c.pose.ensures.holds_the_formula c.solve.ensures.answers);
  are_the_bits_that_the_solver_found = none_unread (g.S.Solver.model c.pose.new.solver) (g.S.Solver.model c.solve.new.self) c.args.budget c.solve.result c.pose.ensures.holds_the_formula c.solve.ensures.answers c.in-None.is;
}

pub returns-in-Undecided : goal.returns-in-Undecided
returns-in-Undecided g c = record {
  differ_or_the_budget_is_small = differ_undecided (g.S.Solver.model c.pose.new.solver) (g.S.Solver.model c.solve.new.self) c.args.budget c.solve.result c.pose.ensures.holds_the_formula c.solve.ensures.answers c.in-Undecided.is;
  the_solver_was_asked_the_formula = (c.solve.result, posed (g.S.Solver.model c.pose.new.solver) (g.S.Solver.model c.solve.new.self) c.args.budget c.solve.result c.pose.ensures.holds_the_formula c.solve.ensures.answers);
  are_the_bits_that_the_solver_found = undecided_unread (g.S.Solver.model c.pose.new.solver) (g.S.Solver.model c.solve.new.self) c.args.budget c.solve.result c.pose.ensures.holds_the_formula c.solve.ensures.answers c.in-Undecided.is;
}

use Rattle.solving.specs.Backtracking.{backtracked}
use Rattle.solving.proofs.Kept.{backtracking_answers}
use Rattle.solvers.specs.Stores.{model_of}
use Rattle.solvers.proofs.Stored.{start_leads}
use Rattle.solvers.proofs.Verdicts.{answers_as}
use Rattle.solvers.proofs.backtracking.BacktrackingSolver.solve.Goals as goal

pub returns-clause-answers : goal.returns-clause-answers
returns-clause-answers c =
    let s = c.args.self.now.store in
    let m = model_of s in
    let e = c.run.ensures in
    answers_as m (model_of c.run.new.store) c.args.budget c.run.result (backtracked m c.args.budget) e.answers_as_defined e.leaves_as_defined (backtracking_answers m c.args.budget (start_leads s.variables s.leading s.sized))

use Rattle.std.proofs.Common.{length, sym, refl, ◌∙◌}
use Rattle.solvers.specs.Numbering.{bits_of}
use Rattle.propagation.specs.Clauses.{clauses_of}
use Rattle.solvers.proofs.Counted.{tried_found, tried_open}
use Rattle.solvers.proofs.count.try_setting.Goals as goal

pub returns-in-None : goal.returns-in-None
returns-in-None c =
    let cs = clauses_of c.args.clauses in
    let e = c.in-Ok.ensures in
    let l = e.grown.long ∙ c.enter.ensures.keeps_the_variables in
    record {
      is_what_it_comes_to = λ s. tried_found cs (length c.args.assignment.now.values.now) (bits_of c.args.leading.count c.args.number) c.enter.new.assignment.values.now c.close.new.self.values.now c.enter.ensures.is_entered s e.closes.whole (e.closes.closed refl) l (sym (rw c.values.ensures.is_the_setting at c.in-None.ensures.is_the_lowest));
      keeps_the_variables = l;
    }

pub returns-in-Some : goal.returns-in-Some
returns-in-Some c =
    let cs = clauses_of c.args.clauses in
    let e = c.in-Ok.ensures in
    let l = e.grown.long ∙ c.enter.ensures.keeps_the_variables in
    record {
      is_what_it_comes_to = λ s. tried_open cs (length c.args.assignment.now.values.now) (bits_of c.args.leading.count c.args.number) c.enter.new.assignment.values.now c.close.new.self.values.now c.enter.ensures.is_entered s _ e.closes.whole (e.closes.closed refl) l (sym (rw c.values.ensures.is_the_setting at c.in-Some.ensures.is_the_lowest));
      keeps_the_variables = l;
    }

use Rattle.std.proofs.Common.{◌+◌, ◌^◌, ◌<◌, ◌≡◌, ◌≤◌, length, sym, ap, ◌∙◌, arith}
use Rattle.solving.specs.Trials.{none}
use Rattle.solving.specs.declared.verdict.Verdict.TheVariants.{None}
use Rattle.propagation.specs.Clauses.{clauses_of}
use Rattle.solvers.specs.Numbering.{bits_of}
use Rattle.solvers.proofs.Counted.{each_none, each_tired, each_next, tried_as, settled}
use Rattle.solvers.proofs.count.count.Goals as goal

pub returns-then-number-budget : goal.returns-then-number-budget
returns-then-number-budget c =
    let h : c.loop-number.number < 2 ^ c.args.leading.count = omega (arith, c.settings-all.ensures.is_the_number_of_settings, c.loop-number-test.true) in
    record { keeps_the_variables = c.loop-number.invariant.1; answers_as_defined = sym c.loop-number.invariant.0 ∙ each_tired (clauses_of c.args.clauses) (length c.args.assignment.now.values.now) c.args.leading.count c.args.budget c.loop-number.number h c.if-number-budget.true }

pub returns-in_default : goal.returns-in_default
returns-in_default c =
    let cs = clauses_of c.args.clauses in
    let s = c.loop-number.number in
    let h : s < 2 ^ c.args.leading.count = omega (arith, c.settings-all.ensures.is_the_number_of_settings, c.loop-number-test.true) in
    let e = tried_as cs (length c.loop-number.assignment.values.now) (length c.args.assignment.now.values.now) (bits_of c.args.leading.count s) (s + 1) _ c.loop-number.invariant.1 (c.try_setting.ensures.is_what_it_comes_to (s + 1)) in
    record {
      answers_as_defined = sym c.loop-number.invariant.0
          ∙ each_next cs (length c.args.assignment.now.values.now) c.args.leading.count c.args.budget s c.try_setting.result c.try_setting.new.assignment.values.now h c.if-number-budget.false e
          ∙ settled c.try_setting.result (s + 1) c.try_setting.new.assignment.values.now _ c.in_default.not-None;
      keeps_the_variables = c.try_setting.ensures.keeps_the_variables ∙ c.loop-number.invariant.1;
    }

pub loop-number-preserved : goal.loop-number-preserved
loop-number-preserved c =
    let cs = clauses_of c.args.clauses in
    let s = c.loop-number.number in
    let h : s < 2 ^ c.args.leading.count = omega (arith, c.settings-all.ensures.is_the_number_of_settings, c.loop-number-test.true) in
    let e = tried_as cs (length c.loop-number.assignment.values.now) (length c.args.assignment.now.values.now) (bits_of c.args.leading.count s) (s + 1) _ c.loop-number.invariant.1 (c.in-None.ensures.is_what_it_comes_to (s + 1)) in
    (sym (each_next cs (length c.args.assignment.now.values.now) c.args.leading.count c.args.budget s None c.try_setting.new.assignment.values.now h c.if-number-budget.false e) ∙ c.loop-number.invariant.0, c.in-None.ensures.keeps_the_variables ∙ c.loop-number.invariant.1)

pub returns : goal.returns
returns c =
    let h : 2 ^ c.args.leading.count ≤ c.loop-number.number = omega (arith, c.settings-all.ensures.is_the_number_of_settings, c.loop-number-test.false) in
    let e : c.loop-number.number ≡ c.settings-all.result = omega (arith, c.loop-number-test.false, c.loop-number.auto.number-end) in
    record { keeps_the_variables = c.loop-number.invariant.1; answers_as_defined = sym c.loop-number.invariant.0 ∙ each_none (clauses_of c.args.clauses) (length c.args.assignment.now.values.now) c.args.leading.count c.args.budget c.loop-number.number h ∙ ap none e }

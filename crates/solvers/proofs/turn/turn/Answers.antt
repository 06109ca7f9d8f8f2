use Rattle.std.proofs.Common.{◌+◌, ◌≡◌, ◌<◌, take, drop, pos, None, ap, ◌∙◌, arith, rules}
use Rattle.solving.specs.Settings.{Setting, at}
use Rattle.solving.proofs.Places.{open_inside}
use Rattle.propagation.specs.Trails.{unmade_all}
use Rattle.propagation.specs.Assignments.{Assigned, assigned, making}
use Rattle.propagation.proofs.Trailing.{unmade_length}
use Rattle.solvers.proofs.turn.turn.Goals as goal

pub overflow_cast-d : goal.overflow_cast-d
overflow_cast-d c =
    let a = c.args.assignment.now in
    let t = drop c.args.d.at (take a.trail.len a.trail.entries.now) in
    let h : c.args.d.var < 560 = omega (arith, open_inside (unmade_all a.values.now t) c.args.d.var c.requires.is_open, unmade_length a.values.now t, c.args.assignment.now.few) in
    search rules

pub overflow_add-d : goal.overflow_add-d
overflow_add-d c =
    let a = c.args.assignment.now in
    let t = drop c.args.d.at (take a.trail.len a.trail.entries.now) in
    let h : c.args.d.var < 560 = omega (arith, open_inside (unmade_all a.values.now t) c.args.d.var c.requires.is_open, unmade_length a.values.now t, c.args.assignment.now.few) in
    search rules

pub make-requires : goal.make-requires
make-requires c =
    let a = c.args.assignment.now in
    let t = drop c.args.d.at (take a.trail.len a.trail.entries.now) in
    let h : c.args.d.var < 560 = omega (arith, open_inside (unmade_all a.values.now t) c.args.d.var c.requires.is_open, unmade_length a.values.now t, c.args.assignment.now.few) in
    let e = ap (λ x. x.setting) c.unwind.ensures.opens_what_came_later in
    let o : at c.unwind.new.self.values.now c.args.d.var ≡ None = ap (λ (s : Setting). at s c.args.d.var) e ∙ c.requires.is_open in
    search rules

pub returns : goal.returns
returns c =
    let a = c.args.assignment.now in
    let t = drop c.args.d.at (take a.trail.len a.trail.entries.now) in
    let h : c.args.d.var < 560 = omega (arith, open_inside (unmade_all a.values.now t) c.args.d.var c.requires.is_open, unmade_length a.values.now t, c.args.assignment.now.few) in
    let l = pos (c.args.d.var + 1) in
    let m : assigned c.make.new.self ≡ making (assigned c.unwind.new.self) l = search rules in
    record { makes_it_true = m ∙ ap (λ (x : Assigned). making x l) c.unwind.ensures.opens_what_came_later }

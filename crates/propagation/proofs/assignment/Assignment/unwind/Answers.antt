use Rattle.std.proofs.Common.{[], ◌∷◌, length, take, ap, ◌∙◌, arith, length-append, length-take}
use Rattle.propagation.specs.Assignments.{assigned}
use Rattle.propagation.proofs.Trailing.{undone_unwound}
use Rattle.propagation.proofs.assignment.Assignment.unwind.Goals as goal

pub loop-self-preserved : goal.loop-self-preserved
loop-self-preserved c =
    let u = c.undo.ensures.opens_the_latest in
    let s = c.loop-self.self.trail in
    let t = c.undo.new.self.trail in
    let n = length-take s.len s.entries.now in
    (undone_unwound (assigned c.loop-self.self) (assigned c.undo.new.self) c.args.to u (omega (arith, n, s.fits, length-append (take t.len t.entries.now) (u.latest ∷ []), ap length u.trail, c.loop-self-test.true, c.len.ensures.counts_the_entries)) ∙ c.loop-self.invariant.0, c.undo.ensures.keeps_its_room ∙ c.loop-self.invariant.1)

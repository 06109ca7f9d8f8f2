use Rattle.std.proofs.Common.{◌≡◌, length, take, drop, refl, ◌∙◌, arith, length-drop, length-take}
use Rattle.std.proofs.lemmas.Result.{err_from_is_err_and}
use Rattle.solving.specs.Orders.{stop}
use Rattle.propagation.specs.Clauses.{clauses_listed}
use Rattle.propagation.proofs.Trailing.{grown_none, grown_on, grown_longer}
use Rattle.propagation.proofs.Reached.{reach_on, closes_broken, closes_whole}
use Rattle.propagation.proofs.Followed.{pending_end, rest_whole, rest_still}
use Rattle.propagation.proofs.follow.follow_by_lists.Goals as goal

pub loop-front-init : goal.loop-front-init
loop-front-init c = (c.requires.pending, stop, grown_none c.args.values.now _, refl, c.requires.space, c.requires.inside)

pub returns-in_err-visit : goal.returns-in_err-visit
returns-in_err-visit c =
    let cs = clauses_listed c.args.clauses in
    let e = c.in_err-visit.ensures in
    let r = reach_on cs c.args.values.now c.loop-front.values c.visit.new.values c.loop-front.invariant.1 e.reached in
    let p = err_from_is_err_and c.from_residual.result c.from_residual.ensures.1 in
    rw p.1 (record {
      closes = closes_broken cs c.args.values.now c.visit.new.values _ refl r e.broken;
      reached = r;
      broken = e.broken;
      grown = grown_on c.args.values.now c.loop-front.values c.visit.new.values _ _ _ c.loop-front.invariant.2 e.grown;
      space = e.space ∙ c.loop-front.invariant.3;
    })

pub loop-front-preserved : goal.loop-front-preserved
loop-front-preserved c =
    let cs = clauses_listed c.args.clauses in
    let e = c.in_ok-visit.ensures in
    let g = grown_on c.args.values.now c.loop-front.values c.visit.new.values _ _ _ c.loop-front.invariant.2 e.grown in
    let h = grown_longer c.loop-front.values c.visit.new.values _ _ e.grown in
    let k = length-take c.args.trail.now.len c.args.trail.now.entries.now in
    let l = length-take c.loop-front.trail.len c.loop-front.trail.entries.now in
    let m = length-take c.visit.new.trail.len c.visit.new.trail.entries.now in
    let r = e.space ∙ c.loop-front.invariant.3 in (
      e.pending,
      reach_on cs c.args.values.now c.loop-front.values c.visit.new.values c.loop-front.invariant.1 e.reached,
      g,
      r,
      omega (arith, g.room, k, m, c.visit.new.trail.fits, c.args.trail.now.fits, r, c.requires.space),
      omega (arith, h, l, m, c.loop-front.trail.fits, c.visit.new.trail.fits, c.loop-front-test.true, c.len.ensures.counts_the_entries),
    )

pub returns : goal.returns
returns c =
    let cs = clauses_listed c.args.clauses in
    let v = c.loop-front.values in
    let t = take c.loop-front.trail.len c.loop-front.trail.entries.now in
    let l : length (drop c.loop-front.front t) ≡ 0 = simp (length-drop, length-take) (omega (arith, c.loop-front-test.false, c.len.ensures.counts_the_entries)) in
    let q = pending_end cs v _ c.loop-front.invariant.0 l in
    record {
      closes = closes_whole cs c.args.values.now v _ refl c.loop-front.invariant.1 (rest_whole v cs q) (rest_still v cs q);
      reached = c.loop-front.invariant.1;
      broken = tt;
      grown = c.loop-front.invariant.2;
      space = c.loop-front.invariant.3;
    }

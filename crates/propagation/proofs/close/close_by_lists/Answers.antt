use Rattle.std.proofs.Common.{take, drop, is_ok, sym, refl, ap, ◌∙◌, arith, length-take}
use Rattle.std.proofs.lemmas.Result.{err_from_is_err_and}
use Rattle.propagation.specs.Clauses.{clauses_listed}
use Rattle.propagation.proofs.Trailing.{grown_on, grown_longer}
use Rattle.propagation.proofs.Reached.{on_err, closes_broken, closes_on}
use Rattle.propagation.proofs.Followed.{pending_as}
use Rattle.propagation.proofs.close.close_by_lists.Goals as goal

pub returns-in_err-begin_by_lists : goal.returns-in_err-begin_by_lists
returns-in_err-begin_by_lists c =
    let e = c.in_err-begin_by_lists.ensures in
    let p = err_from_is_err_and c.from_residual.result c.from_residual.ensures.1 in
    rw p.1 (record { closes = closes_broken (clauses_listed c.args.clauses) c.args.values.now c.begin_by_lists.new.values _ refl e.reached e.broken; grown = e.grown; space = e.space })

pub follow_by_lists-requires : goal.follow_by_lists-requires
follow_by_lists-requires c =
    let e = c.in_ok-begin_by_lists.ensures in
    let n = c.len-front.ensures.counts_the_entries in
    let t = take c.begin_by_lists.new.trail.len c.begin_by_lists.new.trail.entries.now in
    let h = grown_longer c.args.values.now c.begin_by_lists.new.values _ _ e.grown in
    let k = length-take c.args.trail.now.len c.args.trail.now.entries.now in
    let m = length-take c.begin_by_lists.new.trail.len c.begin_by_lists.new.trail.entries.now in
    record {
      listed = c.requires.listed;
      few = omega (arith, c.begin_by_lists.auto.values, c.requires.few);
      wide = omega (arith, c.begin_by_lists.auto.values, c.requires.wide);
      inside = omega (arith, n, h, k, m, c.args.trail.now.fits, c.begin_by_lists.new.trail.fits);
      pending = pending_as (clauses_listed c.args.clauses) c.begin_by_lists.new.values c.begin_by_lists.new.values _ _ refl (ap (λ i. drop i t) (sym n)) e.pending;
      space = omega (arith, e.grown.room, k, m, c.begin_by_lists.new.trail.fits, c.args.trail.now.fits, e.space, c.requires.space);
    }

pub returns : goal.returns
returns c =
    let b = c.in_ok-begin_by_lists.ensures in
    let f = c.follow_by_lists.ensures in
    record {
      closes = closes_on (clauses_listed c.args.clauses) c.args.values.now c.begin_by_lists.new.values c.follow_by_lists.new.values (is_ok c.follow_by_lists.result) b.reached f.reached (on_err c.follow_by_lists.result f.broken) f.closes;
      grown = grown_on c.args.values.now c.begin_by_lists.new.values c.follow_by_lists.new.values _ _ _ b.grown f.grown;
      space = f.space ∙ b.space;
    }

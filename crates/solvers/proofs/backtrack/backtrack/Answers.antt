use Rattle.std.proofs.Common.{◌≡◌, pred, ◌+◌, ◌-◌, ◌<◌, ◌≤◌, List, [], ◌∷◌, length, take, drop, ℤ, pos, negsuc, sym, refl, ap, ◌∙◌, add-one, arith, length-append, length-take}
use borrow.Author.Tests.{false-ltb}
use Rattle.propagation.specs.declared.stack.Stack.{Stack}
use Rattle.propagation.specs.Assignments.{assigned}
use Rattle.solvers.specs.declared.decision.Decision.{Decision}
use Rattle.propagation.specs.Clauses.{clauses_of}
use Rattle.solving.specs.Settings.{open_in}
use Rattle.solving.specs.Backtracking.{lowest}
use Rattle.solving.proofs.Closed.{open_most}
use Rattle.solving.proofs.Costs.{lowest_law}
use Rattle.propagation.proofs.Followed.{pending_as}
use Rattle.solvers.proofs.Verdicts.{holds_of_err, holds_of_ok}
use Rattle.solvers.proofs.Resumed.{deep_reached, deep_broken}
use Rattle.solvers.proofs.Looped.{decide_pending, turn_pending, loop_begin, loop_grown, loop_decide, loop_turn, loop_empty, kept_as, loop_tired, loop_found, loop_weary, turn_ready, decide_ready}
use Rattle.solvers.proofs.backtrack.backtrack.Goals as goal
use Rattle.solvers.proofs.backtrack.backtrack.Goals.{in-Ok+in-Some-2, in-Err+in-Some-2-pop}

pub returns-then-is_err-clause-answers_as_defined : goal.returns-then-is_err-clause-answers_as_defined
returns-then-is_err-clause-answers_as_defined c =
    let e = c.begin.ensures in
    deep_broken lowest lowest_law.0 (clauses_of c.args.clauses) c.args.budget c.args.assignment.now.values.now c.begin.new.self.values.now 0 e.reached (holds_of_err c.begin.result c.is_err.result c.is_err.ensures.value c.if-is_err.true e.broken)

pub loop-assignment-init : goal.loop-assignment-init
loop-assignment-init c =
    let cs = clauses_of c.args.clauses in
    let e = c.begin.ensures in
    let a = c.args.assignment.now in
    let b = c.begin.new.self in
    let v = b.values.now in
    let t = take b.trail.len b.trail.entries.now in
    let z = length-take a.trail.len a.trail.entries.now in
    let h : length t + open_in (length v) v ≤ length v = omega (arith, e.grown.room, e.grown.long, z, c.requires.fresh, open_most (length a.values.now) a.values.now) in
    let d : take c.args.decisions.now.len c.args.decisions.now.entries.now ≡ [] = ap (λ n. take n c.args.decisions.now.entries.now) c.requires.blank in (
      loop_begin cs c.args.budget v t _ d h,
      refl,
      omega arith,
      pending_as cs v v _ _ refl (ap (λ n. drop n t) c.requires.fresh) (holds_of_ok c.begin.result c.is_err.result c.is_err.ensures.value c.if-is_err.false e.pending),
      omega arith,
    )

pub returns-in-None-clause-answers_as_defined : goal.returns-in-None-clause-answers_as_defined
returns-in-None-clause-answers_as_defined c =
    let cs = clauses_of c.args.clauses in
    let e = c.in-Ok.ensures in
    let v = c.begin.new.self.values.now in
    let a = c.loop-assignment.assignment.values.now in
    let b = c.follow.new.self.values.now in
    let k = loop_grown cs c.args.budget v a a b _ _ _ c.loop-assignment.steps c.loop-assignment.invariant.0 e.grown in
    sym (deep_reached lowest lowest_law.0 cs c.args.budget c.args.assignment.now.values.now v 0 c.begin.ensures.reached) ∙ loop_found cs c.args.budget v a b _ _ c.loop-assignment.steps k (e.closes.closed refl) e.closes.whole (sym (rw c.values.ensures.is_the_setting at c.in-None.ensures.is_the_lowest))

pub returns-in-Some-clause-answers_as_defined : goal.returns-in-Some-clause-answers_as_defined
returns-in-Some-clause-answers_as_defined c =
    let cs = clauses_of c.args.clauses in
    let e = c.in-Ok.ensures in
    let v = c.begin.new.self.values.now in
    let a = c.loop-assignment.assignment.values.now in
    let b = c.follow.new.self.values.now in
    let k = loop_grown cs c.args.budget v a a b _ _ _ c.loop-assignment.steps c.loop-assignment.invariant.0 e.grown in
    sym (deep_reached lowest lowest_law.0 cs c.args.budget c.args.assignment.now.values.now v 0 c.begin.ensures.reached) ∙ loop_weary cs c.args.budget v a b _ _ c.loop-assignment.steps c.in-Some.field-0 k (e.closes.closed refl) e.closes.whole (sym (rw c.values.ensures.is_the_setting at c.in-Some.ensures.is_the_lowest)) c.if-spent.true

pub decide-requires-clause-is_open : goal.decide-requires-clause-is_open
decide-requires-clause-is_open c =
    let v = c.begin.new.self.values.now in
    let a = c.loop-assignment.assignment.values.now in
    let b = c.follow.new.self.values.now in
    let k = loop_grown (clauses_of c.args.clauses) c.args.budget v a a b _ _ _ c.loop-assignment.steps c.loop-assignment.invariant.0 c.in-Ok.ensures.grown in
    (decide_ready (clauses_of c.args.clauses) c.args.budget v a b _ _ c.loop-assignment.steps c.in-Some.field-0 k (sym (rw c.values.ensures.is_the_setting at c.in-Some.ensures.is_the_lowest))).0

pub decide-requires-clause-more : goal.decide-requires-clause-more
decide-requires-clause-more c =
    let v = c.begin.new.self.values.now in
    let a = c.loop-assignment.assignment.values.now in
    let b = c.follow.new.self.values.now in
    let k = loop_grown (clauses_of c.args.clauses) c.args.budget v a a b _ _ _ c.loop-assignment.steps c.loop-assignment.invariant.0 c.in-Ok.ensures.grown in
    let r = decide_ready (clauses_of c.args.clauses) c.args.budget v a b _ _ c.loop-assignment.steps c.in-Some.field-0 k (sym (rw c.values.ensures.is_the_setting at c.in-Some.ensures.is_the_lowest)) in
    let ds = c.loop-assignment.decisions in
    omega (arith, r.1, length-take ds.len ds.entries.now, ds.fits, c.loop-assignment.invariant.1, c.requires.more, c.begin.ensures.grown.long)

pub returns-in-None-pop-clause-answers_as_defined : goal.returns-in-None-pop-clause-answers_as_defined
returns-in-None-pop-clause-answers_as_defined c =
    let cs = clauses_of c.args.clauses in
    let e = c.in-Err.ensures in
    let v = c.begin.new.self.values.now in
    let a = c.loop-assignment.assignment.values.now in
    let b = c.follow.new.self.values.now in
    let k = loop_grown cs c.args.budget v a a b _ _ _ c.loop-assignment.steps c.loop-assignment.invariant.0 e.grown in
    let z = false-ltb 0 c.loop-assignment.decisions.len c.in-None-pop.ensures.has_one_unless_empty in
    let n : c.loop-assignment.decisions.len ≡ 0 = omega (arith, z) in
    sym (deep_reached lowest lowest_law.0 cs c.args.budget c.args.assignment.now.values.now v 0 c.begin.ensures.reached) ∙ loop_empty cs c.args.budget v a b _ _ c.loop-assignment.steps k (ap (λ m. take m c.loop-assignment.decisions.entries.now) n) e.closes.whole

pub returns-in-Some-pop-clause-answers_as_defined : goal.returns-in-Some-pop-clause-answers_as_defined
returns-in-Some-pop-clause-answers_as_defined c =
    let cs = clauses_of c.args.clauses in
    let e = c.in-Err.ensures in
    let v = c.begin.new.self.values.now in
    let a = c.loop-assignment.assignment.values.now in
    let b = c.follow.new.self.values.now in
    let k = loop_grown cs c.args.budget v a a b _ _ _ c.loop-assignment.steps c.loop-assignment.invariant.0 e.grown in
    sym (deep_reached lowest lowest_law.0 cs c.args.budget c.args.assignment.now.values.now v 0 c.begin.ensures.reached) ∙ loop_tired cs c.args.budget v a b _ _ _ c.in-Some-pop.field-0 c.loop-assignment.steps k e.closes.whole c.in-Some-pop.ensures.takes_the_latest c.if-spent-2.true

pub turn-requires : goal.turn-requires
turn-requires c =
    let v = c.begin.new.self.values.now in
    let a = c.loop-assignment.assignment.values.now in
    let b = c.follow.new.self.values.now in
    let k = loop_grown (clauses_of c.args.clauses) c.args.budget v a a b _ _ _ c.loop-assignment.steps c.loop-assignment.invariant.0 c.in-Err.ensures.grown in
    record { is_open = (turn_ready (clauses_of c.args.clauses) c.args.budget v a b _ _ _ c.in-Some-pop.field-0 c.loop-assignment.steps k c.in-Some-pop.ensures.takes_the_latest).1 }

pub loop-assignment-preserved : goal.loop-assignment-preserved
loop-assignment-preserved c = elim c.match-follow.branch [
  | in-Ok+in-Some-2 w ↦
      (let cs = clauses_of c.args.clauses in
      let e = w.in-Ok.ensures in
      let j = w.in-Some.field-0 in
      let h : c.loop-assignment.steps < c.args.budget = w.if-spent.false in
      let v = c.begin.new.self.values.now in
      let a = c.loop-assignment.assignment.values.now in
      let b = c.follow.new.self.values.now in
      let s = c.follow.new.self.trail in
      let u = c.match-follow.assignment.trail in
      let t = take s.len s.entries.now in
      let m = ap assigned w.assignment-is ∙ w.decide.ensures.makes_it_false in
      let ms = ap (λ x. x.setting) m in
      let mt = ap (λ x. x.trail) m in
      let lt = length-take s.len s.entries.now in
      let at : s.len ≡ length t = omega (arith, lt, s.fits) in
      let o = sym (rw w.values.ensures.is_the_setting at w.in-Some.ensures.is_the_lowest) in
      let k = loop_grown cs c.args.budget v a a b _ _ _ c.loop-assignment.steps c.loop-assignment.invariant.0 e.grown in
      let lu = length-take u.len u.entries.now in
      let lw = ap length mt in
      let la = length-append t (negsuc j ∷ []) in
      let n = loop_decide cs c.args.budget v a b _ _ c.loop-assignment.steps j (negsuc j) (record { at = s.len; var = j }) k (e.closes.closed refl) e.closes.whole o h refl refl at refl in (
        kept_as cs c.args.budget v _ c.match-follow.assignment.values.now _ _ _ _ _ (c.loop-assignment.steps + 1) ms mt
            (ap (λ (q : Stack Decision). take q.len q.entries.now) w.decisions-is ∙ w.decide.ensures.decisions)
            (add-one c.loop-assignment.steps) n,
        ap (λ (q : Stack Decision). length q.entries.now) w.decisions-is ∙ w.decide.ensures.kept ∙ c.loop-assignment.invariant.1,
        omega (arith, h),
        pending_as cs _ _ _ _ (sym ms) (ap (λ (x : List ℤ). drop (c.len-front.result - 1) x) (sym mt)) (decide_pending cs c.args.budget v a b _ j (c.len-front.result - 1) (negsuc j) (e.closes.closed refl) e.closes.whole o refl (omega (arith, lu, lw, la, u.fits, c.len-front.ensures.counts_the_trail))),
        omega (arith, c.len-front.ensures.counts_the_trail),
      ))
  | in-Err+in-Some-2-pop w ↦
      (let cs = clauses_of c.args.clauses in
      let e = w.in-Err.ensures in
      let d = w.in-Some-pop.field-0 in
      let h : c.loop-assignment.steps < c.args.budget = w.if-spent-2.false in
      let p : pred (d.var + 1) ≡ d.var = omega arith in
      let v = c.begin.new.self.values.now in
      let a = c.loop-assignment.assignment.values.now in
      let b = c.follow.new.self.values.now in
      let s = c.follow.new.self.trail in
      let u = c.match-follow.assignment.trail in
      let t = take s.len s.entries.now in
      let m = ap assigned w.assignment-is ∙ w.turn.ensures.makes_it_true in
      let ms = ap (λ x. x.setting) m in
      let mt = ap (λ x. x.trail) m in
      let lt = length-take s.len s.entries.now in
      let k = loop_grown cs c.args.budget v a a b _ _ _ c.loop-assignment.steps c.loop-assignment.invariant.0 e.grown in
      let r = turn_ready cs c.args.budget v a b _ _ _ d c.loop-assignment.steps k w.in-Some-pop.ensures.takes_the_latest in
      let lu = length-take u.len u.entries.now in
      let lw = ap length mt in
      let la = length-append (take d.at t) (pos (d.var + 1) ∷ []) in
      let lb = length-take d.at t in
      let n = loop_turn cs c.args.budget v a b _ _ _ d c.loop-assignment.steps (pos (d.var + 1)) k e.closes.whole w.in-Some-pop.ensures.takes_the_latest h p refl in (
        kept_as cs c.args.budget v _ c.match-follow.assignment.values.now _ _ _ _ _ (c.loop-assignment.steps + 1) ms mt
            (ap (λ (q : Stack Decision). take q.len q.entries.now) w.decisions-is)
            (add-one c.loop-assignment.steps) n,
        ap (λ (q : Stack Decision). length q.entries.now) w.decisions-is ∙ w.pop.ensures.keeps_its_room ∙ c.loop-assignment.invariant.1,
        omega (arith, h),
        pending_as cs _ _ _ _ (sym ms) (ap (λ (x : List ℤ). drop (c.len-front.result - 1) x) (sym mt)) (turn_pending cs c.args.budget v a b _ _ _ d c.loop-assignment.steps (c.len-front.result - 1) (pos (d.var + 1)) k w.in-Some-pop.ensures.takes_the_latest p (omega (arith, lu, lw, la, lb, lt, r.0, s.fits, u.fits, c.len-front.ensures.counts_the_trail))),
        omega (arith, c.len-front.ensures.counts_the_trail),
      ))
]

use Rattle.std.proofs.Common.{◌≡◌, ◌+◌, ◌-◌, ◌<◌, length, get_or, take, pos, refl, ap, ◌∙◌, arith, length-take, w16, SFits, rules}
use Rattle.std.proofs.lemmas.List.{get_or_default}
use Rattle.std.proofs.lemmas.Result.{err_from_is_err_and}
use Rattle.std.proofs.lemmas.Int.{to_z-of_z}
use Rattle.solving.specs.Orders.{stop}
use Rattle.propagation.specs.Occurrences.{against}
use Rattle.propagation.specs.Clauses.{clauses_listed}
use Rattle.propagation.proofs.Trailing.{grown_none}
use Rattle.propagation.proofs.Followed.{front_wide, visit_start, visited, visit_pair, visit_before, visit_broken, visit_goes}
use Rattle.propagation.proofs.follow.visit.Goals as goal

pub bounds-clauses-negated_key_of : goal.bounds-clauses-negated_key_of
bounds-clauses-negated_key_of c =
    let t = take c.args.trail.now.len c.args.trail.now.entries.now in
    let n : c.args.front < length t = simp length-take (omega (arith, c.requires.inside, c.args.trail.now.fits)) in
    let f : SFits w16 c.get.result = search rules in
    let k = simp to_z-of_z at c.negated_key_of.ensures.is_the_negations_number in
    let e = c.get.ensures.is_the_entry_there ∙ get_or_default t c.args.front c.get.result (pos 0) n in
    let w = front_wide (clauses_listed c.args.clauses) c.args.values.now t c.args.front (length c.args.clauses.lasts.now) c.requires.pending n c.requires.wide in
    omega (arith, k ∙ ap against e, w)

pub loop-below-init : goal.loop-below-init
loop-below-init c =
    let cl = c.args.clauses in
    let t = take c.args.trail.now.len c.args.trail.now.entries.now in
    let n : c.args.front < length t = simp length-take (omega (arith, c.requires.inside, c.args.trail.now.fits)) in
    let f : SFits w16 c.get.result = search rules in
    let k = simp to_z-of_z at c.negated_key_of.ensures.is_the_negations_number in
    let e = c.get.ensures.is_the_entry_there ∙ get_or_default t c.args.front c.get.result (pos 0) n in
    let w = front_wide (clauses_listed cl) c.args.values.now t c.args.front (length cl.lasts.now) c.requires.pending n c.requires.wide in (
      visit_start cl.literals.now cl.ends.now cl.lasts.now cl.places.now c.requires.listed c.args.values.now t c.args.front (against (get_or t c.args.front (pos 0))) _ n refl w (ap (λ i. get_or cl.lasts.now i 0) (k ∙ ap against e)) c.requires.pending,
      stop,
      grown_none c.args.values.now t,
      refl,
      c.requires.space,
    )

pub offset_bounds-clauses-below : goal.offset_bounds-clauses-below
offset_bounds-clauses-below c =
    let s = c.loop-below.invariant.0.stands (omega (arith, c.loop-below-test.true)) in
    let h : c.loop-below.below - 1 < length c.args.clauses.places.now = omega (arith, s.0, c.requires.listed.roomy, c.loop-below-test.true) in
    search rules

pub bounds-clauses-below : goal.bounds-clauses-below
bounds-clauses-below c =
    let s = c.loop-below.invariant.0.stands (omega (arith, c.loop-below-test.true)) in
    omega (arith, s.0, c.requires.listed.roomy, c.loop-below-test.true)

pub press_once-requires : goal.press_once-requires
press_once-requires c =
    let cl = c.args.clauses in
    let s = c.loop-below.invariant.0.stands (omega (arith, c.loop-below-test.true)) in
    let v = visited cl.literals.now cl.ends.now cl.lasts.now cl.places.now c.requires.listed (c.loop-below.below - 1) (omega (arith, s.0, c.loop-below-test.true)) in
    let b : c.loop-below.below ≡ (c.loop-below.below - 1) + 1 = omega (arith, c.loop-below-test.true) in
    record {
      inside = v.3;
      paired = λ h. visit_pair cl.literals.now cl.ends.now cl.lasts.now cl.places.now c.requires.listed _ c.loop-below.below (c.loop-below.below - 1) c.loop-below.values _ b c.loop-below.invariant.0 (omega (arith, c.requires.few, c.loop-below.auto.values)) h;
      space = c.loop-below.invariant.4;
    }

pub returns-in_err-press_once : goal.returns-in_err-press_once
returns-in_err-press_once c =
    let cl = c.args.clauses in
    let t = take c.args.trail.now.len c.args.trail.now.entries.now in
    let n : c.args.front < length t = simp length-take (omega (arith, c.requires.inside, c.args.trail.now.fits)) in
    let w = front_wide (clauses_listed cl) c.args.values.now t c.args.front (length cl.lasts.now) c.requires.pending n c.requires.wide in
    let b : c.loop-below.below ≡ (c.loop-below.below - 1) + 1 = omega (arith, c.loop-below-test.true) in
    let q = visit_broken cl.literals.now cl.ends.now cl.lasts.now cl.places.now c.requires.listed (against (get_or t c.args.front (pos 0))) c.loop-below.below (c.loop-below.below - 1) c.args.front c.args.values.now c.loop-below.values c.press_once.new.values t _ _ _ b w c.loop-below.invariant.0 c.loop-below.invariant.1 c.loop-below.invariant.2 n c.in_err-press_once.ensures.presses refl in
    let p = err_from_is_err_and c.from_residual.result c.from_residual.ensures.1 in
    rw p.1 (record { reached = q.0; broken = q.1; pending = tt; grown = q.2; space = c.press_once.ensures.space ∙ c.loop-below.invariant.3 })

pub loop-below-smaller : goal.loop-below-smaller
loop-below-smaller c =
    let cl = c.args.clauses in
    let t = take c.args.trail.now.len c.args.trail.now.entries.now in
    let n : c.args.front < length t = simp length-take (omega (arith, c.requires.inside, c.args.trail.now.fits)) in
    let w = front_wide (clauses_listed cl) c.args.values.now t c.args.front (length cl.lasts.now) c.requires.pending n c.requires.wide in
    let b : c.loop-below.below ≡ (c.loop-below.below - 1) + 1 = omega (arith, c.loop-below-test.true) in
    let q = visit_before cl.literals.now cl.ends.now cl.lasts.now cl.places.now c.requires.listed (against (get_or t c.args.front (pos 0))) c.loop-below.below (c.loop-below.below - 1) c.loop-below.values _ b c.loop-below.invariant.0 w in
    omega (arith, q, c.loop-below-test.true)

pub loop-below-preserved : goal.loop-below-preserved
loop-below-preserved c =
    let cl = c.args.clauses in
    let t = take c.args.trail.now.len c.args.trail.now.entries.now in
    let n : c.args.front < length t = simp length-take (omega (arith, c.requires.inside, c.args.trail.now.fits)) in
    let w = front_wide (clauses_listed cl) c.args.values.now t c.args.front (length cl.lasts.now) c.requires.pending n c.requires.wide in
    let b : c.loop-below.below ≡ (c.loop-below.below - 1) + 1 = omega (arith, c.loop-below-test.true) in
    let q = visit_goes cl.literals.now cl.ends.now cl.lasts.now cl.places.now c.requires.listed (against (get_or t c.args.front (pos 0))) c.loop-below.below (c.loop-below.below - 1) c.args.front c.args.values.now c.loop-below.values c.press_once.new.values t _ _ _ b w c.loop-below.invariant.0 c.loop-below.invariant.1 c.loop-below.invariant.2 n c.in_ok-press_once.ensures.presses refl in
    let m = length-take c.press_once.new.trail.len c.press_once.new.trail.entries.now in
    let r = c.press_once.ensures.space ∙ c.loop-below.invariant.3 in
    let l = length-take c.args.trail.now.len c.args.trail.now.entries.now in (
      q.0,
      q.1,
      q.2,
      r,
      omega (arith, q.2.room, m, l, c.press_once.new.trail.fits, c.args.trail.now.fits, r, c.requires.space),
    )

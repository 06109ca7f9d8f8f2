use Rattle.std.proofs.Common.{◌≡◌, ℕ, List, length, get_or, sym, refl, ap, ◌∙◌, subst, not-suc-le-zero, add-one, arith}
use Rattle.std.proofs.lemmas.List.{get_or-replicate}
use Rattle.propagation.specs.Occurrences.{start_of, Headed, Spanned}
use Rattle.propagation.proofs.Rows.{clause_ends, ends_before, ends_last}
use Rattle.propagation.proofs.Listing.{headed_none, spanned_more}
use Rattle.propagation.proofs.list.list.Goals as goal

pub loop-to-init : goal.loop-to-init
loop-to-init c = (
  refl,
  headed_none c.args.row.literals.now c.fill.new.self (λ k h. ap (λ (x : List ℕ). get_or x k 0) (c.fill.ensures.after (λ y e. e)) ∙ get_or-replicate (length c.args.lasts.now) k 0 0 (omega (arith, h, c.fill.ensures.len))),
  λ p h. absurd (not-suc-le-zero h),
  λ p h. absurd (not-suc-le-zero h),
  λ d p h. absurd (not-suc-le-zero h),
)

pub list_clause-requires : goal.list_clause-requires
list_clause-requires c =
    let e = clause_ends c.args.row.literals.now 0 c.args.row.ends.now c.loop-to.to-index c.args.row.ended c.loop-to-test.true in
    record {
      rising = omega (arith, e.0, c.loop-to.invariant.0);
      inside = e.1;
      few = c.args.row.few;
      space = omega (arith, c.requires.space, c.loop-to.auto.places);
      headed = c.loop-to.invariant.1;
      linked = λ p h w. c.loop-to.invariant.2 p h (omega (arith, w, c.loop-to.auto.lasts));
      paired = c.loop-to.invariant.3;
    }

pub loop-to-preserved : goal.loop-to-preserved
loop-to-preserved c =
    let row = c.args.row.literals.now in
    let ends = c.args.row.ends.now in
    let e = c.list_clause.ensures in (
      sym (ap (start_of ends) (add-one c.loop-to.to-index)),
      e.headed,
      λ p h w. e.linked p h (omega (arith, w, c.loop-to.auto.lasts)),
      e.paired,
      spanned_more ends c.loop-to.places c.list_clause.new.places c.loop-to.to-index c.loop-to.from (get_or ends c.loop-to.to-index 0) c.loop-to.invariant.0 refl
          (λ d p h g. let b = ends_before row 0 ends d c.loop-to.to-index c.args.row.ended h (omega (arith, c.loop-to-test.true)) in omega (arith, b, g, c.loop-to.invariant.0))
          c.loop-to.invariant.4 e.spanned e.kept,
    )

pub returns : goal.returns
returns c =
    let row = c.args.row.literals.now in
    let ends = c.args.row.ends.now in
    let n : c.loop-to.to-index ≡ length ends = omega (arith, c.loop-to-test.false, c.loop-to.auto.to-index-end) in
    let f : c.loop-to.from ≡ length row = c.loop-to.invariant.0 ∙ ap (start_of ends) n ∙ ends_last row 0 ends c.args.row.ended in
    record {
      listed = record {
        ended = c.args.row.ended;
        roomy = omega (arith, c.requires.space, c.loop-to.auto.places);
        headed = subst (λ m. Headed row c.loop-to.lasts m) f c.loop-to.invariant.1;
        linked = λ p h w. c.loop-to.invariant.2 p (omega (arith, h, f)) (omega (arith, w, c.loop-to.auto.lasts));
        spanned = subst (λ m. Spanned ends c.loop-to.places m) n c.loop-to.invariant.4;
        paired = λ p h. c.loop-to.invariant.3 p (omega (arith, h, f));
      };
    }

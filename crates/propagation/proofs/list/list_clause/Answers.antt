use Rattle.std.proofs.Common.{◌≡◌, ℕ, ◌+◌, ◌<◌, List, length, get_or, set, pos, sym, refl, ap, ◌∙◌, subst, arith, w16, SFits, to_z, of_z, rules}
use Rattle.std.proofs.lemmas.Int.{to_z-of_z}
use Rattle.propagation.specs.declared.occurrence.Occurrence.{Occurrence}
use Rattle.propagation.specs.Occurrences.{key, literal_at, Headed}
use Rattle.propagation.proofs.Listing.{headed_more, linked_more, paired_more, span_more, kept_more}
use Rattle.propagation.proofs.list.list_clause.Goals as goal

pub loop-p-preserved : goal.loop-p-preserved
loop-p-preserved c =
    let row = c.args.literals.now in
    let p = c.loop-p.p in
    let lasts = c.loop-p.lasts in
    let b = c.put-before.ensures in
    let f : SFits w16 (get_or row p (pos 0)) = search rules in
    let k = simp to_z-of_z at c.key_of.ensures.is_the_literals_number in
    let f1 : SFits w16 c.literal_at-first.result = search rules in
    let f2 : SFits w16 c.literal_at-second.result = search rules in
    let o : Occurrence = record { from = c.args.from; to = c.args.to; before = c.put-before.result; first = to_z w16 (of_z w16 c.literal_at-first.result); second = to_z w16 (of_z w16 c.literal_at-second.result) } in
    let e : c.put-before.new.lasts ≡ set lasts (key (get_or row p (pos 0))) (p + 1) = b.is_there ∙ ap (λ n. set lasts n (p + 1)) k in
    let h : p < length c.loop-p.places = omega (arith, c.loop-p-test.true, c.loop-p.auto.places, c.requires.inside, c.requires.space) in (
      subst (λ (x : List ℕ). Headed row x (p + 1)) (sym e) (headed_more row lasts p c.loop-p.invariant.0),
      linked_more row (length c.args.lasts.now) c.loop-p.places p o h c.loop-p.invariant.1 (λ w. b.was_there ∙ ap (λ n. get_or lasts n 0) k ∙ c.loop-p.invariant.0 (key (get_or row p (pos 0))) (omega (arith, w, c.loop-p.auto.lasts))),
      paired_more row c.loop-p.places p o h c.loop-p.invariant.2
          (simp to_z-of_z c.literal_at-first.ensures.is_the_literal_there ∙ ap (literal_at row c.args.to) c.first_other.ensures.is_the_first_other)
          (simp to_z-of_z c.literal_at-second.ensures.is_the_literal_there ∙ ap (literal_at row c.args.to) c.second_other.ensures.is_the_second_other),
      span_more c.loop-p.places c.args.from c.args.to p o h refl refl c.loop-p.invariant.3,
      kept_more c.loop-p.places c.args.places.now c.args.from p o c.loop-p.auto.p c.loop-p.invariant.4,
    )

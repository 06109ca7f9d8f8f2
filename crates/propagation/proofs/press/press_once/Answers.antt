use Rattle.std.proofs.Common.{length, sym, refl, ◌∙◌, inl, arith, w16, SFits, rules}
use Rattle.std.proofs.lemmas.Int.{to_z-of_z}
use Rattle.solving.specs.Literals.{place}
use Rattle.solving.proofs.Places.{open_inside, open_some}
use Rattle.propagation.specs.Following.{forces}
use Rattle.propagation.proofs.Followed.{unit_place}
use Rattle.propagation.proofs.press.press_once.Goals as goal

pub make-requires : goal.make-requires
make-requires c =
    let v = c.args.values.now in
    let f : SFits w16 c.in-Some-Lone.literal = search rules in
    let e = sym c.in-Some-Lone.ensures.is_the_clauses_state ∙ c.in-Some-Lone.field-0-is in
    let o = unit_place v c.in-Some-Lone.literal _ e in
    let i = open_inside v (place c.in-Some-Lone.literal) o in
    let p = open_some v (length v) (place c.in-Some-Lone.literal) o i in
    record { inside = simp to_z-of_z i; space = omega (arith, c.requires.space, p) }

pub returns-in-Some-Lone : goal.returns-in-Some-Lone
returns-in-Some-Lone c =
    let f : SFits w16 c.in-Some-Lone.literal = search rules in
    let e = sym c.in-Some-Lone.ensures.is_the_clauses_state ∙ c.in-Some-Lone.field-0-is in
    let m = simp to_z-of_z at c.make.ensures.values in
    let t = simp to_z-of_z at c.make.ensures.trail in
    record { presses = inl (forces c.in-Some-Lone.literal refl e m t); space = c.make.ensures.space }

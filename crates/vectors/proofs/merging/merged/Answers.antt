-- A bit of the clash is an input that is fixed oppositely; without one the fixed cells of both agree.
use Rattle.std.proofs.Common.{refl}
use Rattle.std.proofs.lemmas.Bool.{false≢true}
use Rattle.vectors.specs.Views.{cells_of}
use Rattle.vectors.proofs.Merged.{never_opposed, opposed_from, union_extends, union_filled, union_is_zero}
use Rattle.vectors.proofs.merging.merged.Goals as goal

pub returns-then-a-b-ne0-clause-refused_exactly_if_some_input_is_fixed_oppositely : goal.returns-then-a-b-ne0-clause-refused_exactly_if_some_input_is_fixed_oppositely
returns-then-a-b-ne0-clause-refused_exactly_if_some_input_is_fixed_oppositely c =
    (λ _. opposed_from (cells_of c.args.a.now) (cells_of c.args.b.now) c.if-a-b-ne0.true, λ _. refl)

pub invariant_of-result : goal.invariant_of-result
invariant_of-result c =
    let a = c.args.a.now in
    let b = c.args.b.now in
    record { free_is_zero = union_is_zero a.care a.value b.care b.value a.free_is_zero b.free_is_zero }

pub returns-clause-refused_exactly_if_some_input_is_fixed_oppositely : goal.returns-clause-refused_exactly_if_some_input_is_fixed_oppositely
returns-clause-refused_exactly_if_some_input_is_fixed_oppositely c =
    (λ t. absurd (false≢true t), λ o. absurd (never_opposed (cells_of c.args.a.now) (cells_of c.args.b.now) c.if-a-b-ne0.false o))

pub returns-clause-extends_both : goal.returns-clause-extends_both
returns-clause-extends_both c =
    let a = c.args.a.now in
    let b = c.args.b.now in
    union_extends (cells_of a) (cells_of b) a.free_is_zero b.free_is_zero c.if-a-b-ne0.false

pub returns-clause-filled_by_what_fills_both : goal.returns-clause-filled_by_what_fills_both
returns-clause-filled_by_what_fills_both c =
    let a = c.args.a.now in
    let b = c.args.b.now in
    union_filled (cells_of a) (cells_of b) a.free_is_zero b.free_is_zero c.if-a-b-ne0.false

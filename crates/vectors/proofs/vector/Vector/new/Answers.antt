-- The tests of the code are those of the definition, which mean that the vector is in form bit by bit.
use Rattle.std.proofs.Common.{◌≡◌, true, false, arith}
use Rattle.std.proofs.lemmas.Bool.Decides.{nat_tests}
use Rattle.vectors.specs.Vectors.{in_form}
use Rattle.vectors.proofs.Forms.{judges}
use Rattle.vectors.proofs.vector.Vector.new.Goals as goal
use Rattle.vectors.proofs.vector.Vector.new.Goals.{else-below-via-then-below+else-value-care, else-below-via-else-below}

pub returns-then-value-care-clause-in_form_means_bit_by_bit : goal.returns-then-value-care-clause-in_form_means_bit_by_bit
returns-then-value-care-clause-in_form_means_bit_by_bit c =
    let e : true ≡ in_form c.args.inputs c.args.care c.args.value = grind (arith, nat_tests) in
    judges c.args.inputs c.args.care c.args.value true e

pub returns-else-below-clause-in_form_means_bit_by_bit : goal.returns-else-below-clause-in_form_means_bit_by_bit
returns-else-below-clause-in_form_means_bit_by_bit c =
    let e : false ≡ in_form c.args.inputs c.args.care c.args.value =
    elim c.else-below.branch [ else-below-via-then-below+else-value-care w ↦ grind (arith, nat_tests) | else-below-via-else-below w ↦ grind (arith, nat_tests) ] in
    judges c.args.inputs c.args.care c.args.value false e

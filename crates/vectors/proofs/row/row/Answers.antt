-- One character more is read; a byte that is no character, or a wrong count, is no row.
use Rattle.std.proofs.Common.{◌≡◌, ℕ, ◌<◌, false, length, sym, ap, ◌∙◌, subst, arith}
use Rattle.std.proofs.lemmas.List.{take_all}
use Rattle.std.proofs.lemmas.Bool.{false≢true}
use Rattle.std.proofs.lemmas.Bool.Decides.{nat_tests}
use Rattle.vectors.specs.Rows.{is_row, printed}
use Rattle.vectors.specs.Vectors.{Cells, holding, start, InForm}
use Rattle.vectors.proofs.Fillings.{length_cells}
use Rattle.vectors.proofs.Forms.{free_from_bits}
use Rattle.vectors.proofs.Readings.{characters_more, no_row_by_byte, read_more, row_of_cells, same_from_print}
use Rattle.vectors.proofs.row.row.Goals as goal

pub returns-then-bytes-inputs-clause-a_printed_vector_reads_back : goal.returns-then-bytes-inputs-clause-a_printed_vector_reads_back
returns-then-bytes-inputs-clause-a_printed_vector_reads_back c =
    let either = c.then-bytes-inputs.either in
    let e : false ≡ is_row c.args.inputs c.args.bytes.now = grind (arith, nat_tests) in
    λ v _ h m. false≢true (e ∙ row_of_cells c.args.inputs c.args.bytes.now (start c.args.inputs v) (length_cells v 0 c.args.inputs) h m)

pub returns-in_err-cell-clause-every_row_of_cells_is_read : goal.returns-in_err-cell-clause-every_row_of_cells_is_read
returns-in_err-cell-clause-every_row_of_cells_is_read c =
    let e : false ≡ is_row c.args.inputs c.args.bytes.now = no_row_by_byte c.args.inputs c.args.bytes.now c.loop-j.j (omega arith) c.in_err-cell.ensures.a_cells_character c.loop-j.invariant.2 in
    rw c.from_residual.ensures (λ cells l h m. e ∙ row_of_cells c.args.inputs c.args.bytes.now cells l h m)

pub returns-in_err-cell-clause-a_printed_vector_reads_back : goal.returns-in_err-cell-clause-a_printed_vector_reads_back
returns-in_err-cell-clause-a_printed_vector_reads_back c =
    let e : false ≡ is_row c.args.inputs c.args.bytes.now = no_row_by_byte c.args.inputs c.args.bytes.now c.loop-j.j (omega arith) c.in_err-cell.ensures.a_cells_character c.loop-j.invariant.2 in
    rw c.from_residual.ensures (λ v _ h m. false≢true (e ∙ row_of_cells c.args.inputs c.args.bytes.now (start c.args.inputs v) (length_cells v 0 c.args.inputs) h m))

pub loop-j-preserved : goal.loop-j-preserved
loop-j-preserved c =
    let h : c.loop-j.j < length c.args.bytes.now = omega arith in
    let r = read_more c.loop-j.care c.loop-j.value c.loop-j.j c.fixed.result c.level.result c.in_ok-cell.cell c.args.bytes.now
    (omega arith) h c.fixed.ensures.is_one_if_fixed c.level.ensures.is_the_cells_bit c.in_ok-cell.ensures.has_that_character c.loop-j.invariant.0 c.loop-j.invariant.1 in
    (r.0, r.1, characters_more c.args.bytes.now c.loop-j.j h c.in_ok-cell.ensures.a_cells_character c.loop-j.invariant.2)

pub invariant_of-result : goal.invariant_of-result
invariant_of-result c = record { free_is_zero = free_from_bits c.loop-j.care c.loop-j.value c.loop-j.invariant.0.free_is_zero }

pub returns-clause-a_printed_vector_reads_back : goal.returns-clause-a_printed_vector_reads_back
returns-clause-a_printed_vector_reads_back c =
    let all : c.loop-j.j ≡ c.args.inputs = omega arith in
    let w : Cells = holding c.loop-j.care c.loop-j.value in
    let back : printed c.args.inputs w ≡ c.args.bytes.now =
    sym (ap (λ (k : ℕ). printed k w) all) ∙ c.loop-j.invariant.1 ∙ take_all c.loop-j.j c.args.bytes.now (omega arith) in
    let form : InForm c.args.inputs w = subst (λ (k : ℕ). InForm k w) all c.loop-j.invariant.0 in
    λ v f _ m. same_from_print c.args.inputs w v form f (back ∙ sym m)

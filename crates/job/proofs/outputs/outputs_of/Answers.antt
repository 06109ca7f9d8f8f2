use Rattle.std.proofs.Common.{◌≡◌, true, take, Some, None, is_some, Option, refl}
use Rattle.std.proofs.lemmas.Bool.{false≢true}
use Rattle.card.specs.Views.{netlist_of}
use Rattle.vectors.specs.Views.{cells_of}
use Rattle.job.proofs.Rows.{cells_long, cells_print, output_cells, shows_outputs}
use Rattle.job.proofs.outputs.outputs_of.Goals as goal

-- what is no vector is none
none_told : {X : Type 0} (o : Option X) → ((x : X) → o ≡ Some x → ⊥) → is_some o ≡ true → ⊥
none_told None h e = false≢true e
none_told (Some x) h e = h x refl

pub unreachable-requires-in_default-row : goal.unreachable-requires-in_default-row
unreachable-requires-in_default-row c =
    let k = netlist_of c.args.card.now in
    let x = cells_of c.args.vector.now in
    let m = c.in-Ok.ensures.answers_how_many_or_names_the_refusal in
    let wrote = c.in-Ok.ensures.writes_the_characters_or_nothing in
    none_told c.row.result c.in_default-row.not-Some (c.row.ensures.every_row_of_cells_is_read (output_cells k x) (cells_long k x c.in-Ok.count m _ c.expected_outputs.new.out (take c.in-Ok.count c.expected_outputs.new.out) wrote refl) c.in-Ok.ensures.answers_one_to_thirty_two.1 (cells_print k x c.in-Ok.count m _ c.expected_outputs.new.out (take c.in-Ok.count c.expected_outputs.new.out) wrote refl))

pub returns : goal.returns
returns c =
    let k = netlist_of c.args.card.now in
    let x = cells_of c.args.vector.now in
    record {
      shows_the_outputs = shows_outputs k x c.in-Ok.count c.in-Ok.ensures.answers_how_many_or_names_the_refusal _ c.expected_outputs.new.out (take c.in-Ok.count c.expected_outputs.new.out) c.in-Ok.ensures.writes_the_characters_or_nothing refl (cells_of c.in-Some.outputs)
          c.in-Some.ensures.prints_back c.in-Some.ensures.is_in_form c.in-Ok.ensures.a_bit_shown_is_what_every_filling_makes;
    }

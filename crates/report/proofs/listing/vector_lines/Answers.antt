use Rattle.std.proofs.Common.{◌≡◌, map, get_or, sym, ap, ◌∙◌, arith}
use Rattle.std.proofs.lemmas.List.{get_or-map, length-map}
use Rattle.card.specs.Views.{netlist_of}
use Rattle.vectors.specs.Vectors.{Cells}
use Rattle.vectors.specs.Views.{cells_of}
use Rattle.page.specs.Pages.{putting}
use Rattle.page.specs.Views.{filled_of}
use Rattle.report.specs.Lines.{ended, vector_rows}
use Rattle.report.proofs.Putting.{listing_all, listing_more}
use Rattle.report.proofs.listing.vector_lines.Goals as goal

pub loop-number-preserved : goal.loop-number-preserved
loop-number-preserved c =
    let card = netlist_of c.args.card.now in
    let vs = c.args.vectors.now in
    let i = c.loop-number.number in
    let v = c.index-vectors-number.result in
    let h = c.loop-number-test.true in
    let p = filled_of c.loop-number.page in
    let read : cells_of v ≡ get_or (map cells_of vs) i (cells_of v) = ap cells_of c.index-vectors-number.is ∙ sym (get_or-map cells_of vs i v (cells_of v) h) in
    listing_more (vector_rows card) (map cells_of vs) i (cells_of v) p (filled_of c.vector_line.new.page) _ (omega (arith, h, length-map vs cells_of)) c.loop-number.invariant
    (c.vector_line.ensures.puts_the_line ∙ ap (λ (x : Cells). putting (ended (vector_rows card i x)) p) read)

pub returns : goal.returns
returns c =
    let xs = map cells_of c.args.vectors.now in
    record {
      puts_a_line_for_each_vector = listing_all (vector_rows (netlist_of c.args.card.now)) xs c.loop-number.number (filled_of c.loop-number.page) _ (omega (arith, length-map c.args.vectors.now cells_of)) c.loop-number.invariant;
    }

use Rattle.std.proofs.Common.{◌≡◌, map, get_or, sym, ap, ◌∙◌, arith}
use Rattle.std.proofs.lemmas.List.{get_or-map, length-map}
use Rattle.history.specs.declared.mark.Mark.{Mark}
use Rattle.page.specs.Pages.{putting}
use Rattle.page.specs.Views.{filled_of}
use Rattle.report.specs.Lines.{ended, fault_rows}
use Rattle.report.proofs.Putting.{listing_all, listing_more}
use Rattle.report.proofs.listing.fault_lines.Goals as goal

pub loop-number-preserved : goal.loop-number-preserved
loop-number-preserved g c =
    let mark = g.M.ToMark.mark in
    let ms = c.args.marks.now in
    let i = c.loop-number.number in
    let m = c.index-marks-number.result in
    let h = c.loop-number-test.true in
    let p = filled_of c.loop-number.page in
    let read : c.to_mark.result ≡ get_or (map mark ms) i (mark m) = c.to_mark.ensures.is_the_mark ∙ ap mark c.index-marks-number.is ∙ sym (get_or-map mark ms i m (mark m) h) in
    listing_more fault_rows (map mark ms) i (mark m) p (filled_of c.fault_line.new.page) _ (omega (arith, h, length-map ms mark)) c.loop-number.invariant
    (c.fault_line.ensures.puts_the_line_unless_detected ∙ ap (λ (x : Mark). putting (ended (fault_rows i x)) p) read)

pub returns : goal.returns
returns g c =
    let xs = map g.M.ToMark.mark c.args.marks.now in
    record {
      puts_a_line_for_each_fault_not_detected = listing_all fault_rows xs c.loop-number.number (filled_of c.loop-number.page) _ (omega (arith, length-map c.args.marks.now g.M.ToMark.mark)) c.loop-number.invariant;
    }

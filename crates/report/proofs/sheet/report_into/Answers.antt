use Rattle.std.proofs.Common.{length, ap, ◌∙◌, arith, rules}
use Rattle.std.proofs.lemmas.Bool.{le-leb}
use Rattle.job.specs.Jobs.{card_held, held}
use Rattle.page.specs.Pages.{putting}
use Rattle.page.specs.Views.{filled_of}
use Rattle.page.proofs.Putting.{finished, lent_kept, via}
use Rattle.report.specs.Lines.{sheet_of}
use Rattle.report.proofs.sheet.report_into.Goals as goal

pub returns : goal.returns
returns c =
    let text = sheet_of (card_held c.args.job.now) (held c.args.job.now) in
    let last = c.finish.new.self.0 in
    let h = c.finish.ensures in
    let put = c.report.ensures.puts_the_sheet ∙ ap (putting text) c.new-page.ensures.is_fresh in
    let kept = lent_kept text _ _ put in
    let end = finished _ text c.args.buffer.now last c.finish.result (filled_of c.report.new.page) put h.ended_with_a_length_exactly_if_nothing_was_cut h.answers_the_length h.leaves_the_buffer in
    record {
      answered_exactly_if_the_sheet_fits = end.fits;
      answers_its_length = end.long;
      writes_the_sheet_as_far_as_it_fits = via last end.left (search (rules, kept));
      leaves_the_bytes_behind_it = λ y. via last (end.behind y) (search (rules, kept));
      the_sheet_tells_what_the_job_holds = c.report.ensures.the_sheet_tells_what_the_job_holds;
      the_sheet_tells_the_truth = c.report.ensures.the_sheet_tells_the_truth;
      with_a_detected_fault_for_each_vector_it_fits_65536_bytes =
          λ m room. end.fits ∙ le-leb (length text) (length c.args.buffer.now) (omega (arith, c.report.ensures.with_a_detected_fault_for_each_vector_it_has_at_most_65536_bytes m, room));
    }

use Rattle.std.proofs.Common.{ap, ◌∙◌, arith, rules}
use Rattle.page.specs.Pages.{putting}
use Rattle.page.specs.Views.{filled_of}
use Rattle.page.proofs.Putting.{finished, lent_kept, via}
use Rattle.report.specs.Lines.{refusal_text}
use Rattle.report.proofs.Lengths.{refusal_fits}
use Rattle.report.proofs.sheet.refusal_into.Goals as goal

pub returns : goal.returns
returns c =
    let text = refusal_text c.args.refusal.number c.args.refusal.offset in
    let last = c.finish.new.self.0 in
    let h = c.finish.ensures in
    let put = c.refusal_line.ensures.puts_the_refusal ∙ ap (putting text) c.new-page.ensures.is_fresh in
    let kept = lent_kept text _ _ put in
    let end = finished _ text c.args.buffer.now last c.finish.result (filled_of c.refusal_line.new.page) put h.ended_with_a_length_exactly_if_nothing_was_cut h.answers_the_length h.leaves_the_buffer in
    record {
      answered_exactly_if_the_line_fits = end.fits;
      answers_its_length = end.long;
      writes_the_line_as_far_as_it_fits = via last end.left (search (rules, kept));
      leaves_the_bytes_behind_it = λ y. via last (end.behind y) (search (rules, kept));
      the_line_has_at_most_41_bytes = refusal_fits c.args.refusal.number c.args.refusal.offset (omega arith) (omega arith);
    }

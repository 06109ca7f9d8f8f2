use Rattle.std.proofs.Common.{ℕ, List, [], ◌∷◌, length, sym, ap, ◌∙◌, subst, ap₂, rules}
use lib.ListN.{length-map}
use Rattle.card.specs.Netlists.{Lawful, Netlist}
use Rattle.vectors.specs.Vectors.{Cells}
use Rattle.history.specs.declared.mark.Mark.{Mark}
use Rattle.job.specs.Jobs.{card_held, held}
use Rattle.job.specs.Tables.{mark_of}
use Rattle.job.specs.declared.shown.Counts.{Counts}
use Rattle.page.specs.Pages.{putting}
use Rattle.page.specs.Views.{filled_of}
use Rattle.page.proofs.Putting.{put_then}
use Rattle.report.specs.Lines.{ended, fault_rows, numbered, vector_rows}
use Rattle.report.proofs.Lengths.{sheet_fits}
use Rattle.report.proofs.Putting.{same_head, sheet_parts}
use Rattle.report.proofs.Telling.{few_faults, few_vectors, tells, tells_the_truth}
use Rattle.report.proofs.sheet.report.Goals as goal

pub returns : goal.returns
returns c =
    let p = filled_of c.args.page.now in
    let card = card_held c.args.job.now in
    let v = held c.args.job.now in
    let stands = c.marks.ensures.the_law_of_jobs_holds in
    let law : Lawful card = subst Lawful c.card.ensures.is_the_jobs_card (search rules) in
    let counts = c.counts.ensures.counts_the_faults in
    let head = c.head_line.ensures.puts_the_head
    ∙ ap (λ (l : List ℕ). putting (ended (l ∷ [])) p) (same_head _ _ _ _ _ _ _ _ (sym (length-map c.marks.result.now mark_of) ∙ ap length c.marks.ensures.are_the_marks) (ap (λ (k : Counts). k.detected) counts) (ap (λ (k : Counts). k.untestable) counts) (ap (λ (k : Counts). k.«open») counts)) in
    let vectors = c.vector_lines.ensures.puts_a_line_for_each_vector
    ∙ ap₂ (λ (n : Netlist) (vs : List Cells). putting (ended (numbered (vector_rows n) 0 vs)) (filled_of c.head_line.new.page)) c.card.ensures.is_the_jobs_card c.vectors.ensures.are_the_vectors in
    let faults = c.fault_lines.ensures.puts_a_line_for_each_fault_not_detected
    ∙ ap (λ (ms : List Mark). putting (ended (numbered fault_rows 0 ms)) (filled_of c.vector_lines.new.page)) c.marks-2.ensures.are_the_marks in
    record {
      puts_the_sheet = put_then _ _ p _ _ (put_then _ _ p _ _ head vectors) faults ∙ ap (λ (t : List ℕ). putting t p) (sheet_parts card v.marks v.vectors);
      the_sheet_tells_what_the_job_holds = tells card v law stands;
      the_sheet_tells_the_truth = tells_the_truth card v law stands;
      with_a_detected_fault_for_each_vector_it_has_at_most_65536_bytes = λ own. sheet_fits card v law (few_faults card v law stands) (few_vectors card v stands) own;
    }

use Rattle.sheets.proofs.Printed.{told, told_for, told_nothing}
use Rattle.sheets.proofs.print.sheet.Goals as goal

pub returns-clause-prints_the_sheet_and_it_tells_the_truth : goal.returns-clause-prints_the_sheet_and_it_tells_the_truth
returns-clause-prints_the_sheet_and_it_tells_the_truth g c =
    told c.args.bytes.now c.args.buffer.now c.put.new.buffer c.prepare.result c.put.result c.prepare.ensures.worked_on_the_card_or_names_the_fault c.put.ensures.puts_the_text_or_leaves_the_buffer

pub returns-clause-tells_of_each_fault_rising_and_of_none_for_a_bad_card : goal.returns-clause-tells_of_each_fault_rising_and_of_none_for_a_bad_card
returns-clause-tells_of_each_fault_rising_and_of_none_for_a_bad_card g c =
    told_for g.P.Progress.tells c.args.bytes.now c.args.buffer.now c.put.new.buffer c.args.progress.now c.prepare.new.progress c.prepare.result c.put.result c.prepare.ensures.worked_on_the_card_or_names_the_fault c.put.ensures.puts_the_text_or_leaves_the_buffer
    c.prepare.ensures.tells_of_each_fault c.prepare.ensures.tells_nothing_without_a_job

pub returns-clause-a_refusal_tells_nothing : goal.returns-clause-a_refusal_tells_nothing
returns-clause-a_refusal_tells_nothing g c =
    told_nothing g.P.Progress.tells c.args.bytes.now c.args.buffer.now c.put.new.buffer c.args.progress.now c.prepare.new.progress c.prepare.result c.put.result c.put.ensures.puts_the_text_or_leaves_the_buffer c.prepare.ensures.tells_nothing_without_a_job

use Rattle.std.proofs.Common.{refl}
use Rattle.std.specs.Fmt.{digits}
use Rattle.report.specs.Lines.{refusal_text, sheet_text}
use Rattle.report.proofs.worked.worked_sheets_stand.Goals as goal

pub returns : goal.returns
unfolding digits sheet_text refusal_text
returns c = record { the_sheet_of_card_b = refl; the_sheet_of_a_bad_card = refl }

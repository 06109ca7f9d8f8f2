-- The lines from this fault on, put on the page as it is, make all lines on the page as it was.
use Rattle.std.proofs.Common.{◌≡◌, map, drop}
use Rattle.page.specs.Pages.{putting}
use Rattle.page.specs.Views.{filled_of}
use Rattle.report.specs.Lines.{ended, fault_rows, numbered}
use Rattle.report.proofs.listing.fault_lines.Given as goal

abbrev pub invariant-loop-number : goal.invariant-loop-number
invariant-loop-number g l = putting (ended (numbered fault_rows l.number (drop l.number (map g.M.ToMark.mark l.marks)))) (filled_of l.page) ≡ putting (ended (numbered fault_rows 0 (map g.M.ToMark.mark l.marks))) (filled_of l.initial.page)

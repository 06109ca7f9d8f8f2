-- The lines from this vector on, put on the page as it is, make all lines on the page as it was.
use Rattle.std.proofs.Common.{◌≡◌, map, drop}
use Rattle.card.specs.Views.{netlist_of}
use Rattle.vectors.specs.Views.{cells_of}
use Rattle.page.specs.Pages.{putting}
use Rattle.page.specs.Views.{filled_of}
use Rattle.report.specs.Lines.{ended, numbered, vector_rows}
use Rattle.report.proofs.listing.vector_lines.Given as goal

abbrev pub invariant-loop-number : goal.invariant-loop-number
invariant-loop-number l =
    putting (ended (numbered (vector_rows (netlist_of l.card)) l.number (drop l.number (map cells_of l.vectors)))) (filled_of l.page) ≡ putting (ended (numbered (vector_rows (netlist_of l.card)) 0 (map cells_of l.vectors))) (filled_of l.initial.page)

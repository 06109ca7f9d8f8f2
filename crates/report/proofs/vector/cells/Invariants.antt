-- The cells of the inputs before this one are put.
use Rattle.std.proofs.Common.{◌≡◌}
use Rattle.vectors.specs.Rows.{printed}
use Rattle.vectors.specs.Views.{cells_of}
use Rattle.page.specs.Pages.{putting}
use Rattle.page.specs.Views.{filled_of}
use Rattle.report.proofs.vector.cells.Given as goal

abbrev pub invariant-loop-input : goal.invariant-loop-input
invariant-loop-input l = filled_of l.page ≡ putting (printed l.input (cells_of l.vector)) (filled_of l.initial.page)

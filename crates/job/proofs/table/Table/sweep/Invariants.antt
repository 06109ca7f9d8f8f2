use Rattle.vectors.specs.Views.{cells_of}
use Rattle.job.proofs.Sweeping.{SweptTo}
use Rattle.job.specs.Tables.{card_of, view_of}
use Rattle.job.proofs.table.Table.sweep.Given as goal

abbrev pub invariant-loop-fault : goal.invariant-loop-fault
invariant-loop-fault l = SweptTo (card_of l.fn.self) (view_of l.fn.self) l.number (cells_of l.response.vector) l.fault l.count l.state-items

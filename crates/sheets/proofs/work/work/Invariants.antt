use Rattle.std.proofs.Common.{◌≡◌}
use Rattle.job.specs.Jobs.{card_held, held}
use Rattle.sheets.specs.Telling.{Told}
use Rattle.sheets.specs.Working.{worked_to}
use Rattle.sheets.proofs.work.work.Given as goal

-- the faults below this one are done
abbrev pub invariant-loop-fault : goal.invariant-loop-fault
invariant-loop-fault g l = (card_held l.job ≡ card_held l.initial.job) × (held l.job ≡ worked_to (card_held l.initial.job) l.fault)
    × Told g.P.Progress.tells l.fault l.faults l.initial.progress l.progress

use Rattle.std.proofs.Common.{sym, subst}
use Rattle.card.specs.Netlists.{Netlist}
use Rattle.faults.specs.Sites.{fault_count}
use Rattle.sheets.specs.Telling.{Told}
use Rattle.sheets.proofs.print.prepare.Goals as goal

pub returns-clause-tells_of_each_fault : goal.returns-clause-tells_of_each_fault
returns-clause-tells_of_each_fault g c =
    subst (λ (k : Netlist). Told g.P.Progress.tells (fault_count k) (fault_count k) c.args.progress.now c.work.new.progress) (sym c.work.ensures.card_stays) c.work.ensures.tells_of_each_fault

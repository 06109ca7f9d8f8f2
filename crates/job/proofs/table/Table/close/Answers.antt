use Rattle.std.proofs.Common.{false, map, vec_items, refl, ap, ◌∙◌, rules}
use Rattle.vectors.specs.Views.{cells_of}
use Rattle.history.specs.Changing.{closing}
use Rattle.job.specs.Tables.{view_of}
use Rattle.job.proofs.Tabled.{flagged}
use Rattle.job.proofs.table.Table.close.Goals as goal

pub returns-clause-leads_on : goal.returns-clause-leads_on
returns-clause-leads_on c =
    let t = c.args.self.now in
    record {
      the_card_stays = refl;
      is_a_step = (
        search rules,
        flagged (vec_items t.states) (map cells_of (vec_items t.vectors)) c.fault-fault.result c.index_mut.result.now false c.index_mut.ensures.value ∙ ap (closing (view_of t)) c.fault-fault.ensures.is_the_tickets_fault,
      );
    }

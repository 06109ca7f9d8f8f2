use Rattle.std.proofs.Common.{true, map, vec_items, refl, rules}
use Rattle.vectors.specs.Views.{cells_of}
use Rattle.job.proofs.Tabled.{flagged}
use Rattle.job.proofs.table.Table.take.Goals as goal

pub returns-clause-leads_on : goal.returns-clause-leads_on
returns-clause-leads_on c =
    let t = c.args.self.now in
    record { the_card_stays = refl; is_a_step = (search rules, flagged (vec_items t.states) (map cells_of (vec_items t.vectors)) c.args.fault c.index_mut.result.now true c.index_mut.ensures.value) }

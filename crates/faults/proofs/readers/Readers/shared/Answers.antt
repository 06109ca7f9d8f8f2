-- The test by the counts agrees with the test by the list.
use Rattle.std.proofs.Common.{◌≡◌, leb, List, get_or, IfOk, filter, vec_items, subst, rules, tests}
use Rattle.std.proofs.lemmas.Iterator.{YieldsList-from_slice, items_from_collect}
use Rattle.std.proofs.lemmas.Iterator.Consumers.{YieldsList-at, YieldsList-from_copied, YieldsList-from_filter}
use Rattle.std.proofs.lemmas.List.Elements.{filter_agree}
use Rattle.faults.specs.declared.reader.Reader.{Reader}
use Rattle.faults.specs.Readers.{read_in}
use Rattle.faults.proofs.readers.Readers.shared.Goals as goal

pub returns : goal.returns
returns c =
    let all : List Reader = vec_items c.args.self.now.list in
    let counts = c.counts-counts.result in
    let kept : IfOk c.collect.result (λ found. vec_items found ≡ filter (λ r. leb 2 (get_or counts r.net 0)) all) =
    items_from_collect _ c.collect.ensures.ran
    (YieldsList-from_copied (YieldsList-at c.copied.ensures.source
    (YieldsList-from_filter _ (λ r. leb 2 (get_or counts r.net 0)) (YieldsList-from_slice all (cc)) c.filter.ensures.closure (λ x r q k. search (rules, tests))))) in
    record {
      keeps_those_that_share =
          subst (λ (zs : List Reader). IfOk c.collect.result (λ found. vec_items found ≡ zs))
          (filter_agree (λ r. leb 2 (get_or counts r.net 0)) (λ r. leb 2 (read_in all r.net)) (λ r i. leb 2 (c.counts-counts.ensures.counts_the_readers r.net i)) all)
          kept;
    }

use Rattle.std.proofs.Common.{◌≡◌, ◌<◌, false, List, length, get_or, vec_items, refl, ap, ◌∙◌, arith}
use lib.ListN.{length-map}
use Rattle.std.proofs.lemmas.Grind.{common_steps}
use Rattle.std.proofs.lemmas.List.{get_or_default, with_items_is}
use Rattle.vectors.specs.Views.{cells_of}
use Rattle.history.specs.declared.mark.Mark.TheVariants.{Open}
use Rattle.job.specs.Tables.{card_of, mark_of, view_of}
use Rattle.job.specs.declared.shown.Marked.{Marked}
use Rattle.job.proofs.Sweeping.{asked_of, cells_listed, swept_count, swept_no, swept_view, swept_yes}
use Rattle.job.proofs.Tabled.{seen}
use Rattle.job.proofs.table.Table.sweep.Goals as goal
use Rattle.job.proofs.table.Table.sweep.Goals.{then-sweep_marks, else-sweep_marks}

pub loop-fault-preserved : goal.loop-fault-preserved
loop-fault-preserved c =
    let t = c.args.self.now in
    let ys = c.loop-fault.state-items in
    let f = c.loop-fault.fault in
    let s : Marked = get_or ys f (record { mark = Open; taken = false }) in
    let lt : f < length ys = omega arith in
    let is : s ≡ get_or ys f s = get_or_default ys f (record { mark = Open; taken = false }) s lt in
    let x = cells_of c.response-response.result.vector in
    let same = c.response-response.ensures.is_of_the_card in
    elim c.if-sweep_marks.branch [
      | then-sweep_marks w ↦
          rw (w.count-is, w.state-items-is) (swept_yes (card_of t) (view_of t) c.args.number x f _ ys s lt is c.loop-fault.invariant _ (asked_of _ (card_of t) x s.mark s.taken f _ same w.if-sweep_marks.ensures.open_not_taken_and_caught) refl refl)
      | else-sweep_marks w ↦
          rw (w.count-is, w.state-items-is) (swept_no (card_of t) (view_of t) c.args.number x f _ ys s lt is c.loop-fault.invariant (asked_of _ (card_of t) x s.mark s.taken f _ same w.if-sweep_marks.ensures.open_not_taken_and_caught))
    ]

pub returns : goal.returns
returns c =
    let t = c.args.self.now in
    let v = view_of t in
    let i = c.args.number in
    let x = c.in_ok-vector.field-0.now in
    let within : i < length (vec_items t.vectors) = grind (arith, common_steps) in
    let at : x ≡ get_or (vec_items t.vectors) i x = grind (arith, common_steps) in
    let lt : i < length v.vectors = omega (arith, within, length-map (vec_items t.vectors) cells_of) in
    let y = cells_of c.response-response.result.vector in
    let is = c.response-response.ensures.is_to_the_vector ∙ cells_listed (vec_items t.vectors) i x within at in
    let over : c.loop-fault.fault ≡ length v.marks = omega (arith, length-map (vec_items t.states) mark_of, c.loop-fault.auto.fault-end, c.loop-fault-test.false) in
    record {
      leads_on = record {
        the_card_stays = refl;
        is_a_step = (
          swept_count (card_of t) v i y c.loop-fault.fault _ c.loop-fault.state-items lt is over c.loop-fault.invariant,
          ap (λ (ys : List Marked). seen ys v.vectors) (with_items_is t.states c.loop-fault.state-items (omega arith)) ∙ swept_view (card_of t) v i y c.loop-fault.fault _ c.loop-fault.state-items lt is over c.loop-fault.invariant,
        );
      };
    }

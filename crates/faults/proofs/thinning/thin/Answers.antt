-- One cell more is tried; what holds of the definition holds of the vector.
use Rattle.std.proofs.Common.{◌≡◌, ℕ, true, sym, ap, ◌∙◌, subst, arith}
use Rattle.card.specs.Views.{netlist_of}
use Rattle.vectors.specs.Extending.{Extends}
use Rattle.vectors.specs.Vectors.{Cells}
use Rattle.vectors.specs.Views.{cells_of}
use Rattle.faults.specs.Catching.{catches}
use Rattle.faults.specs.Thinning.{NoneToFree, thinned}
use Rattle.faults.proofs.Caught.{catch_shown, shows_caught}
use Rattle.faults.proofs.Thinned.{thinned_catches, thinned_extended, thinned_least, thinned_more}
use Rattle.faults.proofs.thinning.thin.Goals as goal

pub loop-j-preserved : goal.loop-j-preserved
loop-j-preserved c =
    thinned_more (netlist_of c.args.card.now) c.args.stuck (cells_of c.args.setting.now) (cells_of c.loop-j.vector) (cells_of c.try_cell.new.vector) c.loop-j.j
    c.loop-j.invariant c.try_cell.ensures.frees_the_cell_if_still_caught

pub returns : goal.returns
returns c =
    let card = netlist_of c.args.card.now in
    let s = c.args.stuck in
    let v = cells_of c.args.setting.now in
    let k : ℕ = card.inputs in
    let end : c.loop-j.j ≡ k = omega (arith, c.inputs-j-end.ensures.counts_the_inputs) in
    let e : cells_of c.loop-j.vector ≡ thinned card s v k = c.loop-j.invariant ∙ ap (thinned card s v) end in
    let caught : catches card s v ≡ true → catches card s (cells_of c.loop-j.vector) ≡ true = λ t. ap (catches card s) e ∙ thinned_catches card s v k t in
    record {
      tries_each_cell_in_rising_order = e;
      still_catches = caught;
      a_setting_that_shows_the_fault_is_thinned_to_a_catch = λ a bits f d. caught (shows_caught card s v bits c.args.card.now.lawful a f d);
      every_filling_shows_the_fault = λ t. catch_shown card s (cells_of c.loop-j.vector) (caught t);
      no_cell_still_fixed_can_be_freed = subst (λ (w : Cells). NoneToFree card s w) (sym e) (thinned_least card s v);
      fixed_cells_are_those_of_the_setting = subst (λ (w : Cells). Extends v w) (sym e) (thinned_extended card s v 0 k (omega arith));
    }

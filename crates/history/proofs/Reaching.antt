-- One call more leads on from where some history led, and where some history led the promise holds.
use Rattle.std.proofs.Common.{◌≡◌, [], ◌∷◌, ◌++◌, sym, subst}
use mathlib.Core.Logic.{∥∥₁_map}
use Rattle.card.specs.Netlists.{Lawful, Netlist}
use Rattle.history.specs.Histories.{History, LeadsTo, Run}
use Rattle.history.specs.Promises.{PromisedAfter, Reached, Stands}
use Rattle.history.specs.Steps.{Event, Step}
use Rattle.history.specs.Views.{View, new_view}
use Rattle.history.proofs.Promised.{law}

pub reached_new : (c d : Netlist) (v : View) → v ≡ new_view c → d ≡ c → Reached d v
reached_new c d v is same = subst (λ (k : Netlist). Reached k v) (sym same) ∣ ([], is) ∣₁

pub reached_step : (c d : Netlist) (v w : View) (e : Event) → d ≡ c → Step c v e w → Reached c v → Reached d w
reached_step c d v w e same step r = subst (λ (k : Netlist). Reached k w) (sym same) (∥∥₁_map r (λ (h : (h : History) × LeadsTo c h v). (e ∷ h.0, (v, h.1, step))))

pub reached_stands : (c : Netlist) (v : View) → Lawful c → Reached c v → Stands c v
reached_stands c v lawful r = ∥∥₁_map r (λ (h : (h : History) × LeadsTo c h v). (h.0, h.1, (law c lawful h.0 v h.1).0))

pub run_append : (c : Netlist) (v u w : View) (older newer : History) → Run c v older u → Run c u newer w → Run c v (newer ++ older) w
run_append c v u w older [] a is = subst (Run c v older) (sym is) a
run_append c v u w older (e ∷ newer) a (m, b, step) = (m, run_append c v u m older newer a b, step)

pub promised_after : (c : Netlist) (v w : View) (e : Event) → Lawful c → Step c v e w → PromisedAfter c v e w
promised_after c v w e lawful step h leads = (law c lawful (e ∷ h) w (v, leads, step)).0

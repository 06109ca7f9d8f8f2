-- Where an input sticks the write enters it; elsewhere the inputs are entered as they are.
use Rattle.std.proofs.Common.{◌≡◌, ℕ, take, None, sym, ap, ◌∙◌, rules}
use Rattle.signal.specs.declared.line.Line.TheVariants.{Pin}
use Rattle.signal.specs.Walks.{entered}
use Rattle.signal.proofs.Entering.{entered_none, entered_pin, entered_by_write, entered_past}
use Rattle.signal.proofs.walk.enter_stuck_input.Goals as goal
use Rattle.signal.proofs.walk.enter_stuck_input.Goals.{in_default-via-in-None-1, in_default-via-in-Some+in-Pin-1, in_default-via-in-Some+in-Net+else-net-inputs}

pub returns-then-net-inputs-clause-inputs_are_entered : goal.returns-then-net-inputs-clause-inputs_are_entered
returns-then-net-inputs-clause-inputs_are_entered g c =
    entered_by_write g.S.Signal.operations c.args.stuck c.in-Some.fault c.args.inputs c.in-Net.net c.constant.result c.args.nets.now c.in-Some.is c.in-Net.is c.if-net-inputs.true c.constant.ensures.is_the_constant

pub returns-in_default-clause-inputs_are_entered : goal.returns-in_default-clause-inputs_are_entered
returns-in_default-clause-inputs_are_entered g c =
    let o = g.S.Signal.operations in
    let xs = take c.args.inputs c.args.nets.now in
    elim c.in_default.branch [
      | in_default-via-in-None-1 w ↦ let e : c.args.stuck ≡ None = search rules in sym (ap (λ t. entered o t 0 xs) e ∙ entered_none o 0 xs)
      | in_default-via-in-Some+in-Pin-1 w ↦ let e : (m : ℕ) × (q : ℕ) × (w.in-Some.fault.line ≡ Pin m q) = search rules in sym (entered_pin o c.args.stuck w.in-Some.fault e.0 e.1 0 xs w.in-Some.is e.2)
      | in_default-via-in-Some+in-Net+else-net-inputs w ↦ entered_past o c.args.stuck w.in-Some.fault c.args.inputs w.in-Net.net c.args.nets.now w.in-Some.is w.in-Net.is w.if-net-inputs.false
    ]

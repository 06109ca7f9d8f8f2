-- The inputs from this one on are what is still to be put.
use Rattle.std.proofs.Common.{◌≡◌, ◌-◌}
use Rattle.std.specs.List.{flat_map}
use Rattle.card.specs.Netlists.{nets}
use Rattle.card.specs.Views.{netlist_of}
use Rattle.formula.specs.Links.{clauses_of, input_links}
use Rattle.formula.specs.Posing.{given}
use Rattle.formula.proofs.nets.put_inputs.Given as goal

abbrev pub invariant-loop-net : goal.invariant-loop-net
invariant-loop-net g l =
    let c = netlist_of l.faulty.card.now in
    given (g.S.Solver.model l.solver) (flat_map clauses_of (input_links (nets c) l.faulty.stuck l.net (c.inputs - l.net)))
    ≡ given (g.S.Solver.model l.initial.solver) (flat_map clauses_of (input_links (nets c) l.faulty.stuck 0 c.inputs))

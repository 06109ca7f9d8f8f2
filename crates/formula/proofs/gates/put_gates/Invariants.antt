-- The gates from this one on are what is still to be put.
use Rattle.std.proofs.Common.{◌≡◌, ◌+◌, drop}
use Rattle.std.specs.List.{flat_map}
use Rattle.card.specs.Netlists.{nets}
use Rattle.card.specs.Views.{netlist_of}
use Rattle.formula.specs.Links.{clauses_of, gate_links}
use Rattle.formula.specs.Posing.{given, net_variable}
use Rattle.formula.specs.Variables.{stuck_line}
use Rattle.formula.proofs.gates.put_gates.Given as goal

abbrev pub invariant-loop-i : goal.invariant-loop-i
invariant-loop-i g l =
    let n = nets (netlist_of l.side.card.now) in
    let links = gate_links (net_variable l.side.stuck n) (stuck_line n) l.side.stuck in
    given (g.S.Solver.model l.solver) (flat_map clauses_of (links (l.inputs + l.i) (drop l.i l.gate-items)))
    ≡ given (g.S.Solver.model l.initial.solver) (flat_map clauses_of (links l.inputs l.gate-items))

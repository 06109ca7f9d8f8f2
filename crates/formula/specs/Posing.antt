-- What a solver holds when clauses are given to it, one after another, and when it has been posed the formula of a fault.
use Rattle.std.specs.Prelude.{ℕ, zero, suc, cond, List, [], ◌∷◌, ℤ, pos, Some, None, Option}
use Rattle.card.specs.Netlists.{Netlist}
use Rattle.signal.specs.declared.line.Stuck.{Stuck}
use Rattle.solving.specs.Models.{Model, appendable, longer}
use Rattle.formula.specs.Formulas.{formula_of}
use Rattle.formula.specs.Variables.{faulty, good, variables}

-- several clauses given one after another: the solver takes those for which it has the variables and the room
abbrev pub given : Model → List (List ℤ) → Model
given m [] = m
given m (c ∷ cs) = given (cond (appendable m c) (longer m c) m) cs

-- these clauses and no reading
abbrev pub holding : ℕ → ℕ → List (List ℤ) → Model
holding v k cs = record { variables = v; leading = k; clauses = cs; reading = None }

-- the formula of a fault, with the card's inputs leading
abbrev pub holds_formula : Netlist → Stuck → Model
holds_formula c s = holding (variables c) c.inputs (formula_of c s)

-- where there is no such fault, what the solver held before
abbrev pub posed : Netlist → Option Stuck → Model → Model
posed c None m = m
posed c (Some s) m = holds_formula c s

-- the variables of the nets of the good card, or of the faulty one
abbrev pub net_variable : Option Stuck → ℕ → ℕ → ℕ
net_variable None n = good
net_variable (Some s) n = faulty n

-- the literals v, v + 1 and so on, i of them
abbrev pub rising : ℕ → ℕ → List ℤ
rising v zero = []
rising v (suc i) = pos v ∷ rising (suc v) i

-- The formula of a fault: the clauses of all links in order, and last one clause that some output differs.
-- A reading that satisfies it begins with a setting that shows the fault; the clauses stand in this order and in no other.
use Rattle.std.specs.Prelude.{ℕ, suc, List, [], ◌∷◌, ◌++◌, ℤ, pos}
use Rattle.std.specs.List.{flat_map}
use Rattle.card.specs.Netlists.{Netlist, nets}
use Rattle.signal.specs.declared.line.Stuck.{Stuck}
use Rattle.formula.specs.Links.{clauses_of, links}
use Rattle.formula.specs.Variables.{difference}

-- the variables of the outputs from number i on, as literals
abbrev pub differences : ℕ → ℕ → List ℕ → List ℤ
differences n i [] = []
differences n i (o ∷ os) = pos (difference n i) ∷ differences n (suc i) os

unfoldable pub formula_of : Netlist → Stuck → List (List ℤ)
formula_of c s = flat_map clauses_of (links c s) ++ (differences (nets c) 0 c.outputs ∷ [])

-- What the formula of a fault means: its satisfying readings are those of the settings that show the fault, one for each;
-- it is led; and it is within what a solver takes.
use Rattle.std.specs.Prelude.{◌≡◌, ◌≤◌, Bool, List, length, take}
use Rattle.card.specs.Netlists.{Netlist, Lawful}
use Rattle.signal.specs.declared.line.Stuck.{Stuck}
use Rattle.solving.specs.Leading.{Led}
use Rattle.solving.specs.Literals.{places}
use Rattle.solving.specs.Readings.{Satisfies}
use Rattle.faults.specs.Showing.{Shows}
use Rattle.formula.specs.Formulas.{formula_of}
use Rattle.formula.specs.Variables.{variables}

-- r gives each variable a bit, the leading ones those of the setting, and satisfies the formula
pub record Extends (c : Netlist) (s : Stuck) (bits r : List Bool) : Type 0 where
  pub one_for_each_variable : length r ≡ variables c
  pub begins_with_the_setting : take c.inputs r ≡ bits
  pub satisfies_the_formula : Satisfies r (formula_of c s)

pub record Means (c : Netlist) (s : Stuck) : Type 0 where
  pub a_showing_setting_extends : (bits : List Bool) → Shows c s bits → (r : List Bool) × Extends c s bits r
  pub in_one_way : (bits q r : List Bool) → Extends c s bits q → Extends c s bits r → q ≡ r
  pub a_satisfying_reading_begins_with_a_showing_setting : (r : List Bool) → length r ≡ variables c → Satisfies r (formula_of c s) → Shows c s (take c.inputs r)

-- closure from the inputs alone sets every variable or is violated
abbrev pub LedByInputs : Netlist → Stuck → Type 0
LedByInputs c s = Led (formula_of c s) (variables c) c.inputs

pub record Fits (c : Netlist) (s : Stuck) : Type 0 where
  pub inputs_are_variables : c.inputs ≤ variables c
  pub at_most_545_variables : variables c ≤ 545
  pub at_most_8713_places : places (formula_of c s) ≤ 8713

-- all of it, of every lawful card and every line
pub record FormulaLaws (c : Netlist) (s : Stuck) : Type 0 where
  pub means : Means c s
  pub led : LedByInputs c s
  pub fits : Fits c s

abbrev pub FormulaStands : Type 0
FormulaStands = (c : Netlist) (s : Stuck) → Lawful c → FormulaLaws c s

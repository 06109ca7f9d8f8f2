-- Links: each says that one variable is a function of others, and stands for the clauses of that function over them.
-- All clauses of a formula but the last come from links, in this order.
use Rattle.std.specs.Prelude.{ℕ, zero, suc, Bool, true, false, cond, List, [], ◌∷◌, ◌++◌, ℤ, Some, None, Option}
use Rattle.card.specs.declared.function.Function.{Function}
use Rattle.card.specs.declared.function.Function.TheVariants.{Ida, Xor2, Zero, One}
use Rattle.card.specs.declared.gate.Gate.{Gate}
use Rattle.card.specs.Netlists.{Netlist, nets, pins_of}
use Rattle.signal.specs.declared.line.Stuck.{Stuck}
use Rattle.signal.specs.Walks.{sticks_net, sticks_pin}
use Rattle.formula.specs.Rows.{rows, over}
use Rattle.formula.specs.Variables.{good, faulty, stuck_line, difference}

-- variable `out` is the function of the variables `pins`
pub record Link : Type 0 where
  pub function : Function
  pub out : ℕ
  pub pins : List ℕ

abbrev pub link : Function → ℕ → List ℕ → Link
link f x ys = record { function = f; out = x; pins = ys }

abbrev pub clauses_of : Link → List (List ℤ)
clauses_of l = over (l.out ∷ l.pins) (rows l.function)

-- one variable has the value of another
abbrev pub copies : ℕ → ℕ → Link
copies x y = link Ida x (y ∷ [])

-- the function whose gate always has this level
abbrev pub tied : Bool → Function
tied true = One
tied false = Zero

module _ (v : ℕ → ℕ) (line : ℕ) (t : Option Stuck) where
  -- the variables that the pins from number p on read, of the gate that makes net j; v has the variables of the nets, and a stuck pin reads the stuck line
  abbrev pub pin_variables : ℕ → ℕ → List ℕ → List ℕ
  pin_variables j p [] = []
  pin_variables j p (a ∷ reads) = cond (sticks_pin t j p) line (v a) ∷ pin_variables j (suc p) reads

  -- the gate that makes net j; a stuck net copies the stuck line
  abbrev pub gate_link : ℕ → Gate → Link
  gate_link j g = cond (sticks_net t j) (copies (v j) line) (link g.function (v j) (pin_variables j 0 (pins_of g)))

  -- gates, the first of which makes net j
  abbrev pub gate_links : ℕ → List Gate → List Link
  gate_links j [] = []
  gate_links j (g ∷ gs) = gate_link j g ∷ gate_links (suc j) gs

-- faulty inputs, m of them from number j on: each copies the good input, or the stuck line
abbrev pub input_links : ℕ → Option Stuck → ℕ → ℕ → List Link
input_links n t j zero = []
input_links n t j (suc m) = copies (faulty n j) (cond (sticks_net t j) (stuck_line n) (good j)) ∷ input_links n t (suc j) m

-- outputs, the first of which has number i: whether good and faulty net differ
abbrev pub output_links : ℕ → ℕ → List ℕ → List Link
output_links n i [] = []
output_links n i (o ∷ os) = link Xor2 (difference n i) (good o ∷ faulty n o ∷ []) ∷ output_links n (suc i) os

-- good gates by net; the stuck line; faulty nets; outputs
abbrev pub links : Netlist → Stuck → List Link
links c s =
    gate_links good (stuck_line (nets c)) None c.inputs c.gates ++
    (link (tied s.level) (stuck_line (nets c)) [] ∷
    (input_links (nets c) (Some s) 0 c.inputs ++
    (gate_links (faulty (nets c)) (stuck_line (nets c)) (Some s) c.inputs c.gates ++
    output_links (nets c) 0 c.outputs)))

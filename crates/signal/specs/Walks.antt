-- The value of every net, with the line that sticks as a parameter: one definition for every kind of signal,
-- for the good card (no line) and for the faulty one. At plain bits it is the meaning of both.
use Rattle.std.specs.Prelude.{ℕ, suc, Bool, false, cond, ◌&&◌, List, [], ◌∷◌, ◌++◌, Some, None, Option, ◌==◌, slice_index_or}
use Rattle.card.specs.declared.gate.Gate.{Gate}
use Rattle.card.specs.Netlists.{Netlist, pins_of}
use Rattle.signal.specs.declared.line.Line.{Line}
use Rattle.signal.specs.declared.line.Line.TheVariants.{Net, Pin}
use Rattle.signal.specs.declared.line.Stuck.{Stuck}
use Rattle.signal.specs.Operations.{Operations}
use Rattle.signal.specs.Gates.{truth}

abbrev pub is_net : Line → ℕ → Bool
is_net (Net i) j = i == j
is_net (Pin i q) j = false

abbrev pub is_pin : Line → ℕ → ℕ → Bool
is_pin (Net i) j p = false
is_pin (Pin i q) j p = i == j && q == p

-- the net of a line: the net itself, or the one that the pin's gate makes
abbrev pub net_of : Line → ℕ
net_of (Net i) = i
net_of (Pin i q) = i

-- net j sticks, with all its readers
abbrev pub sticks_net : Option Stuck → ℕ → Bool
sticks_net None j = false
sticks_net (Some s) j = is_net s.line j

-- pin p of the gate that makes net j sticks, and no other reader of the net that it reads
abbrev pub sticks_pin : Option Stuck → ℕ → ℕ → Bool
sticks_pin None j p = false
sticks_pin (Some s) j p = is_pin s.line j p

-- (where nothing sticks no level is asked for)
abbrev pub level_of : Option Stuck → Bool
level_of None = false
level_of (Some s) = s.level

module _ {S : Type 0} (o : Operations S) (t : Option Stuck) where
  -- the stuck level where the test holds, else the value
  abbrev pub unless_stuck : Bool → S → S
  unless_stuck b x = cond b (o.constant (level_of t)) x

  -- the values of the pins from number p on, which read these nets, of the gate that makes net j; xs are the nets before it
  -- (a net that is not there, which no pin of a lawful card reads, counts as 0)
  abbrev pub pin_values : List S → ℕ → ℕ → List ℕ → List S
  pin_values xs j p [] = []
  pin_values xs j p (a ∷ reads) = unless_stuck (sticks_pin t j p) (slice_index_or xs a (o.constant false)) ∷ pin_values xs j (suc p) reads

  -- the value of net j, made by gate g
  abbrev pub gate_net : List S → ℕ → Gate → S
  gate_net xs j g = unless_stuck (sticks_net t j) (truth o g.function (pin_values xs j 0 (pins_of g)))

  -- the nets xs, of which there are j, and then the nets that the gates make, each of those before it
  abbrev pub walked : ℕ → List S → List Gate → List S
  walked j xs [] = xs
  walked j xs (g ∷ gs) = walked (suc j) (xs ++ (gate_net xs j g ∷ [])) gs

  -- the inputs from number j on, one of which may be a stuck net
  abbrev pub entered : ℕ → List S → List S
  entered j [] = []
  entered j (x ∷ xs) = unless_stuck (sticks_net t j) x ∷ entered (suc j) xs

  -- the value of every net, from the values that are put to the inputs
  abbrev pub net_values : Netlist → List S → List S
  net_values c xs = walked c.inputs (entered 0 xs) c.gates

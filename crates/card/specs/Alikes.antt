-- When two cards are alike: equal but for the order of a gate's operands.
use Rattle.std.specs.Prelude.{◌≡◌, ℕ, ◌+◌, ◌<◌, Bool, true, false, cond, ◌&&◌, ◌||◌, List, [], ◌∷◌, length, ◌==◌, slice_index_or}
use Rattle.card.specs.declared.gate.Gate.{Gate}
use Rattle.card.specs.declared.gate.Operands.{Operands}
use Rattle.card.specs.declared.gate.Operands.TheVariants.{None, One, Two}
use Rattle.card.specs.Functions.{function_number}
use Rattle.card.specs.Netlists.{Netlist, pins_of}

-- how often a number stands in a list
abbrev pub times : ℕ → List ℕ → ℕ
times n [] = 0
times n (x ∷ xs) = cond (n == x) 1 0 + times n xs

-- each number stands in both lists as often
abbrev pub AsOften : List ℕ → List ℕ → Type 0
AsOften xs ys = (n : ℕ) → times n xs ≡ times n ys

-- the same function, and the same operands as often, in any order
pub record SameGate (g h : Gate) : Type 0 where
  pub function : g.function ≡ h.function
  pub operands : AsOften (pins_of g) (pins_of h)

pub record Alike (a b : Netlist) : Type 0 where
  pub inputs : a.inputs ≡ b.inputs
  pub gates : length a.gates ≡ length b.gates
  pub each : (i : ℕ) (d : Gate) → i < length a.gates → SameGate (slice_index_or a.gates i d) (slice_index_or b.gates i d)
  pub outputs : a.outputs ≡ b.outputs

-- every netlist is alike to itself, and alikeness goes both ways and onward
pub record AlikeLaws : Type 0 where
  pub reflexive : (a : Netlist) → Alike a a
  pub symmetric : (a b : Netlist) → Alike a b → Alike b a
  pub transitive : (a b c : Netlist) → Alike a b → Alike b c → Alike a c

-- the same as tests that compute
abbrev pub same_operands : Operands → Operands → Bool
same_operands None None = true
same_operands None (One y) = false
same_operands None (Two x y) = false
same_operands (One x) None = false
same_operands (One x) (One y) = x == y
same_operands (One z) (Two x y) = false
same_operands (Two p q) None = false
same_operands (Two p q) (One y) = false
same_operands (Two p q) (Two x y) = (p == x && q == y) || (p == y && q == x)

abbrev pub same_gate : Gate → Gate → Bool
same_gate g h = function_number g.function == function_number h.function && same_operands g.operands h.operands

abbrev pub same_gates : List Gate → List Gate → Bool
same_gates [] [] = true
same_gates [] (h ∷ hs) = false
same_gates (g ∷ gs) [] = false
same_gates (g ∷ gs) (h ∷ hs) = same_gate g h && same_gates gs hs

-- The readers of a netlist in one list, each with its own line, which pin of which gate, and the net that it reads.
-- Every reader is a gate pin; another kind of reader would join by being put into `readers`.
use Rattle.std.specs.Prelude.{ℕ, suc, Bool, List, [], ◌∷◌, ◌++◌, count_by, filter, ◌==◌, nat_le}
use Rattle.card.specs.declared.gate.Gate.{Gate}
use Rattle.card.specs.Netlists.{Netlist, pins_of}
use Rattle.signal.specs.declared.line.Line.TheVariants.{Pin}
use Rattle.faults.specs.declared.reader.Reader.{Reader}

-- the pins from number p on, which read these nets, of the gate that makes net j
abbrev pub pin_readers : ℕ → ℕ → List ℕ → List Reader
pin_readers j p [] = []
pin_readers j p (a ∷ reads) = record { line = Pin j p; net = a } ∷ pin_readers j (suc p) reads

-- the pins of gates, the first of which makes net j
abbrev pub gate_readers : ℕ → List Gate → List Reader
gate_readers j [] = []
gate_readers j (g ∷ gs) = pin_readers j 0 (pins_of g) ++ gate_readers (suc j) gs

-- every reader: gate by gate, and pin by pin within a gate
abbrev pub readers : Netlist → List Reader
readers c = gate_readers c.inputs c.gates

abbrev pub reads : ℕ → Reader → Bool
reads net r = net == r.net

-- how many readers of a list read a net
abbrev pub read_in : List Reader → ℕ → ℕ
read_in rs net = count_by (reads net) rs

-- how many readers a net has
abbrev pub read_count : Netlist → ℕ → ℕ
read_count c net = read_in (readers c) net

-- the readers of a list whose net has two readers or more in all
abbrev pub shared : List Reader → List Reader → List Reader
shared all rs = filter (λ r. nat_le 2 (read_in all r.net)) rs

-- the branches: the readers that share their net with another, in order
abbrev pub branches : Netlist → List Reader
branches c = shared (readers c) (readers c)

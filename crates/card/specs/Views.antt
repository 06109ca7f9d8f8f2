-- What a card means: its netlist.
use Rattle.std.specs.Prelude.{vec_items}
use Rattle.card.specs.Netlists.{Netlist}
use Rattle.card.specs.declared.netlist.Card.{Card}

abbrev pub netlist_of : Card → Netlist
netlist_of c = record { inputs = c.inputs; gates = vec_items c.gates; outputs = vec_items c.outputs }

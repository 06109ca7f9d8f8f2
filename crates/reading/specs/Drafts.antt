-- What a draft means: the netlist of the commands read so far.
use Rattle.card.specs.Netlists.{Netlist}
use Rattle.reading.specs.declared.draft.Draft.{Draft}

abbrev pub draft_of : Draft → Netlist
draft_of d = record { inputs = d.inputs; gates = d.gates.items; outputs = d.outputs.items }

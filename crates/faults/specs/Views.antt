-- What an opened card means: the netlist of its card.
-- The contracts speak of this netlist only, so the type itself stays closed to other crates.
use Rattle.card.specs.Netlists.{Netlist}
use Rattle.card.specs.Views.{netlist_of}
use Rattle.faults.specs.declared.model.FaultModel.{FaultModel}

abbrev pub modelled : FaultModel → Netlist
modelled m = netlist_of m.card

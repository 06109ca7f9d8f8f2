-- What a job holds, and its card as a netlist.
use Rattle.card.specs.Netlists.{Netlist}
use Rattle.history.specs.Views.{View}
use Rattle.job.specs.Tables.{card_of, view_of}
use Rattle.job.specs.declared.job.Job.{Job}

abbrev pub held : Job → View
held j = view_of j.table

abbrev pub card_held : Job → Netlist
card_held j = card_of j.table

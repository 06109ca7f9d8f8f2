-- What a desk has: the card of its job, what the job holds, and the tickets.
use Rattle.std.specs.Prelude.{List, vec_items}
use Rattle.card.specs.Netlists.{Netlist}
use Rattle.history.specs.Views.{View}
use Rattle.job.specs.Jobs.{card_held, held}
use Rattle.job.specs.declared.ticket.Ticket.{Ticket}
use Rattle.desk.specs.declared.desk.Desk.{Desk}

abbrev pub card_at : Desk → Netlist
card_at d = card_held d.job

abbrev pub held_at : Desk → View
held_at d = held d.job

abbrev pub tickets_at : Desk → List Ticket
tickets_at d = vec_items d.tickets

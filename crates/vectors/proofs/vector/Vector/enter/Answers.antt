-- One cell more is entered; at the end the nets of the inputs are the cells, which allow exactly the fillings.
use Rattle.std.proofs.Common.{◌≡◌, List, length, take, sym, subst, arith, rules}
use Rattle.signal.specs.declared.ternary.Ternary.{Ternary}
use Rattle.std.proofs.lemmas.List.{length-take-le}
use Rattle.vectors.specs.Vectors.{FilledByTheAllowed}
use Rattle.vectors.specs.Views.{cells_of}
use Rattle.vectors.proofs.Fillings.{entered_all, entered_more, filled_by_the_allowed, value_fills}
use Rattle.vectors.proofs.vector.Vector.enter.Goals as goal

pub loop-j-preserved : goal.loop-j-preserved
loop-j-preserved c = entered_more (cells_of c.args.self.now) c.loop-j.net-items c.loop-j.j c.cell.result (omega arith) (search rules) c.loop-j.invariant

pub returns-clause-enters_the_cells : goal.returns-clause-enters_the_cells
returns-clause-enters_the_cells c =
    let fit = c.args.card.now.lawful.inputs_fit in
    let long : length (take c.inputs-inputs.result c.args.nets.now) ≡ c.inputs-inputs.result = length-take-le _ _ (omega arith) in
    entered_all (cells_of c.args.self.now) c.loop-j.net-items _ c.loop-j.j c.args.card.now.inputs c.loop-j.invariant (omega arith) (omega arith) (omega arith)

pub returns-clause-filled_by_what_the_nets_allow : goal.returns-clause-filled_by_what_the_nets_allow
returns-clause-filled_by_what_the_nets_allow c =
    subst (λ (cells : List Ternary). FilledByTheAllowed c.args.card.now.inputs (cells_of c.args.self.now) cells) (sym (returns-clause-enters_the_cells c)) (filled_by_the_allowed c.args.card.now.inputs (cells_of c.args.self.now))

pub returns-clause-its_value_bits_fill_it : goal.returns-clause-its_value_bits_fill_it
returns-clause-its_value_bits_fill_it c = value_fills _ _

use Rattle.std.proofs.Common.{◌<◌, length, get_or, ap, subst, arith, rules}
use Rattle.card.specs.Views.{netlist_of}
use Rattle.signal.proofs.Below.{output_below}
use Rattle.vectors.specs.Views.{cells_of}
use Rattle.tester.specs.Characters.{characters}
use Rattle.tester.proofs.Showing.{character_read, length_characters, over_more}
use Rattle.tester.proofs.outputs.show.Goals as goal

pub bounds-nets-net : goal.bounds-nets-net
bounds-nets-net c =
    let n = netlist_of c.args.card.now in
    let law = c.args.card.now.lawful in
    let o = c.outputs-net-items.ensures.are_the_outputs in
    let t = c.loop-i-test.true in
    let b = output_below n c.loop-i.i 0 law (subst (λ xs. c.loop-i.i < length xs) o t) in
    let f = law.nets_fit in
    let e = ap (λ xs. get_or xs c.loop-i.i 0) o in
    omega (arith, b, f, e)

pub loop-i-preserved : goal.loop-i-preserved
loop-i-preserved c =
    let n = netlist_of c.args.card.now in
    let v = cells_of c.args.vector.now in
    let law = c.args.card.now.lawful in
    let o = c.outputs-net-items.ensures.are_the_outputs in
    let t = c.loop-i-test.true in
    let long = ap length o in
    let len = length_characters n v in
    let room = c.requires.room in
    over_more (characters n v) c.args.out.now c.loop-i.out c.loop-i.i c.character.result c.loop-i.invariant (omega (arith, len, t, long)) (omega (arith, len, room))
    (character_read n v c.outputs-net-items.result.now c.args.nets.now c.loop-i.i c.character.result _ o law t (search rules) c.requires.walked c.character.ensures.is_the_cells_character)

-- A character that is a bit is what every filling makes: from what the three-valued walk carries to the nets.
use Rattle.std.proofs.Common.{◌≡◌, Bool, true, false, List, get_or, None, sym, refl, ◌∙◌, subst, arith}
use Rattle.std.proofs.lemmas.List.{get_or-map}
use Rattle.card.specs.Netlists.{Lawful, Netlist}
use Rattle.signal.specs.Lists.{Carries}
use Rattle.signal.specs.Operations.{bit_operations}
use Rattle.signal.specs.Ternaries.{Allows, ternary_operations}
use Rattle.signal.specs.Walks.{net_values}
use Rattle.signal.specs.declared.ternary.Ternary.{Ternary}
use Rattle.signal.specs.declared.ternary.Ternary.TheVariants.{Low, High, X}
use Rattle.signal.proofs.Below.{output_below}
use Rattle.signal.proofs.Keeping.{net_values_kept}
use Rattle.signal.proofs.Places.{everywhere_at}
use Rattle.signal.specs.Unknowns.{ternary_sound}
use Rattle.signal.proofs.Walked.{length_net_values}
use Rattle.vectors.specs.Rows.{character_of}
use Rattle.vectors.specs.Vectors.{Cells, start}
use Rattle.vectors.proofs.Fillings.{filled_by_the_allowed, length_cells}
use Rattle.tester.specs.Characters.{Truthful, bit_at_output, characters, definite, good_nets}

-- a value with the character of a bit allows that bit alone
only_bit : (t : Ternary) (b q : Bool) → character_of t ≡ character_of (definite b) → Allows t q → q ≡ b
only_bit Low false false e a = refl
only_bit Low false true e a = sym a
only_bit Low true q e a = absurd (omega (arith, e))
only_bit High true true e a = refl
only_bit High true false e a = a
only_bit High false q e a = absurd (omega (arith, e))
only_bit X true q e a = absurd (omega (arith, e))
only_bit X false q e a = absurd (omega (arith, e))

-- the good nets, where no walk has made them
pub good_nets_carry : (c : Netlist) (v : Cells) → Carries Allows None c (start c.inputs v) (good_nets c v)
good_nets_carry c v bits a = net_values_kept ternary_operations Allows ternary_sound None c (start c.inputs v) bits a

-- what a walk promises of the arrays that it was given and has made
pub carried_read : (c : Netlist) (v : Cells) (ins made : List Ternary) → Carries Allows None c ins made → ins ≡ start c.inputs v → made ≡ good_nets c v → Carries Allows None c (start c.inputs v) (good_nets c v)
carried_read c v ins made k i m =
    subst (λ (xs : List Ternary). Carries Allows None c (start c.inputs v) xs) m (subst (λ (xs : List Ternary). Carries Allows None c xs made) i k)

pub truthful : (c : Netlist) (v : Cells) → Lawful c → Carries Allows None c (start c.inputs v) (good_nets c v) → Truthful c v (characters c v)
truthful c v law carry i h b e bits f =
    let net = get_or c.outputs i 0 in
    let cells = start c.inputs v in
    let long = length_net_values ternary_operations None c cells (length_cells v 0 c.inputs) in
    let below = output_below c i 0 law h in
    let all = carry bits ((filled_by_the_allowed c.inputs v bits).0 f) in
    let one = everywhere_at Allows (good_nets c v) (net_values bit_operations None c bits) net X false (omega arith) all in
    only_bit (get_or (good_nets c v) net X) b (bit_at_output c bits i) (sym (get_or-map (λ n. character_of (get_or (good_nets c v) n X)) c.outputs i 0 0 h) ∙ e) one

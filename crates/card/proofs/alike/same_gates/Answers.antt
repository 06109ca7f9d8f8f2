use Rattle.std.proofs.Common.{rules, ◌∙◌}
use Rattle.std.proofs.lemmas.Bool.{ne_eqb}
use Rattle.std.proofs.lemmas.Iterator.{YieldsList-from_slice, YieldsList-from_zip}
use Rattle.std.proofs.lemmas.Iterator.Search.{all_from_yields_List}
use Rattle.card.specs.Alikes.{same_gate}
use Rattle.card.proofs.Alikely.{gates_in_pairs, unlike_lengths}
use Rattle.card.proofs.alike.same_gates.Goals as goal

pub returns-then-a-b : goal.returns-then-a-b
returns-then-a-b c =
    let pairs = YieldsList-from_zip {s = c.zip.result} (YieldsList-from_slice c.args.a.now cc) (YieldsList-from_slice c.args.b.now cc) in
    let h = all_from_yields_List (λ p. same_gate p.0 p.1) c.all.new.self _ _ c.all.ensures.ran pairs (λ x b q k. search rules) in
    record { says_whether_each_gate_is_the_same = h ∙ gates_in_pairs c.args.a.now c.args.b.now c.if-a-b.true }

pub returns-else-a-b : goal.returns-else-a-b
returns-else-a-b c = record { says_whether_each_gate_is_the_same = ne_eqb _ _ c.if-a-b.false ∙ unlike_lengths c.args.a.now c.args.b.now c.if-a-b.false }

use Rattle.std.proofs.Common.{eqb, sym, ap, ◌∙◌}
use Rattle.std.proofs.lemmas.Bool.Decides.{Decides-eqb}
use Rattle.std.proofs.lemmas.Slice.Eq.{slice_eq-Decides}
use Rattle.card.specs.Alikes.{same_gates}
use Rattle.card.specs.Views.{netlist_of}
use Rattle.card.proofs.Alikely.{alike_decides, alike_laws}
use Rattle.card.proofs.alike.alike.Goals as goal

pub returns : goal.returns
returns c =
    let a = netlist_of c.args.a.now in
    let b = netlist_of c.args.b.now in
    let i = c.inputs.ensures.counts_the_inputs in
    let j = c.inputs-2.ensures.counts_the_inputs in
    let g = c.gates.ensures.are_the_gates in
    let h = c.gates-2.ensures.are_the_gates in
    let p = c.outputs.ensures.are_the_outputs in
    let q = c.outputs-2.ensures.are_the_outputs in
    let d = slice_eq-Decides Decides-eqb _ _ _ c.eq-outputs.ensures in
    record {
      says_whether_the_cards_are_alike = alike_decides a b _ _ _
          (ap (λ x. eqb x c.inputs-2.result) i ∙ ap (eqb a.inputs) j)
          (c.same_gates-gates.ensures.says_whether_each_gate_is_the_same ∙ ap (λ x. same_gates x c.gates-2.result.now) g ∙ ap (same_gates a.gates) h)
          ((λ t. sym p ∙ d.0 t ∙ q), (λ e. d.1 (p ∙ e ∙ sym q)));
      alikeness_is_an_equivalence = alike_laws;
    }

use Rattle.std.proofs.Common.{◌≡◌, ◌<◌, false, length, get_or, sym, refl, ap, ◌∙◌, arith}
use Rattle.std.proofs.lemmas.List.{get_or_default}
use Rattle.history.specs.Changing.{renamed}
use Rattle.history.specs.declared.mark.Mark.TheVariants.{Open, Detected}
use Rattle.job.specs.Tables.{taken_of}
use Rattle.job.specs.declared.shown.Marked.{Marked}
use Rattle.job.proofs.Merging.{names_none, renamed_more}
use Rattle.job.proofs.Tabled.{kept}
use Rattle.job.proofs.merge.rename_all.Goals as goal
use Rattle.job.proofs.merge.rename_all.Goals.{in-Detected, in_default}

pub loop-state-preserved : goal.loop-state-preserved
loop-state-preserved c =
    let ys = c.loop-state.states in
    let i = c.loop-state.state-index in
    let s : Marked = get_or ys i (record { mark = Open; taken = false }) in
    let lt : i < length ys = omega arith in
    let is : s ≡ get_or ys i s = get_or_default ys i (record { mark = Open; taken = false }) s lt in
    elim c.match-state.branch [
      | in-Detected w ↦ rw w.states-is (record {
        marks = renamed_more (renamed c.args.into c.args.gone) c.args.states.now ys i s _ (omega arith) c.loop-state.invariant.marks is lt (ap Detected w.renumber.ensures.is_the_new_number ∙ sym (ap (renamed c.args.into c.args.gone) w.in-Detected.is));
        flags = kept taken_of ys i s _ is refl ∙ c.loop-state.invariant.flags;
      })
      | in_default w ↦ rw w.states-is (record {
        marks = renamed_more (renamed c.args.into c.args.gone) c.args.states.now ys i s s (omega arith) c.loop-state.invariant.marks is lt (names_none c.args.into c.args.gone s.mark w.in_default.not-Detected);
        flags = kept taken_of ys i s s is refl ∙ c.loop-state.invariant.flags;
      })
    ]

use Rattle.std.proofs.Common.{◌≡◌, ℕ, List, map, length, sym, ap, ◌∙◌, subst, add-one, arith}
use lib.ListN.{length-map}
use Rattle.card.specs.Netlists.{Netlist}
use Rattle.faults.specs.Sites.{fault_count}
use Rattle.job.specs.Jobs.{card_held, held}
use Rattle.job.specs.Tables.{mark_of}
use Rattle.job.specs.declared.job.Job.{Job}
use Rattle.job.specs.declared.shown.Marked.{Marked}
use Rattle.job.proofs.Tabled.{all_marked}
use Rattle.sheets.specs.Telling.{Told}
use Rattle.sheets.specs.Working.{NoneTaken, working}
use Rattle.sheets.proofs.Worked.{none_taken_to, worked_all, worked_more}
use Rattle.sheets.proofs.work.work.Goals as goal

-- as many marks as faults
marked : (j : Job) (ms : List Marked) → map mark_of ms ≡ (held j).marks → length ms ≡ fault_count (card_held j)
marked j ms e = sym (length-map ms mark_of) ∙ ap length e ∙ all_marked j.table

pub work_on-requires-clause-none_taken : goal.work_on-requires-clause-none_taken
work_on-requires-clause-none_taken g c = subst NoneTaken (sym c.loop-fault.invariant.1) (none_taken_to (card_held c.args.job.now) c.loop-fault.fault)

pub loop-fault-preserved : goal.loop-fault-preserved
loop-fault-preserved g c =
    let worked : held c.work_on.new.job ≡ working (card_held c.args.job.now) (held c.loop-fault.job) c.loop-fault.fault =
    c.work_on.ensures.works_as_defined ∙ ap (λ (k : Netlist). working k (held c.loop-fault.job) c.loop-fault.fault) c.loop-fault.invariant.0 in (
      c.work_on.ensures.card_stays ∙ c.loop-fault.invariant.0,
      worked_more (card_held c.args.job.now) c.loop-fault.fault (held c.loop-fault.job) (held c.work_on.new.job) c.loop-fault.invariant.1 worked,
      rw add-one (c.loop-fault.progress, c.loop-fault.invariant.2, c.begin.ensures.is_told),
    )

pub returns-clause-reaches_what_is_defined : goal.returns-clause-reaches_what_is_defined
returns-clause-reaches_what_is_defined g c =
    let all = marked c.args.job.now _ c.marks-faults.ensures.are_the_marks in
    let over : c.loop-fault.fault ≡ fault_count (card_held c.args.job.now) = omega (arith, c.loop-fault-test.false, c.loop-fault.auto.fault-end, all) in
    worked_all (card_held c.args.job.now) c.loop-fault.fault (held c.loop-fault.job) over c.loop-fault.invariant.1

pub returns-clause-tells_of_each_fault : goal.returns-clause-tells_of_each_fault
returns-clause-tells_of_each_fault g c =
    let all = marked c.args.job.now _ c.marks-faults.ensures.are_the_marks in
    let over : c.loop-fault.fault ≡ fault_count (card_held c.args.job.now) = omega (arith, c.loop-fault-test.false, c.loop-fault.auto.fault-end, all) in
    subst (λ (n : ℕ). Told g.P.Progress.tells n (fault_count (card_held c.args.job.now)) c.args.progress.now c.loop-fault.progress) over
    (subst (λ (n : ℕ). Told g.P.Progress.tells c.loop-fault.fault n c.args.progress.now c.loop-fault.progress) all c.loop-fault.invariant.2)

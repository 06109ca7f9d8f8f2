use Rattle.std.proofs.Common.{◌≡◌, ◌++◌, map, take, drop}
use Rattle.history.specs.Changing.{renamed}
use Rattle.job.specs.Tables.{mark_of, taken_of}
use Rattle.job.proofs.merge.rename_all.Given as goal

-- the marks below the fault are renamed
abbrev pub invariant-loop-state : goal.invariant-loop-state
invariant-loop-state l = record {
  marks : map mark_of l.states ≡ map (renamed l.into l.gone) (take l.state-index (map mark_of l.initial.states)) ++ drop l.state-index (map mark_of l.initial.states);
  flags : map taken_of l.states ≡ map taken_of l.initial.states;
}

-- What the loop of `walk_gates` keeps.
use Rattle.std.proofs.Common.{◌≡◌, ◌+◌, length, take, drop}
use Rattle.signal.specs.Walks.{walked}
use Rattle.signal.proofs.walk.walk_gates.Given as goal

-- the walk from gate i on, over the entries before its net, is the whole walk; the entries from that net on are as they were
abbrev pub invariant-loop-i : goal.invariant-loop-i
invariant-loop-i g l =
    let o = g.S.Signal.operations in
    let j = l.start + l.i in
    let from-here = walked o l.stuck j (take j l.nets) (drop l.i l.gate-items) in
    let whole = walked o l.stuck l.start (take l.start l.initial.nets) l.gate-items in
    (length l.nets ≡ length l.initial.nets) × (from-here ≡ whole) × (drop j l.nets ≡ drop j l.initial.nets)

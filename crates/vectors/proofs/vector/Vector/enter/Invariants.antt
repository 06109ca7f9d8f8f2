-- The cells of the inputs below j are entered.
use Rattle.std.proofs.Common.{◌≡◌, take}
use Rattle.vectors.specs.Vectors.{start}
use Rattle.vectors.specs.Views.{cells_of}
use Rattle.vectors.proofs.vector.Vector.enter.Given as goal

abbrev pub invariant-loop-j : goal.invariant-loop-j
invariant-loop-j l = take l.j l.net-items ≡ start l.j (cells_of l.self)

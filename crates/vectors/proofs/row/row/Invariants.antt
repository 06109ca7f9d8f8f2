-- The characters below j are read into a vector in form that prints as them, and the rest decides whether the bytes are a row.
use Rattle.std.proofs.Common.{◌≡◌, take, drop}
use Rattle.vectors.specs.Rows.{all_characters, printed}
use Rattle.vectors.specs.Vectors.{holding, InForm}
use Rattle.vectors.proofs.row.row.Given as goal

abbrev pub invariant-loop-j : goal.invariant-loop-j
invariant-loop-j l =
    InForm l.j (holding l.care l.value)
    × (printed l.j (holding l.care l.value) ≡ take l.j l.bytes)
    × (all_characters (drop l.j l.bytes) ≡ all_characters l.bytes)

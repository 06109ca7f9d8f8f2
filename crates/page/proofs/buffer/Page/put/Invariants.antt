-- The bytes before this one are put.
use Rattle.std.proofs.Common.{◌≡◌, take}
use Rattle.page.specs.Pages.{putting}
use Rattle.page.specs.Views.{filled_of}
use Rattle.page.proofs.buffer.Page.put.Given as goal

abbrev pub invariant-loop-byte : goal.invariant-loop-byte
invariant-loop-byte l = filled_of l.self ≡ putting (take l.byte-index l.bytes) (filled_of l.initial.self)

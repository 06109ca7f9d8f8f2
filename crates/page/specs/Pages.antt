-- A page as plain things: which buffer was lent to it, the text so far, the bytes of the buffer behind it, and whether nothing was cut off.
-- Text is put behind the text so far and takes the place of the bytes there, as far as there is room; the page keeps its buffer.
use Rattle.std.specs.Borrow.{GName}
use Rattle.std.specs.Prelude.{ℕ, Bool, true, ◌&&◌, List, [], ◌++◌, length, take, drop, nat_le}

pub record Filled : Type 0 where
  pub lent : GName
  pub text : List ℕ
  pub behind : List ℕ
  pub whole : Bool

-- a page that was just opened over a buffer
abbrev pub fresh : GName → List ℕ → Filled
fresh lent buffer = record { lent = lent; text = []; behind = buffer; whole = true }

-- more text is put on a page
unfoldable pub putting : List ℕ → Filled → Filled
putting more p = record { lent = p.lent; text = p.text ++ take (length p.behind) more; behind = drop (length more) p.behind; whole = p.whole && nat_le (length more) (length p.behind) }

-- a buffer with a text at its start: the text is cut off where the buffer ends, and the bytes behind it stay
abbrev pub written : List ℕ → List ℕ → List ℕ
written text buffer = take (length buffer) text ++ drop (length text) buffer

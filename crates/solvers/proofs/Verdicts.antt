-- The promises of a solver from the answer of its definition; and what is known where a result is told by `is_err`.
use Rattle.std.proofs.Common.{◌≡◌, ℕ, Bool, true, false, Ok, Err, OnOk, OnErr, is_err, Result, sym, ◌∙◌}
use mathlib.Core.Bool.{false≢true}
use Rattle.solving.specs.Models.{Model}
use Rattle.solving.specs.Answers.{Answers}
use Rattle.solving.specs.Trials.{Answer, told, after}
use Rattle.solving.specs.declared.verdict.Solved.{Solved}

-- the promises, from an answer that is the definition's
pub answers_as : (m n : Model) (budget : ℕ) (r : Solved) (answer : Answer) → r ≡ told answer → n ≡ after m answer → Answers m budget (told answer) (after m answer) → Answers m budget r n
answers_as m n budget r answer p q h = rw (p, q) h

pub holds_of_err : {T E P : Type 0} (r : Result T E) (b : Bool) → b ≡ is_err r → b ≡ true → OnErr r P → P
holds_of_err (Ok x) b e t h = absurd (false≢true (sym e ∙ t))
holds_of_err (Err x) b e t h = h

pub holds_of_ok : {T E P : Type 0} (r : Result T E) (b : Bool) → b ≡ is_err r → b ≡ false → OnOk r P → P
holds_of_ok (Ok x) b e t h = h
holds_of_ok (Err x) b e t h = absurd (false≢true (sym t ∙ e))

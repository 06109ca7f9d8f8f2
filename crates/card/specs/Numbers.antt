-- What a number says of a function: it is one function's, or no function's.
use Rattle.std.specs.Prelude.{◌≡◌, ℕ, ◌<◌, Result, MatchResult}
use Rattle.card.specs.declared.function.Function.{Function}
use Rattle.card.specs.declared.function.UnknownFunction.{UnknownFunction}
use Rattle.card.specs.Functions.{function_number}

abbrev pub Numbers : ℕ → Result Function UnknownFunction → Type 0
Numbers n r = MatchResult r (λ f. function_number f ≡ n) (λ e. (e.0 ≡ n) × (9 < n))

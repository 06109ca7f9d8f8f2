-- A list of bits as a number: bit j of the number is entry j of the list.
use Rattle.std.specs.Prelude.{ℕ, ◌+◌, ◌*◌, Bool, cond, List, [], ◌∷◌}

abbrev pub weighed : List Bool → ℕ
weighed [] = 0
weighed (b ∷ bits) = cond b 1 0 + 2 * weighed bits

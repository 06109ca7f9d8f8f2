-- Whether a number stands in a list, as the library asks it.
use Rattle.std.proofs.Common.{◌≡◌, ℕ, eqb, List, [], ◌∷◌, refl, arith}
use Rattle.std.specs.List.{list_any}
use Rattle.reading.specs.Commands.{stands}

pub any_stands : (n : ℕ) (xs : List ℕ) → list_any (λ y. eqb y n) xs ≡ stands n xs
any_stands n [] = refl
any_stands n (x ∷ xs) = let e = any_stands n xs in let s : eqb x n ≡ eqb n x = grind arith in cc

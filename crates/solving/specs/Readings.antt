-- A reading gives each variable a bit. It satisfies a clause if it makes some literal of it true; an empty clause is false.
-- A reading has a bit for each variable of the clauses that it is asked about; a variable past its end would count as 0.
use Rattle.std.specs.Prelude.{◌≡◌, Bool, true, false, ◌&&◌, ◌||◌, List, [], ◌∷◌, ℤ, slice_index_or}
use Rattle.std.specs.Bool.{beq}
use Rattle.solving.specs.Literals.{place, wants}

abbrev pub holds : List Bool → List ℤ → Bool
holds r [] = false
holds r (l ∷ ls) = beq (slice_index_or r (place l) false) (wants l) || holds r ls

abbrev pub satisfies : List Bool → List (List ℤ) → Bool
satisfies r [] = true
satisfies r (c ∷ cs) = holds r c && satisfies r cs

abbrev pub Satisfies : List Bool → List (List ℤ) → Type 0
Satisfies r cs = satisfies r cs ≡ true

-- The formula of two bits that differ, and a solver's model that holds it; and the bits of both variables in what a solver reads.
use Rattle.std.specs.Prelude.{Bool, false, List, [], ◌∷◌, pos, negsuc, Some, None, Option, slice_index_or}
use Rattle.solving.specs.Models.{Model, begun, longer}

abbrev pub differing : Model
differing = longer (longer (begun 2 2) (pos 1 ∷ pos 2 ∷ [])) (negsuc 0 ∷ negsuc 1 ∷ [])

-- both bits, if there is a reading
abbrev pub bits_in : Option (List Bool) → Option (Bool × Bool)
bits_in None = None
bits_in (Some bits) = Some (slice_index_or bits 0 false, slice_index_or bits 1 false)

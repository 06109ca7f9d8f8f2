-- The ten functions of a gate: the number that a command's last digit gives, and the pins that each reads.
use Rattle.std.specs.Prelude.{ℕ, List, [], ◌∷◌, slice_index_or}
use Rattle.card.specs.declared.function.Function.{Function}
use Rattle.card.specs.declared.function.Function.TheVariants.{Ida, And2, Or2, Xor2, Inva, Nand2, Nor2, Xnor2, Zero, One}

abbrev pub function_number : Function → ℕ
function_number Ida = 0
function_number And2 = 1
function_number Or2 = 2
function_number Xor2 = 3
function_number Inva = 4
function_number Nand2 = 5
function_number Nor2 = 6
function_number Xnor2 = 7
function_number Zero = 8
function_number One = 9

-- the functions in the order of their numbers
abbrev pub functions : List Function
functions = Ida ∷ And2 ∷ Or2 ∷ Xor2 ∷ Inva ∷ Nand2 ∷ Nor2 ∷ Xnor2 ∷ Zero ∷ One ∷ []

-- the function of a number below ten (it is asked of no other)
abbrev pub function_of : ℕ → Function
function_of d = slice_index_or functions d One

abbrev pub pin_count : Function → ℕ
pin_count Ida = 1
pin_count And2 = 2
pin_count Or2 = 2
pin_count Xor2 = 2
pin_count Inva = 1
pin_count Nand2 = 2
pin_count Nor2 = 2
pin_count Xnor2 = 2
pin_count Zero = 0
pin_count One = 0

-- The outputs of a card, each of which is a net.
-- Whoever reads an output after a walk needs `output_below` for the index and `output_read` for the value.
use Rattle.std.proofs.Common.{◌≡◌, ℕ, ◌<◌, List, length, get_or, take, sym, ap, ◌∙◌, get_or-take}
use Rattle.card.specs.Netlists.{Netlist, Lawful, nets}
use Rattle.card.proofs.Below.{below_at}

-- output i is a net
pub output_below : (c : Netlist) (i d : ℕ) → Lawful c → i < length c.outputs → get_or c.outputs i d < nets c
output_below c i d r h = below_at (nets c) c.outputs i d r.outputs_declared h

-- an entry of an array whose first n entries are known
pub entry_read : {S : Type 0} (n : ℕ) (xs values : List S) (i : ℕ) (d : S) → i < n → take n xs ≡ values → get_or xs i d ≡ get_or values i d
entry_read n xs values i d h e = sym (get_or-take n xs i d h) ∙ ap (λ ys. get_or ys i d) e

-- what an array whose first entries are the nets holds for output i
pub output_read : {S : Type 0} (c : Netlist) (xs values : List S) (i : ℕ) (d : S) → Lawful c → i < length c.outputs → take (nets c) xs ≡ values → get_or xs (get_or c.outputs i 0) d ≡ get_or values (get_or c.outputs i 0) d
output_read c xs values i d r h e = entry_read (nets c) xs values (get_or c.outputs i 0) d (output_below c i 0 r h) e

use Rattle.std.proofs.Common.{◌≡◌, ℕ, ◌<◌, true, false, length, get_or, Some, None, rules}
use Rattle.std.specs.Prelude.{is_none}
use Rattle.std.proofs.iter.runs.Made.{chains}
use Rattle.solvers.proofs.Opened.{first_open}
use Rattle.solvers.proofs.turn.lowest_open.Goals as goal

pub returns : goal.returns
returns c =
    let xs = c.args.values.now in
    let s : (i : ℕ) → c.position.result ≡ Some i → (i < length xs) × (is_none (get_or xs i None) ≡ true) × ((k : ℕ) → k < i → is_none (get_or xs k None) ≡ false) = search (rules, chains) in
    let n : c.position.result ≡ None → (k : ℕ) → k < length xs → is_none (get_or xs k None) ≡ false = search (rules, chains) in
    record { is_the_lowest = first_open xs c.position.result s n }

use Rattle.std.proofs.Common.{◌≡◌, ℕ, ◌<◌, true, false, length, get_or, pos, refl, rules}
use Rattle.std.proofs.iter.runs.Made.{chains}
use Rattle.std.proofs.lemmas.List.Recursion.{and_is}
use Rattle.solving.specs.Literals.{in_range, all_in_range}
use Rattle.solvers.proofs.append.all_in_range.Goals as goal

pub returns : goal.returns
returns c =
    let v = c.args.variables in
    let xs = c.args.clause.now in
    let t : c.all.result ≡ true → (i : ℕ) → i < length xs → in_range v (get_or xs i (pos 0)) ≡ true = search (rules, chains) in
    let f : c.all.result ≡ false → (i : ℕ) × (i < length xs) × (in_range v (get_or xs i (pos 0)) ≡ false) = search (rules, chains) in
    record { tells_literals_in_range = and_is (all_in_range v) (in_range v) refl (λ _ _. refl) xs (pos 0) c.all.result t f }

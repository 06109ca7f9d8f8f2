-- The number of every refusal that a request can meet.
-- It is the number of the job's own refusal; a request for a ticket that the wallet does not hold is no refusal and has none.
use Rattle.std.specs.Prelude.{ℕ}
use Rattle.history.specs.Refusals.{add_number, close_number, merge_number, search_number, take_number, vector_number}
use Rattle.requests.specs.declared.refusal.Refusal.{Refusal}
use Rattle.requests.specs.declared.refusal.Refusal.TheVariants.{Take, Search, Close, Sweep, Add, Merge}

abbrev pub refusal_number : Refusal → ℕ
refusal_number (Take e) = take_number e
refusal_number (Search e) = search_number e
refusal_number (Close e) = close_number e
refusal_number (Sweep e) = vector_number e
refusal_number (Add e) = add_number e
refusal_number (Merge e) = merge_number e

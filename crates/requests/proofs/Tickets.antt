-- The tickets of a wallet and what a history knows of them change alike.
use Rattle.std.proofs.Common.{◌≡◌, ℕ, zero, suc, ◌<◌, List, [], ◌∷◌, ◌++◌, map, length, get_or, take, drop, set, sym, refl, ap, ◌∙◌, arith}
use lib.ListN.{length-map, get_or-map}
use Rattle.std.specs.List.{insert, remove}
use Rattle.std.proofs.lemmas.List.{drop_at, get_or_default, length-take-le, map-append, set-get_or, set_split, take_at}
use Rattle.history.specs.Steps.{KnownTicket}
use Rattle.job.specs.declared.ticket.Ticket.{Ticket}
use Rattle.requests.specs.Serving.{Known, at, mine}

abbrev fault_known : KnownTicket → ℕ
fault_known k = k.fault

abbrev fault_of : Ticket → ℕ
fault_of t = t.fault

pub known_long : (ks : List KnownTicket) (ts : List Ticket) → Known ks ts → length ks ≡ length ts
known_long ks ts e = sym (length-map ks fault_known) ∙ ap length e ∙ length-map ts fault_of

-- the ticket at a place is known by its fault
pub known_at : (ks : List KnownTicket) (ts : List Ticket) (i : ℕ) (t : Ticket) → Known ks ts → i < length ts → t ≡ get_or ts i t → (at ks i).fault ≡ t.fault
known_at ks ts i t e lt is =
    let zeroth : Ticket = record { fault = 0 } in
    let same : get_or ts i t ≡ get_or ts i zeroth = get_or_default ts i t zeroth lt in
    sym (get_or-map fault_known ks i (mine 0)) ∙ ap (λ (xs : List ℕ). get_or xs i 0) e ∙ get_or-map fault_of ts i zeroth ∙ ap fault_of (sym (is ∙ same))

pub known_push : (ks : List KnownTicket) (ts : List Ticket) (k : KnownTicket) (t : Ticket) → Known ks ts → k.fault ≡ t.fault → Known (ks ++ (k ∷ [])) (ts ++ (t ∷ []))
known_push ks ts k t e f =
    map-append fault_known ks (k ∷ []) ∙ ap (λ (xs : List ℕ). xs ++ (k.fault ∷ [])) e ∙ ap (λ (n : ℕ). map fault_of ts ++ (n ∷ [])) f ∙ sym (map-append fault_of ts (t ∷ []))

map_removed : {X : Type 0} (g : X → ℕ) (xs : List X) (i : ℕ) → map g (remove xs i) ≡ remove (map g xs) i
map_removed g [] zero = refl
map_removed g [] (suc i) = refl
map_removed g (x ∷ xs) zero = refl
map_removed g (x ∷ xs) (suc i) = ap (λ (ys : List ℕ). g x ∷ ys) (map_removed g xs i)

pub known_removed : (ks : List KnownTicket) (ts : List Ticket) (i : ℕ) → Known ks ts → Known (remove ks i) (remove ts i)
known_removed ks ts i e = map_removed fault_known ks i ∙ ap (λ (xs : List ℕ). remove xs i) e ∙ sym (map_removed fault_of ts i)

-- what is removed and put back stands where it stood
pub put_back : {X : Type 0} (xs : List X) (i : ℕ) (x : X) → i < length xs → x ≡ get_or xs i x → insert (remove xs i) i x ≡ xs
put_back {X} xs i x lt is =
    let front : length (take i xs) ≡ i = length-take-le i xs (omega arith) in
    let a : take i (remove xs i) ≡ take i xs = take_at (take i xs) (drop (suc i) xs) i front in
    let b : drop i (remove xs i) ≡ drop (suc i) xs = drop_at (take i xs) (drop (suc i) xs) i front in
    ap (λ (ys : List X). ys ++ (x ∷ drop i (remove xs i))) a ∙ ap (λ (ys : List X). take i xs ++ (x ∷ ys)) b
    ∙ sym (set_split xs i x lt) ∙ ap (set xs i) is ∙ set-get_or xs i x

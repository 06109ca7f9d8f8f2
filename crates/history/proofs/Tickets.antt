-- Takes, closes and tickets are counted right along every history.
use Rattle.std.proofs.Common.{◌≡◌, ℕ, zero, suc, ◌+◌, ◌<◌, ◌≤◌, Bool, true, false, cond, ◌&&◌, eqb, List, [], ◌∷◌, length, get_or, set, replicate, Ok, count_by, sym, refl, ap, ◌∙◌, subst, ⊎_elim, arith, length-set, get_or-set_other, get_or-set_same}
use lib.ListN.{length-replicate}
use Rattle.std.proofs.lemmas.List.{get_or_past}
use Rattle.std.proofs.lemmas.List.Sums.{sum_by-cons, sum_by-set}
use Rattle.std.proofs.lemmas.Bool.{cases_eq, cases_lt, eq-eqb, false≢true, ne_eqb}
use Rattle.card.specs.Netlists.{Netlist}
use Rattle.faults.specs.Sites.{fault_count}
use Rattle.history.specs.Histories.{History, OnlyOwn, gives, grants_close, grants_take, spends}
use Rattle.history.specs.Steps.{Event, KnownTicket, closed, took}

abbrev bit : Bool → ℕ
bit b = cond b 1 0

pub record Tickets (c : Netlist) (h : History) (ts : List Bool) : Type 0 where
  pub all_noted : length ts ≡ fault_count c
  pub total : count_by (λ b. b) ts + count_by grants_close h ≡ count_by grants_take h
  pub each : OnlyOwn h → (f : ℕ) → count_by (gives f) h ≡ count_by (spends f) h + bit (get_or ts f false)

pub count_cons : {X : Type 0} (p : X → Bool) (x : X) (xs : List X) → count_by p (x ∷ xs) ≡ bit (p x) + count_by p xs
count_cons p x xs = sum_by-cons (λ y. cond (p y) 1 0) x xs

none_true : (n : ℕ) → count_by (λ b. b) (replicate n false) ≡ 0
none_true zero = refl
none_true (suc n) = count_cons (λ b. b) false (replicate n false) ∙ omega (arith, none_true n)

pub get_d_new : {X : Type 0} (n i : ℕ) (x : X) → get_or (replicate n x) i x ≡ x
get_d_new zero i x = refl
get_d_new (suc n) zero x = refl
get_d_new (suc n) (suc i) x = get_d_new n i x

pub tickets_none : (c : Netlist) → Tickets c [] (replicate (fault_count c) false)
tickets_none c = record {
  all_noted = length-replicate (fault_count c) false;
  total = omega (arith, none_true (fault_count c));
  each = λ _ f. let z : bit (get_or (replicate (fault_count c) false) f false) ≡ 0 = ap bit (get_d_new (fault_count c) f false) in omega (arith, z);
}

-- what is taken is a fault
pub taken_within : (ts : List Bool) (f : ℕ) → get_or ts f false ≡ true → f < length ts
taken_within ts f t = ⊎_elim (λ h. h) (λ (h : length ts ≤ f). absurd (false≢true (sym (get_or_past ts f false h) ∙ t))) (cases_lt f (length ts))

-- a call that gives and spends no ticket
abbrev pub Silent : Event → Type 0
Silent e = (grants_take e ≡ false) × (grants_close e ≡ false) × ((f : ℕ) → gives f e ≡ false) × ((f : ℕ) → spends f e ≡ false)

pub tickets_still : (c : Netlist) (h : History) (ts : List Bool) (e : Event) → Silent e → Tickets c h ts → Tickets c (e ∷ h) ts
tickets_still c h ts e (no-take, no-close, no-give, no-spend) s = record {
  all_noted = s.all_noted;
  total = omega (arith, s.total, count_cons grants_close e h ∙ ap (λ (b : Bool). bit b + count_by grants_close h) no-close, count_cons grants_take e h ∙ ap (λ (b : Bool). bit b + count_by grants_take h) no-take);
  each = λ o f. omega (arith, s.each o.1 f, count_cons (gives f) e h ∙ ap (λ (b : Bool). bit b + count_by (gives f) h) (no-give f), count_cons (spends f) e h ∙ ap (λ (b : Bool). bit b + count_by (spends f) h) (no-spend f));
}

module _ (ts : List Bool) (f : ℕ) (b : Bool) (fits : f < length ts) where
  -- the flag of the fault, and of any other
  set_here : (g : ℕ) → f ≡ g → bit (get_or (set ts f b) g false) ≡ bit b
  set_here g e = ap bit (subst (λ (k : ℕ). get_or (set ts f b) k false ≡ b) e (get_or-set_same ts f b false fits))

  set_there : (g : ℕ) → (f ≡ g → ⊥) → bit (get_or (set ts f b) g false) ≡ bit (get_or ts g false)
  set_there g ne = ap bit (get_or-set_other ts f g b false (λ k. ne (sym k)))

pub tickets_took : (c : Netlist) (h : History) (ts : List Bool) (f : ℕ) (u : Unit {0}) → f < fault_count c → get_or ts f false ≡ false → Tickets c h ts → Tickets c (took f (Ok u) ∷ h) (set ts f true)
tickets_took c h ts f u lt free s =
    let e : Event = took f (Ok u) in
    let fits : f < length ts = omega (arith, s.all_noted, lt) in
    let was : bit (get_or ts f false) ≡ 0 = ap bit free in
    record {
      all_noted = length-set ts f true ∙ s.all_noted;
      total = omega (arith, s.total, sum_by-set bit ts f true false fits, was, count_cons grants_close e h, count_cons grants_take e h);
      each = λ o g.
          ⊎_elim
          (λ (q : f ≡ g).
          let t : bit (eqb f g) ≡ 1 = ap bit (eq-eqb f g q) in
          let w : bit (get_or ts g false) ≡ 0 = subst (λ (k : ℕ). bit (get_or ts k false) ≡ 0) q was in
          omega (arith, s.each o.1 g, count_cons (spends g) e h, count_cons (gives g) e h, t, set_here ts f true fits g q, w))
          (λ (q : f ≡ g → ⊥).
          let t : bit (eqb f g) ≡ 0 = ap bit (ne_eqb f g q) in
          omega (arith, s.each o.1 g, count_cons (spends g) e h, count_cons (gives g) e h, t, set_there ts f true fits g q))
          (cases_eq f g);
    }

pub tickets_closed : (c : Netlist) (h : History) (ts : List Bool) (t : KnownTicket) (u : Unit {0}) → get_or ts t.fault false ≡ true → Tickets c h ts → Tickets c (closed t (Ok u) ∷ h) (set ts t.fault false)
tickets_closed c h ts t u held s =
    let e : Event = closed t (Ok u) in
    let f : ℕ = t.fault in
    let fits : f < length ts = taken_within ts f held in
    let was : bit (get_or ts f false) ≡ 1 = ap bit held in
    record {
      all_noted = length-set ts f false ∙ s.all_noted;
      total = omega (arith, s.total, sum_by-set bit ts f false false fits, was, count_cons grants_close e h, count_cons grants_take e h);
      each = λ o g.
          let mine : (t.own && eqb f g) ≡ eqb f g = ap (λ (b : Bool). b && eqb f g) o.0 in
          ⊎_elim
          (λ (q : f ≡ g).
          let k : bit (t.own && eqb f g) ≡ 1 = ap bit (mine ∙ eq-eqb f g q) in
          let w : bit (get_or ts g false) ≡ 1 = subst (λ (n : ℕ). bit (get_or ts n false) ≡ 1) q was in
          omega (arith, s.each o.1 g, count_cons (spends g) e h, count_cons (gives g) e h, k, set_here ts f false fits g q, w))
          (λ (q : f ≡ g → ⊥).
          let k : bit (t.own && eqb f g) ≡ 0 = ap bit (mine ∙ ne_eqb f g q) in
          omega (arith, s.each o.1 g, count_cons (spends g) e h, count_cons (gives g) e h, k, set_there ts f false fits g q))
          (cases_eq f g);
    }

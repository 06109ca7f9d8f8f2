-- A led formula is settled within 2^(k+1) - 2 steps.
use Rattle.std.proofs.Common.{◌≡◌, ℕ, zero, suc, ◌+◌, ◌-◌, ◌^◌, ◌<◌, ◌≤◌, Bool, true, false, not, ltb, ◌⊎◌, List, [], ◌∷◌, ◌++◌, length, get_or, take, set, replicate, ℤ, Some, None, Option, sym, refl, ap, ◌∙◌, inl, inr, true≢false, le_of_suc-le-suc, not-suc-le-zero, pow-suc, add-one, arith, length-append, length-set, ltb-false}
use native.Mathlib.Decide.{dec_lt}
use lib.ListN.{length-map, length-replicate}
use Rattle.solving.specs.Settings.{Setting, at, Within, full, reading_of, open_in}
use Rattle.solving.specs.Closing.{closure, violated}
use Rattle.solving.specs.Leading.{leads, Led}
use Rattle.solving.specs.Trials.{Answer, found, none, undecided, while, step, or_else}
use Rattle.solving.specs.Backtracking.{Rule, Choice, unless_broken, chosen, both, descend, lowest_open, to_zero, later}
use Rattle.solving.specs.SearchLaws.{Picks, Leads, Decided, Lowest, Settled}
use Rattle.solving.proofs.Places.{none_some, some_inj, open_falls, open_inside, open_le, open_some}
use Rattle.solving.proofs.Closed.{Closed, violated_kept}
use Rattle.solving.proofs.Closures.{closure_within, closure_grows, closure_length, closed_closure}

-- the lowest open variable
later_none : (o : Option ℕ) → later o ≡ None → o ≡ None
later_none None e = refl
later_none (Some j) e = absurd (cc)

none_open : (a : Setting) → lowest_open a ≡ None → open_in (length a) a ≡ 0
none_open [] e = refl
none_open (None ∷ a) e = absurd (cc)
none_open (Some b ∷ a) e = let h = none_open a (later_none (lowest_open a) e) in omega arith

later_some : (o : Option ℕ) (j : ℕ) → later o ≡ Some j → (i : ℕ) × (o ≡ Some i) × (j ≡ suc i)
later_some None j e = absurd (none_some e)
later_some (Some i) j e = (i, refl, sym (some_inj e))

lowest_open_lem : (a : Setting) (j : ℕ) → lowest_open a ≡ Some j → at a j ≡ None
lowest_open_lem [] j e = absurd (none_some e)
lowest_open_lem (None ∷ a) j e = rw (sym (some_inj e))
lowest_open_lem (Some b ∷ a) j e = let h = later_some (lowest_open a) j e in rw h.2 (lowest_open_lem a h.0 h.1)

lowest_leads : (a : Setting) (j k : ℕ) → lowest_open a ≡ Some j → k ≤ j → open_in k a ≡ 0
lowest_leads a j zero e h = refl
lowest_leads [] j (suc k) e h = refl
lowest_leads (None ∷ a) j (suc k) e h = let z : 0 ≡ j = some_inj e in absurd (omega arith)
lowest_leads (Some b ∷ a) j (suc k) e h =
    let i = later_some (lowest_open a) j e in
    let r = lowest_leads a i.0 k i.1 (omega (arith, i.2)) in
    omega arith

to_zero_none : (o : Option ℕ) → to_zero o ≡ None → o ≡ None
to_zero_none None e = refl
to_zero_none (Some j) e = absurd (cc)

to_zero_some : (o : Option ℕ) (c : Choice) → to_zero o ≡ Some c → o ≡ Some c.var
to_zero_some None c e = absurd (none_some e)
to_zero_some (Some j) c e = ap (λ (c : Choice). Some c.var) (some_inj e)

pub lowest_law : Lowest
lowest_law = (
  record { ends = λ a e. none_open a (to_zero_none (lowest_open a) e); opens = λ a c e. lowest_open_lem a c.var (to_zero_some (lowest_open a) c e) },
  λ k a c e h. lowest_leads a c.var k (to_zero_some (lowest_open a) c e) h,
)

-- what o open leading variables cost
unfoldable pub cost : ℕ → ℕ
cost zero = 0
cost (suc o) = 2 + cost o + cost o

pub cost_power : (o : ℕ) → cost o + 2 ≡ 2 ^ suc o
unfolding cost
cost_power zero = refl
cost_power (suc o) = let h = cost_power o in rw pow-suc (omega arith)

cost_mono : (o p : ℕ) → o ≤ p → cost o ≤ cost p
unfolding cost
cost_mono zero p h = omega arith
cost_mono (suc o) zero h = absurd (not-suc-le-zero h)
cost_mono (suc o) (suc p) h = let i = cost_mono o p (le_of_suc-le-suc h) in omega arith

cost_suc : (o p : ℕ) → suc o ≤ p → 2 + cost o + cost o ≤ cost p
unfolding cost
cost_suc o p h = cost_mono (suc o) p h

-- the leading bits of a setting with none of them open lie within it
pub open_within : (m : ℕ) (b : Setting) → m ≡ length b → Within (replicate m None) b
open_within zero [] l j x e = e
open_within zero (y ∷ b) l j x e = absurd (omega arith)
open_within (suc m) [] l j x e = absurd (omega arith)
open_within (suc m) (y ∷ b) l zero x e = absurd (none_some e)
open_within (suc m) (y ∷ b) l (suc j) x e = open_within m b (omega arith) j x e

cons_within : (y : Bool) (a b : Setting) → Within a b → Within (Some y ∷ a) (Some y ∷ b)
cons_within y a b w zero x e = e
cons_within y a b w (suc j) x e = w j x e

pub leads_within : (k m : ℕ) (b : Setting) → m + k ≡ length b → open_in k b ≡ 0 → Within (full (reading_of (take k b)) ++ replicate m None) b
leads_within zero m b l z = open_within m b (omega arith)
leads_within (suc k) m [] l z = absurd (omega arith)
leads_within (suc k) m (None ∷ b) l z = absurd (omega arith)
leads_within (suc k) m (Some y ∷ b) l z = cons_within y (full (reading_of (take k b)) ++ replicate m None) b (leads_within k m b (omega arith) (omega arith))

pub lead_length : (k : ℕ) (b : Setting) → k ≤ length b → length (reading_of (take k b)) ≡ k
lead_length zero b h = refl
lead_length (suc k) [] h = absurd (not-suc-le-zero h)
lead_length (suc k) (x ∷ b) h = ap suc (lead_length k b (le_of_suc-le-suc h))

pub leads_length : (v : ℕ) (bs : List Bool) → length bs ≤ v → length (leads v bs) ≡ v
leads_length v bs h = simp (length-append, length-map, length-replicate) (omega arith)

-- where no leading variable is open, a led formula's closed setting has nothing open
pub led_whole : (cs : List (List ℤ)) (v k : ℕ) (b : Setting) → Led cs v k → k ≤ v → length b ≡ v → Closed cs b → open_in k b ≡ 0 → open_in v b ≡ 0
led_whole cs v k b led kv lb cl z = go (led bs e) where
  bs : List Bool
  bs = reading_of (take k b)

  e : length bs ≡ k
  e = lead_length k b (omega arith)

  w : Within (leads v bs) b
  w = rw e (leads_within k (v - k) b (omega arith) z)

  c : Within (closure cs (leads v bs)) b
  c = closure_within cs (leads v bs) b w cl

  l : length (closure cs (leads v bs)) ≡ length b
  l = closure_length cs (leads v bs) ∙ leads_length v bs (omega (arith, e)) ∙ sym lb

  go : (violated (closure cs (leads v bs)) cs ≡ true) ⊎ (open_in v (closure cs (leads v bs)) ≡ 0) → open_in v b ≡ 0
  go (inl h) = absurd (true≢false (sym (violated_kept (closure cs (leads v bs)) b cs c h) ∙ cl.whole))
  go (inr h) = let q = open_le v (closure cs (leads v bs)) b l c in omega arith

pub decided_step : (limit budget s : ℕ) (k : ℕ → Answer) → s < budget → Decided limit (k (suc s)) → Decided limit (step budget s k)
decided_step limit budget s k h d = go (ltb s budget) refl where
  go : (x : Bool) → ltb s budget ≡ x → Decided limit (while x s k)
  go true e = d
  go false e = let g = ltb-false s budget e in absurd (omega arith)

pub decided_weaker : (limit more : ℕ) → limit ≤ more → (ans : Answer) → Decided limit ans → Decided more ans
decided_weaker limit more h (found b t) d = omega arith
decided_weaker limit more h (none t) d = omega arith
decided_weaker limit more h (undecided t) d = d

pub decided_or_else : (first limit : ℕ) → first ≤ limit → (ans : Answer) (k : ℕ → Answer) → Decided first ans → ((t : ℕ) → t ≤ first → Decided limit (k t)) → Decided limit (or_else ans k)
decided_or_else first limit h (found b t) k d f = omega arith
decided_or_else first limit h (none t) k d f = f t d
decided_or_else first limit h (undecided t) k d f = d

module _ (rule : Rule) (cs : List (List ℤ)) (budget v k : ℕ) (law : Picks rule) (lead : Leads rule k) (led : Led cs v k) (kv : k ≤ v) where
  decided_broken : (limit s : ℕ) (rest : Unit {0} → Answer) (x : Bool) → s ≤ limit → (x ≡ false → Decided limit (rest tt)) → Decided limit (unless_broken x s rest)
  decided_broken limit s rest true h d = h
  decided_broken limit s rest false h d = d refl

  decided_chosen : (deeper : Setting → ℕ → Answer) (b : Setting) (s limit : ℕ) → length b ≡ v → Closed cs b → s + cost (open_in k b) ≤ limit → limit ≤ budget
      → ((j : ℕ) (x : Bool) (t : ℕ) → at b j ≡ None → t + cost (open_in k (set b j (Some x))) ≤ budget → Decided (t + cost (open_in k (set b j (Some x)))) (deeper (set b j (Some x)) t))
      → (o : Option Choice) → rule b ≡ o → Decided limit (chosen o b s (both budget deeper b s))
  decided_chosen deeper b s limit lb cl h hb rest None p = omega arith
  decided_chosen deeper b s limit lb cl h hb rest (Some c) p = go (dec_lt c.var k) where
    o : at b c.var ≡ None
    o = law.opens b c p

    go : Dec (c.var < k) → Decided limit (both budget deeper b s c)
    go (yes lt) =
        let j = c.var in
        let f0 = open_falls b k j c.bit o lt in
        let f1 = open_falls b k j (not c.bit) o lt in
        let e : open_in k (set b j (Some c.bit)) ≡ open_in k (set b j (Some (not c.bit))) = omega arith in
        let ce = ap cost e in
        let m = cost_suc (open_in k (set b j (Some c.bit))) (open_in k b) (omega arith) in
        decided_or_else (suc s + cost (open_in k (set b j (Some c.bit)))) limit (omega arith) (step budget s (deeper (set b j (Some c.bit)))) _
        (decided_step _ budget s _ (omega arith) (rest j c.bit (suc s) o (omega arith)))
        (λ t ht. decided_step limit budget t _ (omega arith) (decided_weaker (suc t + cost (open_in k (set b j (Some (not c.bit))))) limit (omega arith) _ (rest j (not c.bit) (suc t) o (omega arith))))
    go (no nlt) =
        let z = led_whole cs v k b led kv lb cl (lead b c p (omega arith)) in
        let q = open_some b v c.var o (omega (arith, open_inside b c.var o)) in
        absurd (omega arith)

  pub backtrack_decided : (n : ℕ) (a : Setting) (s : ℕ) → length a ≡ v → s + cost (open_in k a) ≤ budget → Decided (s + cost (open_in k a)) (descend rule cs budget n a s)
  unfolding descend
  backtrack_decided zero a s l h = decided_broken (s + cost (open_in k a)) s _ (violated (closure cs a) cs) (omega arith) (λ e. omega arith)
  backtrack_decided (suc n) a s l h =
      let b = closure cs a in
      let lb = closure_length cs a in
      let m = cost_mono (open_in k b) (open_in k a) (open_le k a b (sym lb) (closure_grows cs a)) in
      decided_broken (s + cost (open_in k a)) s _ (violated b cs) (omega arith)
      (λ e. decided_chosen (descend rule cs budget n) b s (s + cost (open_in k a)) (lb ∙ l) (closed_closure cs a e) (omega arith) h
      (λ j x t o g. backtrack_decided n (set b j (Some x)) t (length-set b j (Some x) ∙ lb ∙ l) g) (rule b) refl)

open_all : (k v : ℕ) → k ≤ v → open_in k (replicate v None) ≡ k
open_all zero v h = refl
open_all (suc k) zero h = absurd (not-suc-le-zero h)
open_all (suc k) (suc v) h = let e = open_all k v (le_of_suc-le-suc h) in omega arith

pub settled : Settled
settled rule cs budget v k law lead led kv h =
    let e = cost_power k in
    let f : cost k ≡ 2 ^ (k + 1) - 2 = rw add-one (omega arith) in
    let g = open_all k v kv in
    let c : cost (open_in k (replicate v None)) ≡ 2 ^ (k + 1) - 2 = ap cost g ∙ f in
    let a : Setting = replicate v None in
    decided_weaker (0 + cost (open_in k a)) (2 ^ (k + 1) - 2) (omega arith) _ (backtrack_decided rule cs budget v k law lead led kv (open_in (length a) a) a 0 (length-replicate v None) (omega arith))

-- the lowest open variable, by places
pub lowest_at : (a : Setting) (j : ℕ) → ((k : ℕ) → k < j → get_or a k None ≡ None → ⊥) → get_or a j None ≡ None → j < length a → lowest_open a ≡ Some j
lowest_at [] j h e l = absurd (not-suc-le-zero l)
lowest_at (None ∷ a) zero h e l = refl
lowest_at (None ∷ a) (suc j) h e l = absurd (h zero (omega arith) refl)
lowest_at (Some b ∷ a) zero h e l = absurd (cc)
lowest_at (Some b ∷ a) (suc j) h e l = ap later (lowest_at a j (λ k i. h (suc k) (omega arith)) e (le_of_suc-le-suc l))

pub lowest_no : (a : Setting) (n : ℕ) → length a ≤ n → ((k : ℕ) → k < n → get_or a k None ≡ None → k < length a → ⊥) → lowest_open a ≡ None
lowest_no [] n l h = refl
lowest_no (None ∷ a) n l h = absurd (h zero (omega arith) refl (omega arith))
lowest_no (Some b ∷ a) zero l h = absurd (omega arith)
lowest_no (Some b ∷ a) (suc n) l h = ap later (lowest_no a n (omega arith) (λ k i e g. h (suc k) (omega arith) e (omega arith)))

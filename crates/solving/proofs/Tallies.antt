-- Counting: every leading setting is tried in its turn.
use Rattle.std.proofs.Common.{◌≡◌, ℕ, zero, suc, ◌+◌, ◌^◌, ◌≤◌, Bool, true, false, eqb, ltb, ◌⊎◌, List, [], ◌∷◌, ◌++◌, map, length, ℤ, sym, refl, ap, ◌∙◌, inl, inr, true≢false, pow-suc, arith, length-append, ltb-true, eqb-true}
use borrow.Author.Tests.{eqb-false}
use lib.ListN.{length-map}
use Rattle.solving.specs.Settings.{Setting, open_in}
use Rattle.solving.specs.Closing.{closure, violated}
use Rattle.solving.specs.Leading.{leads, Led}
use Rattle.solving.specs.Trials.{Answer, found, none, undecided, steps_of, while, step, or_else}
use Rattle.solving.specs.Counting.{settings, if_set, unless_violated, tried, try_each}
use Rattle.solving.proofs.Outcomes.{Read}
use Rattle.solving.specs.SearchLaws.{Decided}
use Rattle.solving.proofs.Closures.{closure_length, settles}
use Rattle.solving.proofs.Costs.{leads_length, decided_weaker, decided_step, decided_or_else}

pub data Among (x : List Bool) : List (List Bool) → Type 0 where
  here : {xs : List (List Bool)} → Among x (x ∷ xs)
  there : {y : List Bool} {xs : List (List Bool)} → Among x xs → Among x (y ∷ xs)

among_left : {x : List Bool} {xs : List (List Bool)} (ys : List (List Bool)) → Among x xs → Among x (xs ++ ys)
among_left ys here = here
among_left ys (there a) = there (among_left ys a)

among_right : {x : List Bool} (xs : List (List Bool)) {ys : List (List Bool)} → Among x ys → Among x (xs ++ ys)
among_right [] a = a
among_right (y ∷ xs) a = there (among_right xs a)

among_map : {x : List Bool} {xs : List (List Bool)} (f : List Bool → List Bool) → Among x xs → Among (f x) (map f xs)
among_map f here = here
among_map f (there a) = there (among_map f a)

pub among_settings : (bs : List Bool) → Among bs (settings (length bs))
unfolding settings
among_settings [] = here
among_settings (false ∷ bs) = among_left _ (among_map (λ (b : List Bool). false ∷ b) (among_settings bs))
among_settings (true ∷ bs) = among_right _ (among_map (λ (b : List Bool). true ∷ b) (among_settings bs))

abbrev pub AllLong : ℕ → List (List Bool) → Type 0
AllLong k [] = Unit {0}
AllLong k (bs ∷ bss) = (length bs ≡ k) × AllLong k bss

all_append : (k : ℕ) (xs ys : List (List Bool)) → AllLong k xs → AllLong k ys → AllLong k (xs ++ ys)
all_append k [] ys p q = q
all_append k (x ∷ xs) ys p q = (p.0, all_append k xs ys p.1 q)

all_map : (k : ℕ) (b : Bool) (xs : List (List Bool)) → AllLong k xs → AllLong (suc k) (map (λ bs. b ∷ bs) xs)
all_map k b [] p = tt
all_map k b (x ∷ xs) p = (ap suc p.0, all_map k b xs p.1)

pub settings_long : (k : ℕ) → AllLong k (settings k)
unfolding settings
settings_long zero = (refl, tt)
settings_long (suc k) = all_append (suc k) (map (λ bs. false ∷ bs) (settings k)) (map (λ bs. true ∷ bs) (settings k)) (all_map k false (settings k) (settings_long k)) (all_map k true (settings k) (settings_long k))

pub settings_length : (k : ℕ) → length (settings k) ≡ 2 ^ k
unfolding settings
settings_length zero = refl
settings_length (suc k) = let h = settings_length k in simp (length-append, length-map, pow-suc) (omega arith)

module _ (cs : List (List ℤ)) (v : ℕ) where
  -- what an answer over a list of settings says
  abbrev pub Tally : List (List Bool) → Answer → Type 0
  Tally bss (found b s) = Read cs v b
  Tally bss (none s) = (bs : List Bool) → Among bs bss → violated (closure cs (leads v bs)) cs ≡ true
  Tally bss (undecided s) = Unit {0}

  abbrev pub Tried : List Bool → Answer → Type 0
  Tried bs (found b s) = Read cs v b
  Tried bs (none s) = violated (closure cs (leads v bs)) cs ≡ true
  Tried bs (undecided s) = Unit {0}

  tried_says : (bs : List Bool) (s : ℕ) → length bs ≤ v → Tried bs (tried cs v bs s)
  tried_says bs s h = go (violated b cs) refl where
    b : Setting
    b = closure cs (leads v bs)

    l : length b ≡ v
    l = closure_length cs (leads v bs) ∙ leads_length v bs h

    set : (x : Bool) → eqb (open_in v b) 0 ≡ x → violated b cs ≡ false → Tried bs (if_set x b s)
    set true e w = let z = eqb-true (open_in v b) 0 e in record { long = l; set = z; holds = settles cs b w (rw l z) }
    set false e w = tt

    go : (x : Bool) → violated b cs ≡ x → Tried bs (unless_violated x v b s)
    go true e = e
    go false e = set (eqb (open_in v b) 0) refl e

  tried_step : (bs : List Bool) (x : Bool) (s : ℕ) → length bs ≤ v → Tried bs (while x s (tried cs v bs))
  tried_step bs true s h = tried_says bs (suc s) h
  tried_step bs false s h = tt

  cover : (bs : List Bool) (bss : List (List Bool)) → violated (closure cs (leads v bs)) cs ≡ true → ((x : List Bool) → Among x bss → violated (closure cs (leads v x)) cs ≡ true) → {x : List Bool} → Among x (bs ∷ bss) → violated (closure cs (leads v x)) cs ≡ true
  cover bs bss p q here = p
  cover bs bss p q {x} (there a) = q x a

  tally_second : (bs : List Bool) (bss : List (List Bool)) (ans : Answer) → violated (closure cs (leads v bs)) cs ≡ true → Tally bss ans → Tally (bs ∷ bss) ans
  tally_second bs bss (found b s) p t = t
  tally_second bs bss (none s) p t = λ x a. cover bs bss p t a
  tally_second bs bss (undecided s) p t = tt

  tally_or_else : (bs : List Bool) (bss : List (List Bool)) (ans : Answer) (k : ℕ → Answer) → Tried bs ans → ((t : ℕ) → Tally bss (k t)) → Tally (bs ∷ bss) (or_else ans k)
  tally_or_else bs bss (found b s) k p t = p
  tally_or_else bs bss (none s) k p t = tally_second bs bss (k s) p (t s)
  tally_or_else bs bss (undecided s) k p t = tt

  none_among : {bs : List Bool} → Among bs [] → violated (closure cs (leads v bs)) cs ≡ true
  none_among a = elim a [ ]

  pub tallied : (budget k : ℕ) → k ≤ v → (bss : List (List Bool)) (s : ℕ) → AllLong k bss → Tally bss (try_each cs v budget bss s)
  unfolding try_each
  tallied budget k kv [] s l = λ bs a. none_among a
  tallied budget k kv (bs ∷ bss) s l = tally_or_else bs bss (step budget s (tried cs v bs)) (try_each cs v budget bss) (tried_step bs (ltb s budget) s (omega (arith, l.0))) (λ t. tallied budget k kv bss t l.1)

  -- steps
  tried_steps : (bs : List Bool) (s : ℕ) → steps_of (tried cs v bs s) ≡ s
  tried_steps bs s = go (violated (closure cs (leads v bs)) cs) where
    set : (x : Bool) (b : Setting) → steps_of (if_set x b s) ≡ s
    set true b = refl
    set false b = refl

    go : (x : Bool) → steps_of (unless_violated x v (closure cs (leads v bs)) s) ≡ s
    go true = refl
    go false = set (eqb (open_in v (closure cs (leads v bs))) 0) (closure cs (leads v bs))

  steps_step : (bs : List Bool) (budget s : ℕ) → s ≤ budget → steps_of (step budget s (tried cs v bs)) ≤ budget
  steps_step bs budget s h = go (ltb s budget) refl where
    go : (x : Bool) → ltb s budget ≡ x → steps_of (while x s (tried cs v bs)) ≤ budget
    go true e = omega (arith, tried_steps bs (suc s), ltb-true s budget e)
    go false e = h

  steps_or_else : (budget : ℕ) (ans : Answer) (k : ℕ → Answer) → steps_of ans ≤ budget → ((t : ℕ) → t ≤ budget → steps_of (k t) ≤ budget) → steps_of (or_else ans k) ≤ budget
  steps_or_else budget (found b s) k h f = h
  steps_or_else budget (none s) k h f = f s h
  steps_or_else budget (undecided s) k h f = h

  pub each_steps : (budget : ℕ) (bss : List (List Bool)) (s : ℕ) → s ≤ budget → steps_of (try_each cs v budget bss s) ≤ budget
  unfolding try_each
  each_steps budget [] s h = h
  each_steps budget (bs ∷ bss) s h = steps_or_else budget (step budget s (tried cs v bs)) (try_each cs v budget bss) (steps_step bs budget s h) (each_steps budget bss)

  -- a led formula
  led_tried : (k : ℕ) (bs : List Bool) (s : ℕ) → Led cs v k → length bs ≡ k → Decided s (tried cs v bs s)
  led_tried k bs s led e = go (violated b cs) refl (led bs e) where
    b : Setting
    b = closure cs (leads v bs)

    set : (x : Bool) → eqb (open_in v b) 0 ≡ x → open_in v b ≡ 0 → Decided s (if_set x b s)
    set true f z = omega arith
    set false f z = absurd (eqb-false (open_in v b) 0 f z)

    go : (x : Bool) → violated b cs ≡ x → (violated b cs ≡ true) ⊎ (open_in v b ≡ 0) → Decided s (unless_violated x v b s)
    go true f d = omega arith
    go false f (inl h) = absurd (true≢false (sym h ∙ f))
    go false f (inr h) = set (eqb (open_in v b) 0) refl h

  pub each_decided : (k budget : ℕ) → Led cs v k → (bss : List (List Bool)) (s : ℕ) → AllLong k bss → s + length bss ≤ budget → Decided (s + length bss) (try_each cs v budget bss s)
  unfolding try_each
  each_decided k budget led [] s l h = omega arith
  each_decided k budget led (bs ∷ bss) s l h =
      decided_or_else (suc s) (s + length (bs ∷ bss)) (omega arith) (step budget s (tried cs v bs)) (try_each cs v budget bss)
      (decided_step (suc s) budget s (tried cs v bs) (omega arith) (led_tried k bs (suc s) led l.0))
      (λ t ht. decided_weaker (t + length bss) (s + length (bs ∷ bss)) (omega arith) _ (each_decided k budget led bss t l.1 (omega arith)))

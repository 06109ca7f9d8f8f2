-- Backtracking: found satisfies, none is none, the steps stay within the budget.
use Rattle.std.proofs.Common.{◌≡◌, ℕ, zero, suc, ◌≤◌, Bool, true, false, not, ltb, List, length, get_or, set, ℤ, Some, None, Option, sym, refl, ap, ◌∙◌, true≢false, arith, length-set, ltb-false, ltb-true}
use Rattle.solving.specs.Settings.{Setting, at, Within, full, open_in}
use Rattle.solving.specs.Readings.{satisfies}
use Rattle.solving.specs.Closing.{closure, violated}
use Rattle.solving.specs.Trials.{Answer, found, none, undecided, while, step, or_else}
use Rattle.solving.specs.Backtracking.{Rule, Choice, unless_broken, chosen, both, descend}
use Rattle.solving.specs.SearchLaws.{Picks, Whole, Sound, Counted, Backtracks}
use Rattle.solving.proofs.Places.{within_trans, set_grows, set_within, open_falls, open_inside, open_le, full_at}
use Rattle.solving.proofs.Closures.{closure_grows, closure_length, keeps, settles}

module _ (cs : List (List ℤ)) where
  sound_while : (a : Setting) (x : Bool) (s : ℕ) (k : ℕ → Answer) → ((t : ℕ) → Sound cs a (k t)) → Sound cs a (while x s k)
  sound_while a true s k h = h (suc s)
  sound_while a false s k h = tt

  -- a smaller start
  whole_lift : (a b d : Setting) → Within a b → length b ≡ length a → Whole cs b d → Whole cs a d
  whole_lift a b d w l h = record { keeps = within_trans a b d w h.keeps; long = h.long ∙ l; set = h.set; holds = h.holds }

  -- one of the two bits is the reading's
  two_ways : (b : Setting) (j : ℕ) (x : Bool) (r : List Bool) → at b j ≡ None → Within b (full r) → ((y : Bool) → y ≡ x → Within (set b j (Some y)) (full r) → ⊥) → (Within (set b j (Some (not x))) (full r) → ⊥) → ⊥
  two_ways b j x r o w p q = go (get_or r j false) (full_at r j) x p q where
    go : (z : Bool) → at (full r) j ≡ Some z → (x : Bool) → ((y : Bool) → y ≡ x → Within (set b j (Some y)) (full r) → ⊥) → (Within (set b j (Some (not x))) (full r) → ⊥) → ⊥
    go true e true p q = p true refl (set_within b (full r) j true w e o)
    go false e false p q = p false refl (set_within b (full r) j false w e o)
    go true e false p q = q (set_within b (full r) j true w e o)
    go false e true p q = q (set_within b (full r) j false w e o)

  sound_second : (b : Setting) (j : ℕ) (x : Bool) → at b j ≡ None → ((r : List Bool) → Within (set b j (Some x)) (full r) → satisfies r cs ≡ true → ⊥) → (ans : Answer) → Sound cs (set b j (Some (not x))) ans → Sound cs b ans
  sound_second b j x o h (found d s) f = whole_lift b (set b j (Some (not x))) d (set_grows b j (not x) o) (length-set b j (Some (not x))) f
  sound_second b j x o h (none s) f = λ r w e. two_ways b j x r o w (λ y p v. h r (rw p at v) e) (λ v. f r v e)
  sound_second b j x o h (undecided s) f = tt

  sound_or_else : (b : Setting) (j : ℕ) (x : Bool) → at b j ≡ None → (ans : Answer) (k : ℕ → Answer) → Sound cs (set b j (Some x)) ans → ((t : ℕ) → Sound cs (set b j (Some (not x))) (k t)) → Sound cs b (or_else ans k)
  sound_or_else b j x o (found d s) k h f = whole_lift b (set b j (Some x)) d (set_grows b j x o) (length-set b j (Some x)) h
  sound_or_else b j x o (none s) k h f = sound_second b j x o h (k s) (f s)
  sound_or_else b j x o (undecided s) k h f = tt

  -- from the closed setting back to its start
  sound_closure : (a : Setting) (ans : Answer) → Sound cs (closure cs a) ans → Sound cs a ans
  sound_closure a (found d s) h = whole_lift a (closure cs a) d (closure_grows cs a) (closure_length cs a) h
  sound_closure a (none s) h = λ r w e. h r (keeps cs a r w e).0 e
  sound_closure a (undecided s) h = tt

  sound_broken : (a : Setting) (s : ℕ) (k : Unit {0} → Answer) → (v : Bool) → violated (closure cs a) cs ≡ v → (v ≡ false → Sound cs (closure cs a) (k tt)) → Sound cs a (unless_broken v s k)
  sound_broken a s k true e h = λ r w f. true≢false (sym e ∙ (keeps cs a r w f).1)
  sound_broken a s k false e h = sound_closure a (k tt) (h refl)

  whole_end : (b : Setting) → violated b cs ≡ false → open_in (length b) b ≡ 0 → Whole cs b b
  whole_end b e z = record { keeps = λ j x h. h; long = refl; set = z; holds = settles cs b e z }

  module _ (rule : Rule) (law : Picks rule) (budget : ℕ) where
    sound_chosen : (deeper : Setting → ℕ → Answer) (b : Setting) (s : ℕ) → violated b cs ≡ false → ((j : ℕ) (x : Bool) (t : ℕ) → at b j ≡ None → Sound cs (set b j (Some x)) (deeper (set b j (Some x)) t)) → (o : Option Choice) → rule b ≡ o → Sound cs b (chosen o b s (both budget deeper b s))
    sound_chosen deeper b s e rest None p = whole_end b e (law.ends b p)
    sound_chosen deeper b s e rest (Some c) p =
        let o = law.opens b c p in
        sound_or_else b c.var c.bit o (step budget s (deeper (set b c.var (Some c.bit)))) _
        (sound_while (set b c.var (Some c.bit)) (ltb s budget) s _ (λ t. rest c.var c.bit t o))
        (λ t. sound_while (set b c.var (Some (not c.bit))) (ltb t budget) t _ (λ u. rest c.var (not c.bit) u o))

    -- the count of open variables, after closure and a choice
    pub fewer : (a : Setting) (n j : ℕ) (x : Bool) → open_in (length a) a ≤ suc n → at (closure cs a) j ≡ None → open_in (length (set (closure cs a) j (Some x))) (set (closure cs a) j (Some x)) ≤ n
    fewer a n j x h o =
        let b = closure cs a in
        let l = closure_length cs a in
        let p = open_le (length a) a b (sym l) (closure_grows cs a) in
        let q = open_falls b (length b) j x o (open_inside b j o) in
        let e : open_in (length b) b ≡ open_in (length a) b = ap (λ k. open_in k b) l in
        rw length-set (omega arith)

    pub backtrack_sound : (n : ℕ) (a : Setting) (s : ℕ) → open_in (length a) a ≤ n → Sound cs a (descend rule cs budget n a s)
    unfolding descend
    backtrack_sound zero a s h = sound_broken a s _ (violated (closure cs a) cs) refl (λ e. whole_end (closure cs a) e (let p = open_le (length a) a (closure cs a) (sym (closure_length cs a)) (closure_grows cs a) in rw closure_length (omega arith)))
    backtrack_sound (suc n) a s h = sound_broken a s _ (violated (closure cs a) cs) refl (λ e. sound_chosen (descend rule cs budget n) (closure cs a) s e (λ j x t o. backtrack_sound n (set (closure cs a) j (Some x)) t (fewer a n j x h o)) (rule (closure cs a)) refl)

-- steps
counted_while : (budget s : ℕ) (k : ℕ → Answer) → s ≤ budget → ((t : ℕ) → t ≤ budget → Counted budget t (k t)) → Counted budget s (step budget s k)
counted_while budget s k h f = go (ltb s budget) refl where
  weaker : (s t : ℕ) → s ≤ t → (ans : Answer) → Counted budget t ans → Counted budget s ans
  weaker s t h (found b u) c = omega arith
  weaker s t h (none u) c = omega arith
  weaker s t h (undecided u) c = omega arith

  go : (x : Bool) → ltb s budget ≡ x → Counted budget s (while x s k)
  go true e = weaker s (suc s) (omega arith) (k (suc s)) (f (suc s) (ltb-true s budget e))
  go false e = let g = ltb-false s budget e in omega arith

counted_or_else : (budget s : ℕ) (ans : Answer) (k : ℕ → Answer) → Counted budget s ans → ((t : ℕ) → t ≤ budget → Counted budget t (k t)) → Counted budget s (or_else ans k)
counted_or_else budget s (found b t) k c f = c
counted_or_else budget s (undecided t) k c f = c
counted_or_else budget s (none t) k c f = go (k t) (f t c.1) where
  go : (ans : Answer) → Counted budget t ans → Counted budget s ans
  go (found b u) d = omega arith
  go (none u) d = omega arith
  go (undecided u) d = omega arith

module _ (rule : Rule) (cs : List (List ℤ)) (budget : ℕ) where
  counted_broken : (s : ℕ) (k : Unit {0} → Answer) (v : Bool) → s ≤ budget → Counted budget s (k tt) → Counted budget s (unless_broken v s k)
  counted_broken s k true h c = omega arith
  counted_broken s k false h c = c

  counted_chosen : (deeper : Setting → ℕ → Answer) (b : Setting) (s : ℕ) → s ≤ budget → ((a : Setting) (t : ℕ) → t ≤ budget → Counted budget t (deeper a t)) → (o : Option Choice) → Counted budget s (chosen o b s (both budget deeper b s))
  counted_chosen deeper b s h rest None = omega arith
  counted_chosen deeper b s h rest (Some c) = counted_or_else budget s (step budget s (deeper (set b c.var (Some c.bit)))) _ (counted_while budget s _ h (λ t. rest _ t)) (λ t g. counted_while budget t _ g (λ u. rest _ u))

  pub backtrack_counted : (n : ℕ) (a : Setting) (s : ℕ) → s ≤ budget → Counted budget s (descend rule cs budget n a s)
  unfolding descend
  backtrack_counted zero a s h = counted_broken s _ (violated (closure cs a) cs) h (omega arith)
  backtrack_counted (suc n) a s h = counted_broken s _ (violated (closure cs a) cs) h (counted_chosen (descend rule cs budget n) (closure cs a) s h (backtrack_counted n) (rule (closure cs a)))

pub backtracks : Backtracks
backtracks rule law cs budget a = (backtrack_sound cs rule law budget (open_in (length a) a) a 0 (omega arith), backtrack_counted rule cs budget (open_in (length a) a) a 0 (omega arith))

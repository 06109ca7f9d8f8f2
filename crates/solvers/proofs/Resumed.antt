-- The recursion against a loop: what is still to come after each turn is what was to come before it.
use Rattle.std.proofs.Common.{◌≡◌, ℕ, zero, suc, ◌<◌, ◌≤◌, Bool, true, false, not, List, [], ◌∷◌, ◌++◌, length, set, ℤ, Some, None, Option, sym, refl, ap, ◌∙◌, ap₂, arith, le-ltb, lt-ltb}
use mathlib.Core.Path.{fun_ext}
use Rattle.solving.specs.Settings.{Setting, at, open_in}
use Rattle.solving.specs.Closing.{violated, closure}
use Rattle.solving.specs.Trials.{Answer, found, none, undecided, while, step, or_else}
use Rattle.solving.specs.Backtracking.{Rule, Choice, descend, level, chosen, both, unless_broken}
use Rattle.solving.specs.SearchLaws.{Picks}
use Rattle.solvers.proofs.Resuming.{deep, Frame, turned, back, resume, Turns}
use Rattle.solving.proofs.Places.{open_le, open_some, open_inside}
use Rattle.solving.proofs.Closures.{closure_grows, closure_length}
use Rattle.solving.proofs.Sounds.{fewer}
use Rattle.solving.proofs.Ordering.{any_order}
use Rattle.solving.specs.Orders.{Reaches}
use Rattle.propagation.proofs.Reached.{reached_violated, reached_closure}

module _ (rule : Rule) (law : Picks rule) (cs : List (List ℤ)) (budget : ℕ) where
  -- a level looks deeper only at the two settings of an open variable
  level_same : (f g : Setting → ℕ → Answer) (b : Setting) (s : ℕ) → ((j : ℕ) (x : Bool) → at b j ≡ None → f (set b j (Some x)) ≡ g (set b j (Some x))) → level rule cs budget f b s ≡ level rule cs budget g b s
  level_same f g b s h = outer (violated b cs) where
    inner : (o : Option Choice) → rule b ≡ o → chosen o b s (both budget f b s) ≡ chosen o b s (both budget g b s)
    inner None e = refl
    inner (Some c) e =
        let o = law.opens b c e in
        ap₂ (λ (p q : ℕ → Answer). or_else (step budget s p) (λ t. step budget t q)) (h c.var c.bit o) (h c.var (not c.bit) o)

    outer : (v : Bool) → unless_broken v s (λ _. chosen (rule b) b s (both budget f b s)) ≡ unless_broken v s (λ _. chosen (rule b) b s (both budget g b s))
    outer true = refl
    outer false = inner (rule b) refl

  -- with nothing open a level ends
  level_end : (f : Setting → ℕ → Answer) (b : Setting) (s : ℕ) → open_in (length b) b ≡ 0 → unless_broken (violated b cs) s (λ _. found b s) ≡ level rule cs budget f b s
  level_end f b s z = outer (violated b cs) where
    inner : (o : Option Choice) → rule b ≡ o → found b s ≡ chosen o b s (both budget f b s)
    inner None e = refl
    inner (Some c) e = let o = law.opens b c e in let p = open_some b (length b) c.var o (open_inside b c.var o) in absurd (omega arith)

    outer : (v : Bool) → unless_broken v s (λ _. found b s) ≡ unless_broken v s (λ _. chosen (rule b) b s (both budget f b s))
    outer true = refl
    outer false = inner (rule b) refl

  closed_end : (a : Setting) → open_in (length a) a ≤ 0 → open_in (length (closure cs a)) (closure cs a) ≡ 0
  closed_end a h = let p = open_le (length a) a (closure cs a) (sym (closure_length cs a)) (closure_grows cs a) in rw closure_length (omega arith)

  -- more room than there are open variables changes nothing
  pub room : (n m : ℕ) (a : Setting) (s : ℕ) → open_in (length a) a ≤ n → open_in (length a) a ≤ m → descend rule cs budget n a s ≡ descend rule cs budget m a s
  unfolding descend
  room zero zero a s p q = refl
  room zero (suc m) a s p q = level_end (descend rule cs budget m) (closure cs a) s (closed_end a p)
  room (suc n) zero a s p q = sym (level_end (descend rule cs budget n) (closure cs a) s (closed_end a q))
  room (suc n) (suc m) a s p q = level_same (descend rule cs budget n) (descend rule cs budget m) (closure cs a) s (λ j x o. fun_ext (λ t. room n m (set (closure cs a) j (Some x)) t (fewer cs rule law budget a n j x p o) (fewer cs rule law budget a m j x q o)))

  -- the recursion by one level
  open_up : (a : Setting) (s : ℕ) → descend rule cs budget (suc (open_in (length a) a)) a s ≡ level rule cs budget (deep rule cs budget) (closure cs a) s
  unfolding descend
  open_up a s = level_same (descend rule cs budget (open_in (length a) a)) (deep rule cs budget) (closure cs a) s (λ j x o. fun_ext (λ t. room (open_in (length a) a) (open_in (length (set (closure cs a) j (Some x))) (set (closure cs a) j (Some x))) (set (closure cs a) j (Some x)) t (fewer cs rule law budget a (open_in (length a) a) j x (omega arith) o) (omega arith)))

  pub deep_level : (a : Setting) (s : ℕ) → deep rule cs budget a s ≡ level rule cs budget (deep rule cs budget) (closure cs a) s
  deep_level a s = room (open_in (length a) a) (suc (open_in (length a) a)) a s (omega arith) (omega arith) ∙ open_up a s

  -- one level, by cases
  deep_violated : (a : Setting) (s : ℕ) → violated (closure cs a) cs ≡ true → deep rule cs budget a s ≡ none s
  deep_violated a s e = deep_level a s ∙ ap (λ v. unless_broken v s (λ _. chosen (rule (closure cs a)) (closure cs a) s (both budget (deep rule cs budget) (closure cs a) s))) e

  deep_chosen : (a : Setting) (s : ℕ) (o : Option Choice) → violated (closure cs a) cs ≡ false → rule (closure cs a) ≡ o → deep rule cs budget a s ≡ chosen o (closure cs a) s (both budget (deep rule cs budget) (closure cs a) s)
  deep_chosen a s o e p =
      deep_level a s ∙ ap (λ v. unless_broken v s (λ _. chosen (rule (closure cs a)) (closure cs a) s (both budget (deep rule cs budget) (closure cs a) s))) e
      ∙ ap (λ q. chosen q (closure cs a) s (both budget (deep rule cs budget) (closure cs a) s)) p

  -- from a setting that unit steps reach the recursion does what it does from their start
  pub deep_reached : (a b : Setting) (s : ℕ) → Reaches cs a b → deep rule cs budget b s ≡ deep rule cs budget a s
  deep_reached a b s r = go (violated (closure cs b) cs) refl where
    go : (x : Bool) → violated (closure cs b) cs ≡ x → deep rule cs budget b s ≡ deep rule cs budget a s
    go true e = deep_violated b s e ∙ sym (deep_violated a s (reached_violated cs a b r e))
    go false e = deep_level b s ∙ ap (λ (x : Setting). level rule cs budget (deep rule cs budget) x s) (reached_closure cs a b r e) ∙ sym (deep_level a s)

  -- and where those steps meet a violation there is nothing to be found
  pub deep_broken : (a b : Setting) (s : ℕ) → Reaches cs a b → violated b cs ≡ true → deep rule cs budget a s ≡ none s
  deep_broken a b s r e = deep_violated a s ((any_order cs a b r).broken e)

  step_on : (s : ℕ) (k : ℕ → Answer) → s < budget → step budget s k ≡ k (suc s)
  step_on s k h = ap (λ x. while x s k) (lt-ltb s budget h)

  step_off : (s : ℕ) (k : ℕ → Answer) → budget ≤ s → step budget s k ≡ undecided s
  step_off s k h = ap (λ x. while x s k) (le-ltb s budget h)

  resume_last : (fs : List Frame) (f : Frame) (ans : Answer) → resume rule cs budget (fs ++ (f ∷ [])) ans ≡ resume rule cs budget fs (back rule cs budget f ans)
  resume_last [] f ans = refl
  resume_last (g ∷ fs) f ans = ap (back rule cs budget g) (resume_last fs f ans)

  resume_undecided : (fs : List Frame) (s : ℕ) → resume rule cs budget fs (undecided s) ≡ undecided s
  resume_undecided [] s = refl
  resume_undecided (f ∷ fs) s = ap (back rule cs budget f) (resume_undecided fs s)

  resume_found : (fs : List Frame) (b : Setting) (s : ℕ) → resume rule cs budget fs (found b s) ≡ found b s
  resume_found [] b s = refl
  resume_found (f ∷ fs) b s = ap (back rule cs budget f) (resume_found fs b s)

  turn_last : (fs gs : List Frame) (f : Frame) (a : Setting) (s : ℕ) → violated (closure cs a) cs ≡ true → fs ≡ gs ++ (f ∷ []) → resume rule cs budget fs (deep rule cs budget a s) ≡ resume rule cs budget gs (step budget s (deep rule cs budget (turned f)))
  turn_last fs gs f a s v e = ap₂ (resume rule cs budget) e (deep_violated a s v) ∙ resume_last gs f (none s)

  pub turns : (fs : List Frame) (a : Setting) (s : ℕ) → Turns rule cs budget fs a s
  turns fs a s = record {
    none = λ v e. ap₂ (resume rule cs budget) e (deep_violated a s v);
    turn = λ gs f v e h. turn_last fs gs f a s v e ∙ ap (resume rule cs budget gs) (step_on s (deep rule cs budget (turned f)) h);
    tired = λ gs f v e h. turn_last fs gs f a s v e ∙ ap (resume rule cs budget gs) (step_off s (deep rule cs budget (turned f)) h) ∙ resume_undecided gs s;
    found = λ v e. ap (resume rule cs budget fs) (deep_chosen a s None v e) ∙ resume_found fs (closure cs a) s;
    choose = λ c v e h. ap (resume rule cs budget fs) (deep_chosen a s (Some c) v e)
        ∙ ap (λ (x : Answer). resume rule cs budget fs (or_else x (λ t. step budget t (deep rule cs budget (set (closure cs a) c.var (Some (not c.bit))))))) (step_on s (deep rule cs budget (set (closure cs a) c.var (Some c.bit))) h)
        ∙ sym (resume_last fs (record { base = closure cs a; choice = c }) (deep rule cs budget (set (closure cs a) c.var (Some c.bit)) (suc s)));
    weary = λ c v e h. ap (resume rule cs budget fs) (deep_chosen a s (Some c) v e)
        ∙ ap (λ (x : Answer). resume rule cs budget fs (or_else x (λ t. step budget t (deep rule cs budget (set (closure cs a) c.var (Some (not c.bit))))))) (step_off s (deep rule cs budget (set (closure cs a) c.var (Some c.bit))) h)
        ∙ resume_undecided fs s;
  }

-- What the promises of a solver come to for two bits that differ: the formula is led, one reading satisfies it, and every such reading differs.
use Rattle.std.proofs.Common.{◌≡◌, ℕ, ◌<◌, Bool, true, false, not, ◌&&◌, ◌||◌, ◌⊎◌, List, [], ◌∷◌, get_or, is_some, Some, None, Option, refl, inl, inr, arith, MatchOption}
use mathlib.Core.Bool.{beq, false≢true}
use native.Mathlib.Decide.{dec_lt}
use Rattle.solving.specs.Closing.{units, closure, violated}
use Rattle.solving.specs.Settings.{open_in}
use Rattle.solving.specs.Leading.{leads}
use Rattle.solving.specs.Models.{Model}
use Rattle.solving.specs.Answers.{Answers, Says, LedModel}
use Rattle.solving.specs.declared.verdict.Verdict.TheVariants.{Found, None as Unsatisfiable, Undecided}
use Rattle.solving.specs.declared.verdict.Solved.{Solved}
use Rattle.posing.specs.Differing.{bits_in, differing}

led_pair : (a b : Bool) → (violated (closure differing.clauses (leads 2 (a ∷ b ∷ []))) differing.clauses ≡ true) ⊎ (open_in 2 (closure differing.clauses (leads 2 (a ∷ b ∷ []))) ≡ 0)
unfolding closure units
led_pair true true = inl refl
led_pair true false = inr refl
led_pair false true = inr refl
led_pair false false = inl refl

differing_led : LedModel differing
differing_led [] e = absurd (omega arith)
differing_led (a ∷ []) e = absurd (omega arith)
differing_led (a ∷ b ∷ []) e = led_pair a b
differing_led (a ∷ b ∷ c ∷ bs) e = absurd (omega arith)

apart : (a b : Bool) → ((beq a true || (beq b true || false)) && ((beq a false || (beq b false || false)) && true)) ≡ true → a ≡ not b
apart true true e = absurd (false≢true e)
apart true false e = refl
apart false true e = refl
apart false false e = absurd (false≢true e)

found_bits : (budget : ℕ) (o : Option (Bool × Bool)) (reading : Option (List Bool)) → Says differing budget Found reading → ((bits : List Bool) → reading ≡ Some bits → o ≡ Some (get_or bits 0 false, get_or bits 1 false)) → MatchOption o (budget < 6) (λ p. p.0 ≡ not p.1)
found_bits budget o None h e = absurd h
found_bits budget o (Some bits) h e = rw (e bits refl) (apart (get_or bits 0 false) (get_or bits 1 false) h.1)

-- what is read of a reading are its bits
read_bits : (budget : ℕ) (o : Option (Bool × Bool)) (reading : Option (List Bool)) → Says differing budget Found reading → ((bits : List Bool) → reading ≡ Some bits → o ≡ Some (get_or bits 0 false, get_or bits 1 false)) → o ≡ bits_in reading
read_bits budget o None h e = absurd h
read_bits budget o (Some bits) h e = e bits refl

-- without a reading there is none
unread_none : (budget : ℕ) (reading : Option (List Bool)) → Says differing budget Unsatisfiable reading → None ≡ bits_in reading
unread_none budget None h = refl
unread_none budget (Some bits) h = absurd h

unread_undecided : (budget : ℕ) (reading : Option (List Bool)) → Says differing budget Undecided reading → None ≡ bits_in reading
unread_undecided budget None h = refl
unread_undecided budget (Some bits) h = absurd h

module _ (m n : Model) (budget : ℕ) (r : Solved) (poses : m ≡ differing) (answer : Answers m budget r n) where
  pub posed : Answers differing budget r n
  posed = rw poses at answer

  pub differ_found : (o : Option (Bool × Bool)) → r.verdict ≡ Found → ((bits : List Bool) → n.variables ≡ 2 → n.reading ≡ Some bits → o ≡ Some (get_or bits 0 false, get_or bits 1 false)) → MatchOption o (budget < 6) (λ p. p.0 ≡ not p.1)
  differ_found o v e = found_bits budget o n.reading (rw v at posed.says) (λ bits q. e bits posed.variables q)

  pub found_read : (o : Option (Bool × Bool)) → r.verdict ≡ Found → ((bits : List Bool) → n.variables ≡ 2 → n.reading ≡ Some bits → o ≡ Some (get_or bits 0 false, get_or bits 1 false)) → o ≡ bits_in n.reading
  found_read o v e = read_bits budget o n.reading (rw v at posed.says) (λ bits q. e bits posed.variables q)

  pub none_unread : r.verdict ≡ Unsatisfiable → None ≡ bits_in n.reading
  none_unread v = unread_none budget n.reading (rw v at posed.says)

  pub undecided_unread : r.verdict ≡ Undecided → None ≡ bits_in n.reading
  undecided_unread v = unread_undecided budget n.reading (rw v at posed.says)

  pub differ_none : r.verdict ≡ Unsatisfiable → budget < 6
  differ_none v = go n.reading (rw v at posed.says) where
    go : (reading : Option (List Bool)) → Says differing budget Unsatisfiable reading → budget < 6
    go None h = absurd (h (true ∷ false ∷ []) refl refl)
    go (Some bits) h = absurd h

  pub differ_undecided : r.verdict ≡ Undecided → budget < 6
  differ_undecided v = go n.reading (rw v at posed.says) (dec_lt budget 6) where
    go : (reading : Option (List Bool)) → Says differing budget Undecided reading → Dec (budget < 6) → budget < 6
    go reading h (yes lt) = lt
    go None h (no ge) = absurd (h differing_led (omega arith))
    go (Some bits) h (no ge) = absurd h

-- where the budget is not small, there are two bits
pub settled : (o : Option (Bool × Bool)) → MatchOption o (6 < 6) (λ p. p.0 ≡ not p.1) → (is_some o ≡ true) × MatchOption o ⊥ (λ p. p.0 ≡ not p.1)
settled None h = absurd (omega arith)
settled (Some p) h = (refl, h)

-- An exact kind is definite: this is how the impl of the three values keeps that law.
-- What an exact kind's gates make is in `proofs` (Exactness).
use Rattle.std.specs.Prelude.{Bool, not, ◌&&◌, ◌||◌}
use Rattle.std.proofs.Common.{sym, ◌∙◌, ap, ap₂}
use Rattle.signal.specs.Operations.{Operations, differ}
use Rattle.signal.specs.Laws.{Only, Definite}
use Rattle.signal.specs.Exacts.{MadeOfTwo, Exact}

module _ {S : Type 0} (allows : S → Bool → Type 0) where
  only_of_two : (op : S → S → S) (f : Bool → Bool → Bool)
      → ((x y : S) (p q : Bool) → allows x p → allows y q → allows (op x y) (f p q)) → ((x y : S) (b : Bool) → allows (op x y) b → MadeOfTwo allows f x y b)
      → (x y : S) (p q : Bool) → Only allows x p → Only allows y q → Only allows (op x y) (f p q)
  only_of_two op f there back x y p q r s =
      record {
        allowed = there x y p q r.allowed s.allowed;
        alone = λ c a. let m = back x y c a in sym m.4 ∙ ap₂ f (r.alone m.0 m.2) (s.alone m.1 m.3);
      }

module _ {S : Type 0} (o : Operations S) (allows : S → Bool → Type 0) (exact : Exact o allows) where
  pub exact_definite : Definite o allows
  exact_definite =
      record {
        constant = λ b. record { allowed = exact.sound.constant b; alone = λ c a. sym (exact.constant b c a) };
        negated = λ x p r. record { allowed = exact.sound.negated x p r.allowed; alone = λ c a. let m = exact.negated x c a in sym m.2 ∙ ap not (r.alone m.0 m.1) };
        both = only_of_two allows o.both ◌&&◌ exact.sound.both exact.both;
        either = only_of_two allows o.either ◌||◌ exact.sound.either exact.either;
        unlike = only_of_two allows o.unlike differ exact.sound.unlike exact.unlike;
      }

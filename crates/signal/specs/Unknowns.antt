-- The three values are exact: an answer allows exactly the bits that allowed bits, chosen independently, make.
-- It is shown over any function of one or two bits, and used for each operation.
use Rattle.std.specs.Prelude.{◌≡◌, Bool, true, false, cond, not, ◌&&◌, ◌||◌, refl}
use Rattle.std.proofs.Common.{sym, ◌∙◌, ⊎_elim}
use Rattle.std.proofs.lemmas.Bool.{and_parts, and_from, or_cases, or_left, or_right}
use Rattle.signal.specs.declared.ternary.Ternary.{Ternary}
use Rattle.signal.specs.declared.ternary.Ternary.TheVariants.{Low, High, X}
use Rattle.signal.specs.Operations.{differ}
use Rattle.signal.specs.Laws.{Inhabited, Sound}
use Rattle.signal.specs.Exacts.{MadeOfOne, MadeOfTwo, Exact}
use Rattle.signal.specs.Ternaries.{Allows, has, same, makes, makes_of_two, of, ternary_operations}

pub ternary_inhabited : Inhabited Allows
ternary_inhabited Low = (false, refl)
ternary_inhabited High = (true, refl)
ternary_inhabited X = (true, refl)

same_true : (p b : Bool) → same p b ≡ true → p ≡ b
same_true true true e = refl
same_true true false e = sym e
same_true false true e = e
same_true false false e = refl

same_self : (p : Bool) → same p p ≡ true
same_self true = refl
same_self false = refl

-- the tests say what they are for
makes_back : (f : Bool → Bool) (x : Ternary) (b : Bool) → makes f x b ≡ true → MadeOfOne Allows f x b
makes_back f x b e =
    ⊎_elim {C = MadeOfOne Allows f x b} (λ h. let r = and_parts _ _ h in (false, r.0, same_true (f false) b r.1)) (λ h. let r = and_parts _ _ h in (true, r.0, same_true (f true) b r.1))
    (or_cases (has x false && same (f false) b) (has x true && same (f true) b) e)

makes_there : (f : Bool → Bool) (x : Ternary) (p : Bool) → Allows x p → makes f x (f p) ≡ true
makes_there f x false a = or_left (has x false && same (f false) (f false)) (has x true && same (f true) (f false)) (and_from _ _ a (same_self (f false)))
makes_there f x true a = or_right (has x false && same (f false) (f true)) (has x true && same (f true) (f true)) (and_from _ _ a (same_self (f true)))

two_back : (f : Bool → Bool → Bool) (x y : Ternary) (b : Bool) → makes_of_two f x y b ≡ true → MadeOfTwo Allows f x y b
two_back f x y b e =
    ⊎_elim {C = MadeOfTwo Allows f x y b}
    (λ h. let r = and_parts (has x false) (makes (f false) y b) h in let m = makes_back (f false) y b r.1 in (false, m.0, r.0, m.1, m.2))
    (λ h. let r = and_parts (has x true) (makes (f true) y b) h in let m = makes_back (f true) y b r.1 in (true, m.0, r.0, m.1, m.2))
    (or_cases (has x false && makes (f false) y b) (has x true && makes (f true) y b) e)

two_there : (f : Bool → Bool → Bool) (x y : Ternary) (p q : Bool) → Allows x p → Allows y q → makes_of_two f x y (f p q) ≡ true
two_there f x y false q a c = or_left (has x false && makes (f false) y (f false q)) (has x true && makes (f true) y (f false q)) (and_from _ _ a (makes_there (f false) y q c))
two_there f x y true q a c = or_right (has x false && makes (f false) y (f true q)) (has x true && makes (f true) y (f true q)) (and_from _ _ a (makes_there (f true) y q c))

-- the value of a test that holds somewhere allows exactly where it holds
has_of : (low high b : Bool) → low || high ≡ true → has (of low high) b ≡ cond b high low
has_of true true true e = refl
has_of true true false e = refl
has_of true false true e = refl
has_of true false false e = refl
has_of false true true e = refl
has_of false true false e = refl
has_of false false true e = sym e
has_of false false false e = refl

of_test : (m : Bool → Bool) (c : Bool) → m c ≡ true → (b : Bool) → has (of (m false) (m true)) b ≡ m b
of_test m true e true = has_of (m false) (m true) true (or_right (m false) (m true) e)
of_test m true e false = has_of (m false) (m true) false (or_right (m false) (m true) e)
of_test m false e true = has_of (m false) (m true) true (or_left (m false) (m true) e)
of_test m false e false = has_of (m false) (m true) false (or_left (m false) (m true) e)

module _ (f : Bool → Bool → Bool) where
  answer_there : (x y : Ternary) (p q : Bool) → Allows x p → Allows y q → Allows (of (makes_of_two f x y false) (makes_of_two f x y true)) (f p q)
  answer_there x y p q a c = let t = two_there f x y p q a c in of_test (makes_of_two f x y) (f p q) t (f p q) ∙ t

  answer_back : (x y : Ternary) (b : Bool) → Allows (of (makes_of_two f x y false) (makes_of_two f x y true)) b → MadeOfTwo Allows f x y b
  answer_back x y b h =
      let i = ternary_inhabited x in
      let j = ternary_inhabited y in
      two_back f x y b (sym (of_test (makes_of_two f x y) (f i.0 j.0) (two_there f x y i.0 j.0 i.1 j.1) b) ∙ h)

constant_there : (b : Bool) → Allows (of (not b) b) b
constant_there true = refl
constant_there false = refl

constant_back : (b c : Bool) → Allows (of (not b) b) c → b ≡ c
constant_back true true e = refl
constant_back true false e = sym e
constant_back false true e = e
constant_back false false e = refl

pub ternary_sound : Sound ternary_operations Allows
ternary_sound =
    record {
      constant = constant_there;
      negated = λ x p a. let t = makes_there not x p a in of_test (makes not x) (not p) t (not p) ∙ t;
      both = answer_there ◌&&◌;
      either = answer_there ◌||◌;
      unlike = answer_there differ;
    }

pub ternary_exact : Exact ternary_operations Allows
ternary_exact =
    record {
      sound = ternary_sound;
      constant = constant_back;
      negated = λ x b h. let i = ternary_inhabited x in makes_back not x b (sym (of_test (makes not x) (not i.0) (makes_there not x i.0 i.1) b) ∙ h);
      both = answer_back ◌&&◌;
      either = answer_back ◌||◌;
      unlike = answer_back differ;
    }

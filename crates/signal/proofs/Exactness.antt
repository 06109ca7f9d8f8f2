-- Each gate of an exact kind allows exactly the bits that some choice of allowed bits makes; so do the gates of the three values.
-- It holds of every exact kind, since a gate's answer takes each pin once.
use Rattle.std.specs.Prelude.{◌≡◌, Bool, true, false, not, ◌&&◌, ◌||◌, List, [], ◌∷◌, refl}
use Rattle.std.proofs.Common.{◌∙◌, ap, subst}
use Rattle.std.proofs.lemmas.Bool.{false≢true}
use Rattle.card.specs.declared.function.Function.{Function}
use Rattle.card.specs.declared.function.Function.TheVariants.{Ida, And2, Or2, Xor2, Inva, Nand2, Nor2, Xnor2, Zero, One}
use Rattle.signal.specs.declared.ternary.Ternary.{Ternary}
use Rattle.signal.specs.declared.ternary.Ternary.TheVariants.{Low, High, X}
use Rattle.signal.specs.Operations.{Operations, bit_operations, differ}
use Rattle.signal.specs.Laws.{Inhabited}
use Rattle.signal.specs.Gates.{folded, joined, truth}
use Rattle.signal.specs.Lists.{Everywhere}
use Rattle.signal.specs.Exacts.{MadeOfTwo, MadeOfPins, Exact, GatesExact}
use Rattle.signal.specs.Ternaries.{Allows, has, ternary_operations, UnknownWhereBothAreMade}
use Rattle.signal.specs.Unknowns.{ternary_inhabited, ternary_exact}
use Rattle.signal.proofs.Keeping.{truth_kept}

module _ {S : Type 0} (allows : S → Bool → Type 0) where
  module _ (op : S → S → S) (f : Bool → Bool → Bool) (back : (x y : S) (b : Bool) → allows (op x y) b → MadeOfTwo allows f x y b) where
    folded_made : (x : S) (xs : List S) (b : Bool) → allows (folded op x xs) b → (p : Bool) × (bs : List Bool) × allows x p × Everywhere allows xs bs × (folded f p bs ≡ b)
    folded_made x [] b a = (b, [], a, tt, refl)
    folded_made x (y ∷ ys) b a =
        let r = folded_made (op x y) ys b a in
        let m = back x y r.0 r.2 in
        (m.0, m.1 ∷ r.1, m.2, (m.3, r.3), ap (λ c. folded f c r.1) m.4 ∙ r.4)

    joined_made : (u : S) (c : Bool) → ((b : Bool) → allows u b → c ≡ b) → (xs : List S) (b : Bool) → allows (joined op u xs) b → (bs : List Bool) × Everywhere allows xs bs × (joined f c bs ≡ b)
    joined_made u c k [] b a = ([], tt, k b a)
    joined_made u c k (x ∷ xs) b a = let r = folded_made x xs b a in (r.0 ∷ r.1, (r.2, r.3), r.4)

  pub some_choice : Inhabited allows → (xs : List S) → (bs : List Bool) × Everywhere allows xs bs
  some_choice i [] = ([], tt)
  some_choice i (x ∷ xs) = let r = some_choice i xs in ((i x).0 ∷ r.0, ((i x).1, r.1))

module _ {S : Type 0} (o : Operations S) (allows : S → Bool → Type 0) (exact : Exact o allows) where
  both_made : (xs : List S) (b : Bool) → allows (truth o And2 xs) b → MadeOfPins allows And2 xs b
  both_made = joined_made allows o.both ◌&&◌ exact.both (o.constant true) true (exact.constant true)

  either_made : (xs : List S) (b : Bool) → allows (truth o Or2 xs) b → MadeOfPins allows Or2 xs b
  either_made = joined_made allows o.either ◌||◌ exact.either (o.constant false) false (exact.constant false)

  unlike_made : (xs : List S) (b : Bool) → allows (truth o Xor2 xs) b → MadeOfPins allows Xor2 xs b
  unlike_made = joined_made allows o.unlike differ exact.unlike (o.constant false) false (exact.constant false)

  negation_made : (f : Function) (xs : List S) (b : Bool) → ((c : Bool) → allows (truth o f xs) c → MadeOfPins allows f xs c)
      → allows (o.negated (truth o f xs)) b → (bits : List Bool) × Everywhere allows xs bits × (not (truth bit_operations f bits) ≡ b)
  negation_made f xs b h a =
      let m = exact.negated (truth o f xs) b a in
      let r = h m.0 m.1 in
      (r.0, r.1, ap not r.2 ∙ m.2)

  module _ (inhabited : Inhabited allows) where
    gate_made : (f : Function) (xs : List S) (b : Bool) → allows (truth o f xs) b → MadeOfPins allows f xs b
    gate_made Ida xs b a = either_made xs b a
    gate_made And2 xs b a = both_made xs b a
    gate_made Or2 xs b a = either_made xs b a
    gate_made Xor2 xs b a = unlike_made xs b a
    gate_made Inva xs b a = negation_made Or2 xs b (either_made xs) a
    gate_made Nand2 xs b a = negation_made And2 xs b (both_made xs) a
    gate_made Nor2 xs b a = negation_made Or2 xs b (either_made xs) a
    gate_made Xnor2 xs b a = negation_made Xor2 xs b (unlike_made xs) a
    gate_made Zero xs b a = let r = some_choice allows inhabited xs in (r.0, r.1, exact.constant false b a)
    gate_made One xs b a = let r = some_choice allows inhabited xs in (r.0, r.1, exact.constant true b a)

    pub gates_exact : GatesExact o allows
    gates_exact =
        record {
          allows_what_is_made = λ f pins b m. subst (λ (c : Bool). allows (truth o f pins) c) m.2 (truth_kept o allows exact.sound f pins m.0 m.1);
          makes_what_is_allowed = gate_made;
        }

unknown : (x : Ternary) → Allows x false → Allows x true → x ≡ X
unknown Low a b = absurd (false≢true b)
unknown High a b = absurd (false≢true a)
unknown X a b = refl

pub ternary_gates_exact : GatesExact ternary_operations Allows
ternary_gates_exact = gates_exact ternary_operations Allows ternary_exact ternary_inhabited

pub unknown_where_both_are_made : UnknownWhereBothAreMade
unknown_where_both_are_made f pins =
    let e = ternary_gates_exact in (
      λ u.
          (e.makes_what_is_allowed f pins false (ap (λ x. has x false) u), e.makes_what_is_allowed f pins true (ap (λ x. has x true) u)),
      λ m. unknown (truth ternary_operations f pins) (e.allows_what_is_made f pins false m.0) (e.allows_what_is_made f pins true m.1),
    )

-- A walk keeps every relation between values and bits that the operations keep.
-- It is the one induction behind both promises of `walk`, at `allows` and at `Only allows`.
use Rattle.std.specs.Prelude.{◌≡◌, ℕ, suc, Bool, true, false, ◌&&◌, ◌||◌, List, [], ◌∷◌, Option}
use Rattle.std.proofs.Common.{subst, sym}
use Rattle.card.specs.declared.gate.Gate.{Gate}
use Rattle.card.specs.declared.function.Function.{Function}
use Rattle.card.specs.declared.function.Function.TheVariants.{Ida, And2, Or2, Xor2, Inva, Nand2, Nor2, Xnor2, Zero, One}
use Rattle.card.specs.Netlists.{Netlist, pins_of}
use Rattle.signal.specs.declared.line.Stuck.{Stuck}
use Rattle.signal.specs.Operations.{Operations, bit_operations, differ}
use Rattle.signal.specs.Laws.{Definite, Kept, Only, Sound}
use Rattle.signal.specs.GateLaws.{GateLaws}
use Rattle.signal.specs.Gates.{folded, joined, truth}
use Rattle.signal.specs.Walks.{unless_stuck, pin_values, gate_net, walked, entered, net_values, sticks_pin, sticks_net, level_of}
use Rattle.signal.specs.Lists.{Everywhere, Carries}
use Rattle.signal.proofs.Places.{everywhere_read, everywhere_push}

module _ {S : Type 0} (R : S → Bool → Type 0) (op : S → S → S) (f : Bool → Bool → Bool)
    (k : (x y : S) (p q : Bool) → R x p → R y q → R (op x y) (f p q)) where
  pub folded_kept : (x : S) (b : Bool) (xs : List S) (bs : List Bool) → R x b → Everywhere R xs bs → R (folded op x xs) (folded f b bs)
  folded_kept x b [] [] r a = r
  folded_kept x b [] (c ∷ bs) r a = absurd a
  folded_kept x b (y ∷ xs) [] r a = absurd a
  folded_kept x b (y ∷ xs) (c ∷ bs) r a = folded_kept (op x y) (f b c) xs bs (k x y b c r a.0) a.1

  pub joined_kept : (u : S) (c : Bool) → R u c → (xs : List S) (bs : List Bool) → Everywhere R xs bs → R (joined op u xs) (joined f c bs)
  joined_kept u c r [] [] a = r
  joined_kept u c r [] (b ∷ bs) a = absurd a
  joined_kept u c r (x ∷ xs) [] a = absurd a
  joined_kept u c r (x ∷ xs) (b ∷ bs) a = folded_kept x b xs bs a.0 a.1

module _ {S : Type 0} (o : Operations S) (R : S → Bool → Type 0) (k : Kept o R) where
  pub truth_kept : (f : Function) (xs : List S) (bs : List Bool) → Everywhere R xs bs → R (truth o f xs) (truth bit_operations f bs)
  truth_kept Ida xs bs a = joined_kept R o.either ◌||◌ k.either (o.constant false) false (k.constant false) xs bs a
  truth_kept And2 xs bs a = joined_kept R o.both ◌&&◌ k.both (o.constant true) true (k.constant true) xs bs a
  truth_kept Or2 xs bs a = joined_kept R o.either ◌||◌ k.either (o.constant false) false (k.constant false) xs bs a
  truth_kept Xor2 xs bs a = joined_kept R o.unlike differ k.unlike (o.constant false) false (k.constant false) xs bs a
  truth_kept Inva xs bs a = k.negated _ _ (joined_kept R o.either ◌||◌ k.either (o.constant false) false (k.constant false) xs bs a)
  truth_kept Nand2 xs bs a = k.negated _ _ (joined_kept R o.both ◌&&◌ k.both (o.constant true) true (k.constant true) xs bs a)
  truth_kept Nor2 xs bs a = k.negated _ _ (joined_kept R o.either ◌||◌ k.either (o.constant false) false (k.constant false) xs bs a)
  truth_kept Xnor2 xs bs a = k.negated _ _ (joined_kept R o.unlike differ k.unlike (o.constant false) false (k.constant false) xs bs a)
  truth_kept Zero xs bs a = k.constant false
  truth_kept One xs bs a = k.constant true

-- a kind's laws, taken from its operations to its gates
pub gate_laws : {S : Type 0} (o : Operations S) (allows : S → Bool → Type 0) → Sound o allows → Definite o allows → GateLaws o allows
gate_laws o allows sound definite = record { sound = truth_kept o allows sound; definite = truth_kept o (Only allows) definite }

module _ {S : Type 0} (o : Operations S) (R : S → Bool → Type 0) (k : Kept o R) (t : Option Stuck) where
  unless_kept : (b : Bool) (x : S) (p : Bool) → R x p → R (unless_stuck o t b x) (unless_stuck bit_operations t b p)
  unless_kept true x p r = k.constant (level_of t)
  unless_kept false x p r = r

  pub pins_kept : (xs : List S) (bs : List Bool) (j p : ℕ) (reads : List ℕ) → Everywhere R xs bs → Everywhere R (pin_values o t xs j p reads) (pin_values bit_operations t bs j p reads)
  pins_kept xs bs j p [] a = tt
  pins_kept xs bs j p (n ∷ reads) a =
      (unless_kept (sticks_pin t j p) _ _ (everywhere_read R xs bs n (o.constant false) false (k.constant false) a), pins_kept xs bs j (suc p) reads a)

  pub gate_net_kept : (xs : List S) (bs : List Bool) (j : ℕ) (g : Gate) → Everywhere R xs bs → R (gate_net o t xs j g) (gate_net bit_operations t bs j g)
  gate_net_kept xs bs j g a = unless_kept (sticks_net t j) _ _ (truth_kept o R k g.function _ _ (pins_kept xs bs j 0 (pins_of g) a))

  pub walked_kept : (gs : List Gate) (j : ℕ) (xs : List S) (bs : List Bool) → Everywhere R xs bs → Everywhere R (walked o t j xs gs) (walked bit_operations t j bs gs)
  walked_kept [] j xs bs a = a
  walked_kept (g ∷ gs) j xs bs a = walked_kept gs (suc j) _ _ (everywhere_push R xs bs _ _ a (gate_net_kept xs bs j g a))

  pub entered_kept : (j : ℕ) (xs : List S) (bs : List Bool) → Everywhere R xs bs → Everywhere R (entered o t j xs) (entered bit_operations t j bs)
  entered_kept j [] [] a = tt
  entered_kept j [] (b ∷ bs) a = absurd a
  entered_kept j (x ∷ xs) [] a = absurd a
  entered_kept j (x ∷ xs) (b ∷ bs) a = (unless_kept (sticks_net t j) x b a.0, entered_kept (suc j) xs bs a.1)

  -- every relation that the operations keep is carried from the inputs to all nets
  pub net_values_kept : (c : Netlist) (xs : List S) (bs : List Bool) → Everywhere R xs bs → Everywhere R (net_values o t c xs) (net_values bit_operations t c bs)
  net_values_kept c xs bs a = walked_kept c.gates c.inputs _ _ (entered_kept 0 xs bs a)

  pub carried : (c : Netlist) (inputs nets : List S) → nets ≡ net_values o t c inputs → Carries R t c inputs nets
  carried c inputs nets e bits a =
      subst (λ (ns : List S). Everywhere R ns (net_values bit_operations t c bits)) (sym e) (net_values_kept c inputs bits a)

-- A vector that extends another catches what the other catches: more fixed cells leave every net the same or fewer bits.
use Rattle.std.proofs.Common.{◌≡◌, ℕ, zero, suc, Bool, true, false, List, [], ◌∷◌, ◌++◌, get_or, Some, None, Option, refl, subst, ap₂}
use Rattle.std.proofs.lemmas.Bool.{false≢true}
use Rattle.card.specs.declared.function.Function.{Function}
use Rattle.card.specs.declared.function.Function.TheVariants.{Ida, And2, Or2, Xor2, Inva, Nand2, Nor2, Xnor2, Zero, One}
use Rattle.card.specs.declared.gate.Gate.{Gate}
use Rattle.card.specs.Netlists.{Netlist, pins_of}
use Rattle.signal.specs.declared.line.Stuck.{Stuck}
use Rattle.signal.specs.declared.ternary.Ternary.{Ternary}
use Rattle.signal.specs.declared.ternary.Ternary.TheVariants.{Low, High, X}
use Rattle.signal.specs.Exacts.{Exact}
use Rattle.signal.specs.Gates.{folded, joined, truth}
use Rattle.signal.specs.Lists.{Everywhere}
use Rattle.signal.specs.Operations.{Operations}
use Rattle.signal.specs.Ternaries.{Allows, has, ternary_operations}
use Rattle.signal.specs.Walks.{entered, gate_net, net_values, pin_values, sticks_net, sticks_pin, unless_stuck, walked}
use Rattle.signal.proofs.Places.{everywhere_push, everywhere_read}
use Rattle.signal.specs.Unknowns.{ternary_exact}
use Rattle.vectors.specs.Extending.{Extends}
use Rattle.vectors.specs.Vectors.{Cells, bit_at, cell_of, cells_from, start}
use Rattle.faults.specs.Catching.{catches, opposite, ternary_nets}
use Rattle.faults.proofs.Caught.{at_somewhere, somewhere_at}

module _ {S : Type 0} (o : Operations S) (allows : S → Bool → Type 0) (exact : Exact o allows) where
  -- what x allows, y allows too
  abbrev pub Within : S → S → Type 0
  Within x y = (b : Bool) → allows x b → allows y b

  within_negated : (x y : S) → Within x y → Within (o.negated x) (o.negated y)
  within_negated x y r b a = let m = exact.negated x b a in subst (λ (d : Bool). allows (o.negated y) d) m.2 (exact.sound.negated y m.0 (r m.0 m.1))

  abbrev Pairs : (S → S → S) → Type 0
  Pairs op = (x y u w : S) → Within x u → Within y w → Within (op x y) (op u w)

  within_both : Pairs o.both
  within_both x y u w r s b a = let m = exact.both x y b a in subst (λ (d : Bool). allows (o.both u w) d) m.4 (exact.sound.both u w m.0 m.1 (r m.0 m.2) (s m.1 m.3))

  within_either : Pairs o.either
  within_either x y u w r s b a = let m = exact.either x y b a in subst (λ (d : Bool). allows (o.either u w) d) m.4 (exact.sound.either u w m.0 m.1 (r m.0 m.2) (s m.1 m.3))

  within_unlike : Pairs o.unlike
  within_unlike x y u w r s b a = let m = exact.unlike x y b a in subst (λ (d : Bool). allows (o.unlike u w) d) m.4 (exact.sound.unlike u w m.0 m.1 (r m.0 m.2) (s m.1 m.3))

  within_folded : (op : S → S → S) → Pairs op → (x u : S) (xs us : List S) → Within x u → Everywhere Within xs us → Within (folded op x xs) (folded op u us)
  within_folded op p x u [] [] r a = r
  within_folded op p x u [] (w ∷ us) r a = absurd a
  within_folded op p x u (y ∷ xs) [] r a = absurd a
  within_folded op p x u (y ∷ xs) (w ∷ us) r a = within_folded op p (op x y) (op u w) xs us (p x y u w r a.0) a.1

  within_joined : (op : S → S → S) → Pairs op → (e : S) (xs us : List S) → Everywhere Within xs us → Within (joined op e xs) (joined op e us)
  within_joined op p e [] [] a = λ b h. h
  within_joined op p e [] (w ∷ us) a = absurd a
  within_joined op p e (y ∷ xs) [] a = absurd a
  within_joined op p e (y ∷ xs) (w ∷ us) a = within_folded op p y w xs us a.0 a.1

  within_truth : (f : Function) (xs us : List S) → Everywhere Within xs us → Within (truth o f xs) (truth o f us)
  within_truth Ida xs us a = within_joined o.either within_either (o.constant false) xs us a
  within_truth And2 xs us a = within_joined o.both within_both (o.constant true) xs us a
  within_truth Or2 xs us a = within_joined o.either within_either (o.constant false) xs us a
  within_truth Xor2 xs us a = within_joined o.unlike within_unlike (o.constant false) xs us a
  within_truth Inva xs us a = within_negated (joined o.either (o.constant false) xs) (joined o.either (o.constant false) us) (within_joined o.either within_either (o.constant false) xs us a)
  within_truth Nand2 xs us a = within_negated (joined o.both (o.constant true) xs) (joined o.both (o.constant true) us) (within_joined o.both within_both (o.constant true) xs us a)
  within_truth Nor2 xs us a = within_negated (joined o.either (o.constant false) xs) (joined o.either (o.constant false) us) (within_joined o.either within_either (o.constant false) xs us a)
  within_truth Xnor2 xs us a = within_negated (joined o.unlike (o.constant false) xs) (joined o.unlike (o.constant false) us) (within_joined o.unlike within_unlike (o.constant false) xs us a)
  within_truth Zero xs us a = λ b h. h
  within_truth One xs us a = λ b h. h

  module _ (t : Option Stuck) where
    within_unless : (b : Bool) (x u : S) → Within x u → Within (unless_stuck o t b x) (unless_stuck o t b u)
    within_unless true x u r = λ c h. h
    within_unless false x u r = r

    within_pins : (xs us : List S) (j p : ℕ) (reads : List ℕ) → Everywhere Within xs us → Everywhere Within (pin_values o t xs j p reads) (pin_values o t us j p reads)
    within_pins xs us j p [] a = tt
    within_pins xs us j p (n ∷ reads) a = (
      within_unless (sticks_pin t j p) (get_or xs n (o.constant false)) (get_or us n (o.constant false)) (everywhere_read Within xs us n (o.constant false) (o.constant false) (λ b h. h) a),
      within_pins xs us j (suc p) reads a,
    )

    within_gate : (xs us : List S) (j : ℕ) (g : Gate) → Everywhere Within xs us → Within (gate_net o t xs j g) (gate_net o t us j g)
    within_gate xs us j g a =
        within_unless (sticks_net t j) (truth o g.function (pin_values o t xs j 0 (pins_of g))) (truth o g.function (pin_values o t us j 0 (pins_of g)))
        (within_truth g.function (pin_values o t xs j 0 (pins_of g)) (pin_values o t us j 0 (pins_of g)) (within_pins xs us j 0 (pins_of g) a))

    within_walked : (gs : List Gate) (j : ℕ) (xs us : List S) → Everywhere Within xs us → Everywhere Within (walked o t j xs gs) (walked o t j us gs)
    within_walked [] j xs us a = a
    within_walked (g ∷ gs) j xs us a =
        within_walked gs (suc j) (xs ++ (gate_net o t xs j g ∷ [])) (us ++ (gate_net o t us j g ∷ [])) (everywhere_push Within xs us (gate_net o t xs j g) (gate_net o t us j g) a (within_gate xs us j g a))

    within_entered : (j : ℕ) (xs us : List S) → Everywhere Within xs us → Everywhere Within (entered o t j xs) (entered o t j us)
    within_entered j [] [] a = tt
    within_entered j [] (u ∷ us) a = absurd a
    within_entered j (x ∷ xs) [] a = absurd a
    within_entered j (x ∷ xs) (u ∷ us) a = (within_unless (sticks_net t j) x u a.0, within_entered (suc j) xs us a.1)

    -- inputs that allow less make nets that allow less
    pub within_nets : (c : Netlist) (xs us : List S) → Everywhere Within xs us → Everywhere Within (net_values o t c xs) (net_values o t c us)
    within_nets c xs us a = within_walked c.gates c.inputs (entered o t 0 xs) (entered o t 0 us) (within_entered 0 xs us a)

-- ---- three values

abbrev Finer : Ternary → Ternary → Type 0
Finer = Within ternary_operations Allows ternary_exact

finer_cell : (c d x y b : Bool) → (d ≡ true → c ≡ true) → (d ≡ true → x ≡ y) → has (cell_of c x) b ≡ true → has (cell_of d y) b ≡ true
finer_cell c false x y b f g h = refl
finer_cell true true x y b f g h = subst (λ (z : Bool). has (cell_of true z) b ≡ true) (g refl) h
finer_cell false true x y b f g h = absurd (false≢true (f refl))

finer_cells : (v w : Cells) (j n : ℕ) → Extends v w → Everywhere Finer (cells_from v j n) (cells_from w j n)
finer_cells v w j zero e = tt
finer_cells v w j (suc n) e = (λ b. finer_cell (bit_at v.care j) (bit_at w.care j) (bit_at v.value j) (bit_at w.value j) b (e.fixes j) (e.same_bit j), finer_cells v w (suc j) n e)

low_stays : (x : Ternary) → Finer x Low → x ≡ Low
low_stays Low r = refl
low_stays High r = absurd (false≢true (r true refl))
low_stays X r = absurd (false≢true (r true refl))

high_stays : (x : Ternary) → Finer x High → x ≡ High
high_stays Low r = absurd (false≢true (r false refl))
high_stays High r = refl
high_stays X r = absurd (false≢true (r false refl))

finer_opposite : (x y u w : Ternary) → Finer x u → Finer y w → opposite u w ≡ true → opposite x y ≡ true
finer_opposite x y Low Low r s e = absurd (false≢true e)
finer_opposite x y Low High r s e = ap₂ opposite (low_stays x r) (high_stays y s)
finer_opposite x y Low X r s e = absurd (false≢true e)
finer_opposite x y High Low r s e = ap₂ opposite (high_stays x r) (low_stays y s)
finer_opposite x y High High r s e = absurd (false≢true e)
finer_opposite x y High X r s e = absurd (false≢true e)
finer_opposite x y X w r s e = absurd (false≢true e)

pub finer_at : (c : Netlist) (t : Option Stuck) (v w : Cells) (net : ℕ) → Extends v w → Finer (get_or (ternary_nets c t v) net X) (get_or (ternary_nets c t w) net X)
finer_at c t v w net e =
    everywhere_read Finer (ternary_nets c t v) (ternary_nets c t w) net X X (λ b h. h)
    (within_nets ternary_operations Allows ternary_exact t c (start c.inputs v) (start c.inputs w) (finer_cells v w 0 c.inputs e))

-- what extends a vector catches what that catches
pub catches_more : (c : Netlist) (s : Stuck) (v w : Cells) → Extends v w → catches c s w ≡ true → catches c s v ≡ true
catches_more c s v w e h =
    let r = somewhere_at (ternary_nets c None w) (ternary_nets c (Some s) w) c.outputs h in
    let net : ℕ = get_or c.outputs r.0 0 in
    at_somewhere (ternary_nets c None v) (ternary_nets c (Some s) v) c.outputs r.0 r.1
    (finer_opposite (get_or (ternary_nets c None v) net X) (get_or (ternary_nets c (Some s) v) net X) (get_or (ternary_nets c None w) net X) (get_or (ternary_nets c (Some s) w) net X)
    (finer_at c None v w net e) (finer_at c (Some s) v w net e) r.2)

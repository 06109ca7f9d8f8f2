-- Text put in parts is put as one, and one byte is put where there is room for it.
use Rattle.std.proofs.Common.{◌≡◌, ℕ, zero, suc, ◌+◌, ◌-◌, ◌<◌, ◌≤◌, Bool, true, false, ◌&&◌, leb, List, [], ◌∷◌, ◌++◌, length, take, drop, set, is_some, IfSome, Some, None, Option, sym, refl, ap, ◌∙◌, append_assoc, append-nil, arith, length-append, length-drop}
use lib.Seq.{take-nil}
use Rattle.std.specs.Borrow.{GName}
use Rattle.std.proofs.lemmas.List.{drop_all, drop-drop, drop-set-lt, take_all, take_more_set}
use Rattle.std.proofs.lemmas.Bool.{le-leb, leb-true}
use Rattle.std.proofs.lemmas.Bool.Decides.{nat_tests}
use Rattle.page.specs.Pages.{Filled, fresh, putting, written}

abbrev filled : GName → List ℕ → List ℕ → Bool → Filled
filled l t b w = record { lent = l; text = t; behind = b; whole = w }

same : (l : GName) (t u b d : List ℕ) (w x : Bool) → t ≡ u → b ≡ d → w ≡ x → filled l t b w ≡ filled l u d x
same l t u b d w x e f g = ap (λ (z : List ℕ). filled l z b w) e ∙ ap (λ (z : List ℕ). filled l u z w) f ∙ ap (λ (z : Bool). filled l u d z) g

-- as much of two texts as there is room for
take_parts : (n : ℕ) (a b : List ℕ) → take n a ++ take (n - length a) b ≡ take n (a ++ b)
take_parts n [] b = let e : n - 0 ≡ n = omega arith in ap (λ xs. xs ++ take (n - 0) b) (take-nil n) ∙ ap (λ (k : ℕ). take k b) e
take_parts zero (x ∷ a) b = let e : 0 - suc (length a) ≡ 0 = omega arith in ap (λ (k : ℕ). take k b) e
take_parts (suc n) (x ∷ a) b = let e : suc n - suc (length a) ≡ n - length a = omega arith in ap (λ xs. x ∷ xs) (ap (λ (k : ℕ). take n a ++ take k b) e ∙ take_parts n a b)

leb_parts : (m n k : ℕ) → (leb m k && leb n (k - m)) ≡ leb (m + n) k
leb_parts m n k = grind (arith, nat_tests)

and_parts : (w x y z : Bool) → (x && y) ≡ z → ((w && x) && y) ≡ (w && z)
and_parts true x y z e = e
and_parts false x y z e = refl

and_true : (w x : Bool) → x ≡ true → (w && x) ≡ w
and_true true x e = e
and_true false x e = refl

and_false : (w x : Bool) → x ≡ false → (w && x) ≡ false
and_false true x e = e
and_false false x e = refl

pub put_parts : (a b : List ℕ) (p : Filled) → putting b (putting a p) ≡ putting (a ++ b) p
unfolding putting
put_parts a b p =
    let t = p.behind in
    let r = length-drop (length a) t in
    same _ _ _ _ _ _ _
    (append_assoc p.text (take (length t) a) (take (length (drop (length a) t)) b) ∙ ap (λ z. p.text ++ z) (ap (λ (k : ℕ). take (length t) a ++ take k b) r ∙ take_parts (length t) a b))
    (drop-drop (length b) (length a) t ∙ ap (λ (k : ℕ). drop k t) (sym (length-append a b)))
    (and_parts p.whole (leb (length a) (length t)) (leb (length b) (length (drop (length a) t))) (leb (length (a ++ b)) (length t))
    (ap (λ (k : ℕ). leb (length a) (length t) && leb (length b) k) r ∙ leb_parts (length a) (length b) (length t) ∙ ap (λ (k : ℕ). leb k (length t)) (sym (length-append a b))))

-- one text behind the other
pub put_then : (a b : List ℕ) (p q r : Filled) → q ≡ putting a p → r ≡ putting b q → r ≡ putting (a ++ b) p
put_then a b p q r e f = f ∙ ap (putting b) e ∙ put_parts a b p

pub put_none : (p : Filled) → putting [] p ≡ p
unfolding putting
put_none p =
    same _ _ _ _ _ _ _ (ap (λ z. p.text ++ z) (take-nil (length p.behind)) ∙ append-nil p.text) refl (and_true p.whole (leb 0 (length p.behind)) (le-leb 0 (length p.behind) (omega arith)))

-- a page keeps its buffer
pub lent_kept : (t : List ℕ) (p q : Filled) → q ≡ putting t p → q.lent ≡ p.lent
unfolding putting
lent_kept t p q e = ap (λ (f : Filled). f.lent) e

-- one byte where there is room
pub byte_put : (l : GName) (xs : List ℕ) (n x : ℕ) (w : Bool) → n < length xs → filled l (take (n + 1) (set xs n x)) (drop (n + 1) (set xs n x)) w ≡ putting (x ∷ []) (filled l (take n xs) (drop n xs) w)
unfolding putting
byte_put l xs n x w h =
    let r : 1 ≤ length (drop n xs) = omega (arith, length-drop n xs) in
    same _ _ _ _ _ _ _
    (take_more_set xs n x h ∙ ap (λ z. take n xs ++ z) (sym (take_all (length (drop n xs)) (x ∷ []) r)))
    (drop-set-lt (n + 1) xs n x (omega arith) ∙ sym (drop-drop 1 n xs))
    (sym (and_true w (leb 1 (length (drop n xs))) (le-leb 1 (length (drop n xs)) r)))

-- and where there is none
no_room : (l : GName) (t b : List ℕ) (x : ℕ) (w : Bool) → b ≡ [] → filled l t b false ≡ putting (x ∷ []) (filled l t b w)
unfolding putting
no_room l t [] x w e = same _ _ _ _ _ _ _ (sym (append-nil t)) refl (sym (and_false w false refl))
no_room l t (y ∷ b) x w e = let z : suc (length b) ≡ 0 = ap length e in absurd (omega arith)

pub byte_cut : (l : GName) (xs : List ℕ) (n x : ℕ) (w : Bool) → length xs ≤ n → filled l (take n xs) (drop n xs) false ≡ putting (x ∷ []) (filled l (take n xs) (drop n xs) w)
byte_cut l xs n x w h = no_room l (take n xs) (drop n xs) x w (drop_all n xs h)

-- ---- a text on a fresh page, which is then ended

-- what a page with this text on it answers at its end, and leaves in the buffer
pub record Finished (t b last : List ℕ) (r : Option ℕ) : Type 0 where
  pub fits : is_some r ≡ leb (length t) (length b)
  pub long : IfSome r (λ n. n ≡ length t)
  pub left : last ≡ written t b
  pub behind : is_some r ≡ true → last ≡ t ++ drop (length t) b

fresh_whole : (l : GName) (t b : List ℕ) → (putting t (fresh l b)).whole ≡ leb (length t) (length b)
unfolding putting
fresh_whole l t b = refl

fresh_text : (l : GName) (t b : List ℕ) → length t ≤ length b → (putting t (fresh l b)).text ≡ t
unfolding putting
fresh_text l t b h = take_all (length b) t h

fresh_left : (l : GName) (t b : List ℕ) → (putting t (fresh l b)).text ++ (putting t (fresh l b)).behind ≡ written t b
unfolding putting
fresh_left l t b = refl

answered : (r : Option ℕ) (n m : ℕ) → (is_some r ≡ true → n ≡ m) → IfSome r (λ k. k ≡ n) → IfSome r (λ k. k ≡ m)
answered None n m f h = tt
answered (Some k) n m f h = h ∙ f refl

pub finished : (l : GName) (t b last : List ℕ) (r : Option ℕ) (p : Filled) → p ≡ putting t (fresh l b) → is_some r ≡ p.whole → IfSome r (λ n. n ≡ length p.text) → last ≡ p.text ++ p.behind → Finished t b last r
finished l t b last r p e w n k =
    let fit : is_some r ≡ leb (length t) (length b) = w ∙ ap (λ (q : Filled). q.whole) e ∙ fresh_whole l t b in
    let left : last ≡ written t b = k ∙ ap (λ (q : Filled). q.text ++ q.behind) e ∙ fresh_left l t b in
    let room : is_some r ≡ true → length t ≤ length b = λ y. leb-true (length t) (length b) (sym fit ∙ y) in
    record {
      fits = fit;
      long = answered r (length p.text) (length t) (λ y. ap (λ (q : Filled). length q.text) e ∙ ap length (fresh_text l t b (room y))) n;
      left = left;
      behind = λ y. left ∙ ap (λ z. z ++ drop (length t) b) (take_all (length b) t (room y));
    }

-- a buffer that is what the page left
pub via : {x z : List ℕ} (y : List ℕ) → y ≡ z → x ≡ y → x ≡ z
via y e f = f ∙ e

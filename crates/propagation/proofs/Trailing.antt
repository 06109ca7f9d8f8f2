-- The trail: what growing it leaves of the setting.
use Rattle.std.proofs.Common.{◌≡◌, ℕ, zero, suc, ◌+◌, ◌≤◌, Bool, false, List, [], ◌∷◌, ◌++◌, length, take, drop, set, ℤ, Some, None, Option, sym, refl, ap, ◌∙◌, ap₂, append_assoc, append-nil, arith, length-append, length-set, set-set}
use Rattle.std.proofs.lemmas.List.{drop-append-le, take-append-le}
use lib.Seq.{set-get_or}
use Rattle.solving.specs.Settings.{Setting, at, made, open_in}
use Rattle.solving.specs.Literals.{place, wants}
use Rattle.solving.proofs.Places.{open_falls, open_inside}
use Rattle.propagation.specs.Trails.{unmade, unmade_all, Grown}
use Rattle.propagation.specs.Assignments.{Assigned, unwound, Undone}

pub unset : (a : Setting) (j : ℕ) (x : Option Bool) → at a j ≡ None → set (set a j x) j None ≡ a
unset a j x o = set-set a j x None ∙ ap (set a j) (sym o) ∙ set-get_or a j (Some false)

pub unmade_append : (a : Setting) (s t : List ℤ) → unmade_all a (s ++ t) ≡ unmade_all (unmade_all a t) s
unmade_append a [] t = refl
unmade_append a (l ∷ s) t = ap (λ (b : Setting). unmade b l) (unmade_append a s t)

-- nothing more, one more, and one growth after another
pub grown_none : (a : Setting) (s : List ℤ) → Grown a a s s
grown_none a s = record { more = []; trail = sym (append-nil s); undone = refl; long = refl; room = refl }

pub grown_more : (a b : Setting) (s t : List ℤ) (l : ℤ) → Grown a b s t → at b (place l) ≡ None → Grown a (made b l) s (t ++ (l ∷ []))
grown_more a b s t l g o =
    let e = length-set b (place l) (Some (wants l)) in
    let f = open_falls b (length b) (place l) (wants l) o (open_inside b (place l) o) in
    let h : open_in (length (made b l)) (made b l) ≡ open_in (length b) (made b l) = ap (λ k. open_in k (made b l)) e in
    record {
      more = g.more ++ (l ∷ []);
      trail = ap (λ (x : List ℤ). x ++ (l ∷ [])) g.trail ∙ append_assoc s g.more (l ∷ []);
      undone = unmade_append (made b l) g.more (l ∷ []) ∙ ap (λ (x : Setting). unmade_all x g.more) (unset b (place l) (Some (wants l)) o) ∙ g.undone;
      long = e ∙ g.long;
      room = simp length-append (omega (arith, g.room));
    }

pub grown_on : (a b d : Setting) (s t u : List ℤ) → Grown a b s t → Grown b d t u → Grown a d s u
grown_on a b d s t u g h = record {
  more = g.more ++ h.more;
  trail = h.trail ∙ ap (λ (x : List ℤ). x ++ h.more) g.trail ∙ append_assoc s g.more h.more;
  undone = unmade_append d g.more h.more ∙ ap (λ (x : Setting). unmade_all x g.more) h.undone ∙ g.undone;
  long = h.long ∙ g.long;
  room = h.room ∙ g.room;
}

pub grown_longer : (a b : Setting) (s t : List ℤ) → Grown a b s t → length s ≤ length t
grown_longer a b s t g = let e = ap length g.trail ∙ length-append s g.more in omega (arith, e)

-- opening one variable opens at most one
pub open_unset : (a : Setting) (k j : ℕ) → open_in k (set a j None) ≤ suc (open_in k a)
open_unset a zero j = omega arith
open_unset [] (suc k) j = omega arith
open_unset (x ∷ a) (suc k) zero = omega arith
open_unset (x ∷ a) (suc k) (suc j) = let h = open_unset a k j in omega arith

pub unmade_length : (a : Setting) (t : List ℤ) → length (unmade_all a t) ≡ length a
unmade_length a [] = refl
unmade_length a (l ∷ t) = length-set (unmade_all a t) (place l) None ∙ unmade_length a t

pub open_unmade : (a : Setting) (k : ℕ) (t : List ℤ) → open_in k (unmade_all a t) ≤ length t + open_in k a
open_unmade a k [] = omega arith
open_unmade a k (l ∷ t) = let h = open_unmade a k t in let g = open_unset (unmade_all a t) k (place l) in omega arith

-- one literal off the trail
pub unwind_values : (v : Setting) (t s : List ℤ) (l : ℤ) (to : ℕ) → t ≡ s ++ (l ∷ []) → to ≤ length s → unmade_all (unmade v l) (drop to s) ≡ unmade_all v (drop to t)
unwind_values v t s l to e h = sym (ap (λ (x : List ℤ). unmade_all v (drop to x)) e ∙ ap (unmade_all v) (drop-append-le to s (l ∷ []) h) ∙ unmade_append v (drop to s) (l ∷ []))

pub unwind_trail : (t s : List ℤ) (l : ℤ) (to : ℕ) → t ≡ s ++ (l ∷ []) → to ≤ length s → take to s ≡ take to t
unwind_trail t s l to e h = sym (ap (take to) e ∙ take-append-le to s (l ∷ []) h)

-- giving a variable a bit opens none
pub open_set : (a : Setting) (k j : ℕ) (b : Bool) → open_in k (set a j (Some b)) ≤ open_in k a
open_set a zero j b = omega arith
open_set [] (suc k) j b = omega arith
open_set (x ∷ a) (suc k) zero b = omega arith
open_set (x ∷ a) (suc k) (suc j) b = let h = open_set a k j b in omega arith

pub undone_unwound : (a b : Assigned) (to : ℕ) → Undone a b → to ≤ length b.trail → unwound b to ≡ unwound a to
undone_unwound a b to u h = ap₂ (λ (s : Setting) (t : List ℤ). record { setting = s; trail = t })
    (ap (λ (x : Setting). unmade_all x (drop to b.trail)) u.setting ∙ unwind_values a.setting a.trail b.trail u.latest to u.trail h)
    (unwind_trail a.trail b.trail u.latest to u.trail h)

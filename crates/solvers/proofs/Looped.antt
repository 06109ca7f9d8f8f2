-- Each turn of backtracking's loop keeps its invariant, and each way out of it gives the answer of the definition.
use Rattle.std.proofs.Common.{◌≡◌, ℕ, suc, ◌+◌, ◌<◌, ◌≤◌, Bool, true, false, List, [], ◌∷◌, ◌++◌, map, length, take, drop, set, ℤ, Some, None, sym, refl, ap, ◌∙◌, subst, ap₂, arith, length-append, length-drop, length-take}
use Rattle.solvers.specs.declared.decision.Decision.{Decision}
use Rattle.solving.specs.Settings.{Setting, at, made, open_in}
use Rattle.solving.specs.Literals.{place, wants}
use Rattle.solving.specs.Closing.{closure, violated, first_unit}
use Rattle.solving.specs.Trials.{found, none, undecided}
use Rattle.solving.specs.Backtracking.{backtracking, lowest, lowest_open, to_zero}
use Rattle.solvers.proofs.Resuming.{Frame, turned, deep, resume}
use Rattle.propagation.specs.Trails.{unmade_all, Grown}
use Rattle.propagation.specs.Following.{Pending}
use Rattle.solvers.proofs.Trails.{frame_at, frames_of, Rising}
use Rattle.solvers.proofs.Looping.{OpenFrames, ClosedFrames, Kept}
use Rattle.solving.proofs.Places.{open_inside}
use Rattle.solving.proofs.Costs.{lowest_law}
use Rattle.solvers.proofs.Resumed.{turns}
use Rattle.solving.proofs.Closures.{rests}
use Rattle.propagation.proofs.Trailing.{unset, grown_none, grown_more, open_unmade, unmade_length}
use Rattle.propagation.proofs.Followed.{pending_made, pending_as}
use Rattle.std.proofs.lemmas.List.{drop_at}
use Rattle.solvers.proofs.Trailing.{frames_grown, frames_unwound, rising_more, rising_last, rising_push}

map_last : (f : Decision → Frame) (cs : List Decision) (c : Decision) → map f (cs ++ (c ∷ [])) ≡ map f cs ++ (f c ∷ [])
map_last f [] c = refl
map_last f (d ∷ cs) c = ap (λ (fs : List Frame). f d ∷ fs) (map_last f cs c)

open_last : (fs : List Frame) (f : Frame) → OpenFrames (fs ++ (f ∷ [])) → OpenFrames fs × (at f.base f.choice.var ≡ None)
open_last [] f o = (tt, o.0)
open_last (g ∷ fs) f o = let h = open_last fs f o.1 in ((o.0, h.0), h.1)

open_push : (fs : List Frame) (f : Frame) → OpenFrames fs → at f.base f.choice.var ≡ None → OpenFrames (fs ++ (f ∷ []))
open_push [] f o h = (h, tt)
open_push (g ∷ fs) f o h = (o.0, open_push fs f o.1 h)

closed_last : (cs : List (List ℤ)) (fs : List Frame) (f : Frame) → ClosedFrames cs (fs ++ (f ∷ [])) → ClosedFrames cs fs × (violated f.base cs ≡ false) × (first_unit f.base cs ≡ None)
closed_last cs [] f o = (tt, o.0, o.1)
closed_last cs (g ∷ fs) f o = let h = closed_last cs fs f o.2 in ((o.0, o.1, h.0), h.1, h.2)

closed_push : (cs : List (List ℤ)) (fs : List Frame) (f : Frame) → ClosedFrames cs fs → violated f.base cs ≡ false → first_unit f.base cs ≡ None → ClosedFrames cs (fs ++ (f ∷ []))
closed_push cs [] f o h g = (h, g, tt)
closed_push cs (x ∷ fs) f o h g = (o.0, o.1, closed_push cs fs f o.2 h g)

module _ (cs : List (List ℤ)) (budget : ℕ) (start : Setting) where
  pub loop_begin : (t : List ℤ) (ch : List Decision) → ch ≡ [] → length t + open_in (length start) start ≤ length start → Kept cs budget start start start t ch 0
  loop_begin t ch e h = subst (λ (x : List Decision). Kept cs budget start start start t x 0) (sym e) (record { same = refl; rising = omega arith; opened = tt; closed = tt; room = h; long = refl })

  -- the frames stay as literals are made true
  frames_kept : (b d : Setting) (t u : List ℤ) (ch : List Decision) → Rising 0 (length t) ch → Grown b d t u → frames_of d u ch ≡ frames_of b t ch
  frames_kept b d t u ch r g = ap (λ (x : List ℤ). frames_of d x ch) g.trail ∙ frames_grown d t g.more 0 ch r ∙ ap (λ (x : Setting). frames_of x t ch) g.undone

  pub loop_grown : (a b d : Setting) (t u : List ℤ) (ch : List Decision) (s : ℕ) → Kept cs budget start a b t ch s → Grown b d t u → Kept cs budget start a d u ch s
  loop_grown a b d t u ch s k g =
      let f = frames_kept b d t u ch k.rising g in
      let l : length t ≤ length u = rw g.trail (simp length-append (omega arith)) in
      record {
        same = ap (λ (fs : List Frame). resume lowest cs budget fs (deep lowest cs budget a s)) f ∙ k.same;
        rising = rising_more 0 (length t) (length u) ch l k.rising;
        opened = subst OpenFrames (sym f) k.opened;
        closed = subst (ClosedFrames cs) (sym f) k.closed;
        room = omega (arith, g.room, k.room);
        long = g.long ∙ k.long;
      }

  choice_of : (b : Setting) (j : ℕ) → lowest_open b ≡ Some j → lowest b ≡ Some (record { var = j; bit = false })
  choice_of b j e = ap to_zero e

  -- a choice
  pub loop_decide : (a b : Setting) (t : List ℤ) (ch : List Decision) (s : ℕ) (j : ℕ) (l : ℤ) (c : Decision) → Kept cs budget start a b t ch s → b ≡ closure cs a → violated (closure cs a) cs ≡ false → lowest_open b ≡ Some j → s < budget → place l ≡ j → wants l ≡ false → c.at ≡ length t → c.var ≡ j
      → Kept cs budget start (made b l) (made b l) (t ++ (l ∷ [])) (ch ++ (c ∷ [])) (suc s)
  loop_decide a b t ch s j l c k eb v lo h pl wl ca cv =
      let e = choice_of b j lo in
      let o : at b j ≡ None = lowest_law.0.opens b _ e in
      let ol : at b (place l) ≡ None = ap (at b) pl ∙ o in
      let g = grown_more b b t t l (grown_none b t) ol in
      let m : made b l ≡ set b j (Some false) = ap₂ (λ (i : ℕ) (x : Bool). set b i (Some x)) pl wl in
      let f0 = frames_kept b (made b l) t (t ++ (l ∷ [])) ch k.rising g in
      let d : drop c.at (t ++ (l ∷ [])) ≡ l ∷ [] = ap (λ n. drop n (t ++ (l ∷ []))) ca ∙ drop_all t (l ∷ []) in
      let fc : frame_at (made b l) (t ++ (l ∷ [])) c ≡ record { base = b; choice = record { var = j; bit = false } } = ap₂ (λ (x : Setting) (i : ℕ). record { base = x; choice = record { var = i; bit = false } }) (ap (unmade_all (made b l)) d ∙ unset b (place l) (Some (wants l)) ol) cv in
      let f : frames_of (made b l) (t ++ (l ∷ [])) (ch ++ (c ∷ [])) ≡ frames_of b t ch ++ (record { base = b; choice = record { var = j; bit = false } } ∷ []) = map_last (frame_at (made b l) (t ++ (l ∷ []))) ch c ∙ ap₂ (λ (fs : List Frame) (x : Frame). fs ++ (x ∷ [])) f0 fc in
      let q = (turns lowest lowest_law.0 cs budget (frames_of b t ch) a s).choose (record { var = j; bit = false }) v (ap lowest (sym eb) ∙ e) h in
      let n = loop_grown a b (made b l) t (t ++ (l ∷ [])) ch s k g in
      record {
        same = ap₂ (λ (fs : List Frame) (x : Setting). resume lowest cs budget fs (deep lowest cs budget x (suc s))) (f ∙ ap (λ (x : Setting). frames_of b t ch ++ (record { base = x; choice = record { var = j; bit = false } } ∷ [])) eb) (m ∙ ap (λ (x : Setting). set x j (Some false)) eb) ∙ sym q ∙ k.same;
        rising = rising_push 0 (length (t ++ (l ∷ []))) ch c (subst (λ n. Rising 0 n ch) (sym ca) k.rising) (simp length-append (omega (arith, ca)));
        opened = subst OpenFrames (sym f) (open_push (frames_of b t ch) (record { base = b; choice = record { var = j; bit = false } }) k.opened o);
        closed = subst (ClosedFrames cs) (sym f) (closed_push cs (frames_of b t ch) (record { base = b; choice = record { var = j; bit = false } }) k.closed (ap (λ (x : Setting). violated x cs) eb ∙ v) (ap (λ (x : Setting). first_unit x cs) eb ∙ rests cs a));
        room = n.room;
        long = n.long;
      }
    where
      drop_all : (t u : List ℤ) → drop (length t) (t ++ u) ≡ u
      drop_all [] u = refl
      drop_all (x ∷ t) u = drop_all t u

  -- a turn
  pub loop_turn : (a b : Setting) (t : List ℤ) (ch gs : List Decision) (c : Decision) (s : ℕ) (l : ℤ) → Kept cs budget start a b t ch s → violated (closure cs a) cs ≡ true → ch ≡ gs ++ (c ∷ []) → s < budget → place l ≡ c.var → wants l ≡ true
      → Kept cs budget start (made (unmade_all b (drop c.at t)) l) (made (unmade_all b (drop c.at t)) l) (take c.at t ++ (l ∷ [])) gs (suc s)
  loop_turn a b t ch gs c s l k v ec h pl wl =
      let base = unmade_all b (drop c.at t) in
      let r = rising_last 0 (length t) gs c (subst (Rising 0 (length t)) ec k.rising) in
      let fs : frames_of b t ch ≡ frames_of b t gs ++ (frame_at b t c ∷ []) = ap (frames_of b t) ec ∙ map_last (frame_at b t) gs c in
      let os = open_last (frames_of b t gs) (frame_at b t c) (subst OpenFrames fs k.opened) in
      let ks = closed_last cs (frames_of b t gs) (frame_at b t c) (subst (ClosedFrames cs) fs k.closed) in
      let fu = frames_unwound b t c.at 0 gs (omega (arith, r.1)) r.0 in
      let q = (turns lowest lowest_law.0 cs budget (frames_of b t ch) a s).turn (frames_of b t gs) (frame_at b t c) v fs h in
      let lt : length (take c.at t) ≡ c.at = length-take c.at t ∙ (omega (arith, r.1)) in
      let ld = length-drop c.at t in
      let lb = unmade_length b (drop c.at t) in
      let ou = open_unmade b (length b) (drop c.at t) in
      let eo : open_in (length base) base ≡ open_in (length b) base = ap (λ n. open_in n base) lb in
      let ol : at base (place l) ≡ None = ap (at base) pl ∙ os.1 in
      let m : made base l ≡ turned (frame_at b t c) = ap₂ (λ (i : ℕ) (x : Bool). set base i (Some x)) pl wl in
      let k1 : Kept cs budget start (made base l) base (take c.at t) gs (suc s) = record {
        same = ap₂ (λ (fs : List Frame) (x : Setting). resume lowest cs budget fs (deep lowest cs budget x (suc s))) fu m ∙ sym q ∙ k.same;
        rising = subst (λ n. Rising 0 n gs) (sym lt) r.0;
        opened = subst OpenFrames (sym fu) os.0;
        closed = subst (ClosedFrames cs) (sym fu) ks.0;
        room = omega (arith, lt, ld, eo, ou, k.room, r.1);
        long = lb ∙ k.long;
      } in
      loop_grown (made base l) base (made base l) (take c.at t) (take c.at t ++ (l ∷ [])) gs (suc s) k1 (grown_more base base (take c.at t) (take c.at t) l (grown_none base (take c.at t)) ol)

  -- what is to be followed up after a choice and after a turn: the latest literal alone
  pub decide_pending : (a b : Setting) (t : List ℤ) (j n : ℕ) (l : ℤ) → b ≡ closure cs a → violated (closure cs a) cs ≡ false → lowest_open b ≡ Some j → place l ≡ j → n ≡ length t → Pending cs (made b l) (drop n (t ++ (l ∷ [])))
  decide_pending a b t j n l eb v lo pl en =
      let o : at b j ≡ None = lowest_law.0.opens b _ (choice_of b j lo) in
      pending_as cs (made b l) (made b l) (l ∷ []) (drop n (t ++ (l ∷ []))) refl (sym (drop_at t (l ∷ []) n (sym en)))
      (pending_made cs b l (ap (λ (x : Setting). violated x cs) eb ∙ v) (ap (λ (x : Setting). first_unit x cs) eb ∙ rests cs a) (ap (at b) pl ∙ o))

  pub turn_pending : (a b : Setting) (t : List ℤ) (ch gs : List Decision) (c : Decision) (s n : ℕ) (l : ℤ) → Kept cs budget start a b t ch s → ch ≡ gs ++ (c ∷ []) → place l ≡ c.var → n ≡ c.at → Pending cs (made (unmade_all b (drop c.at t)) l) (drop n (take c.at t ++ (l ∷ [])))
  turn_pending a b t ch gs c s n l k ec pl en =
      let base = unmade_all b (drop c.at t) in
      let r = rising_last 0 (length t) gs c (subst (Rising 0 (length t)) ec k.rising) in
      let fs : frames_of b t ch ≡ frames_of b t gs ++ (frame_at b t c ∷ []) = ap (frames_of b t) ec ∙ map_last (frame_at b t) gs c in
      let os = open_last (frames_of b t gs) (frame_at b t c) (subst OpenFrames fs k.opened) in
      let ks = closed_last cs (frames_of b t gs) (frame_at b t c) (subst (ClosedFrames cs) fs k.closed) in
      let lt : length (take c.at t) ≡ n = length-take c.at t ∙ (omega (arith, r.1, en)) in
      pending_as cs (made base l) (made base l) (l ∷ []) (drop n (take c.at t ++ (l ∷ []))) refl (sym (drop_at (take c.at t) (l ∷ []) n lt)) (pending_made cs base l ks.1 ks.2 (ap (at base) pl ∙ os.1))

  pub loop_tired : (a b : Setting) (t : List ℤ) (ch gs : List Decision) (c : Decision) (s : ℕ) → Kept cs budget start a b t ch s → violated (closure cs a) cs ≡ true → ch ≡ gs ++ (c ∷ []) → budget ≤ s → backtracking lowest cs budget start ≡ undecided s
  loop_tired a b t ch gs c s k v ec h = sym k.same ∙ (turns lowest lowest_law.0 cs budget (frames_of b t ch) a s).tired (frames_of b t gs) (frame_at b t c) v (ap (frames_of b t) ec ∙ map_last (frame_at b t) gs c) h

  pub loop_found : (a b : Setting) (t : List ℤ) (ch : List Decision) (s : ℕ) → Kept cs budget start a b t ch s → b ≡ closure cs a → violated (closure cs a) cs ≡ false → lowest_open b ≡ None → backtracking lowest cs budget start ≡ found b s
  loop_found a b t ch s k eb v lo = sym k.same ∙ (turns lowest lowest_law.0 cs budget (frames_of b t ch) a s).found v (ap lowest (sym eb) ∙ ap to_zero lo) ∙ ap (λ (x : Setting). found x s) (sym eb)

  pub loop_weary : (a b : Setting) (t : List ℤ) (ch : List Decision) (s j : ℕ) → Kept cs budget start a b t ch s → b ≡ closure cs a → violated (closure cs a) cs ≡ false → lowest_open b ≡ Some j → budget ≤ s → backtracking lowest cs budget start ≡ undecided s
  loop_weary a b t ch s j k eb v lo h = sym k.same ∙ (turns lowest lowest_law.0 cs budget (frames_of b t ch) a s).weary (record { var = j; bit = false }) v (ap lowest (sym eb) ∙ choice_of b j lo) h

  pub loop_empty : (a b : Setting) (t : List ℤ) (ch : List Decision) (s : ℕ) → Kept cs budget start a b t ch s → ch ≡ [] → violated (closure cs a) cs ≡ true → backtracking lowest cs budget start ≡ none s
  loop_empty a b t ch s k e v = sym k.same ∙ (turns lowest lowest_law.0 cs budget (frames_of b t ch) a s).none v (ap (frames_of b t) e)

  -- what a turn and a choice find open
  pub turn_ready : (a b : Setting) (t : List ℤ) (ch gs : List Decision) (c : Decision) (s : ℕ) → Kept cs budget start a b t ch s → ch ≡ gs ++ (c ∷ []) → (c.at < length t) × (at (unmade_all b (drop c.at t)) c.var ≡ None)
  turn_ready a b t ch gs c s k ec =
      let r = rising_last 0 (length t) gs c (subst (Rising 0 (length t)) ec k.rising) in
      let fs : frames_of b t ch ≡ frames_of b t gs ++ (frame_at b t c ∷ []) = ap (frames_of b t) ec ∙ map_last (frame_at b t) gs c in
      let os = open_last (frames_of b t gs) (frame_at b t c) (subst OpenFrames fs k.opened) in
      (r.1, os.1)

  pub decide_ready : (a b : Setting) (t : List ℤ) (ch : List Decision) (s j : ℕ) → Kept cs budget start a b t ch s → lowest_open b ≡ Some j → (at b j ≡ None) × (length ch < length start)
  decide_ready a b t ch s j k lo =
      let o : at b j ≡ None = lowest_law.0.opens b _ (choice_of b j lo) in
      let p = Rattle.solving.proofs.Places.open_some b (length b) j o (open_inside b j o) in
      (o, omega (arith, p, k.room, Rattle.solvers.proofs.Trailing.rising_length 0 (length t) ch k.rising))

  pub kept_as : (a b : Setting) (t u : List ℤ) (ch gs : List Decision) (s r : ℕ) → b ≡ a → u ≡ t → gs ≡ ch → r ≡ s → Kept cs budget start a a t ch s → Kept cs budget start b b u gs r
  kept_as a b t u ch gs s r p q e f k = rw (p, q, e, f) k

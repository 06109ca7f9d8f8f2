use Rattle.std.proofs.Common.{◌≡◌, ◌<◌, [], ◌∷◌, ◌++◌, length, get_or, take, drop, Ok, sym, refl, ap, ◌∙◌, arith, length-drop, length-take, w16, SFits, rules}
use lib.Seq.{drop-append-le}
use Rattle.std.proofs.lemmas.Int.{to_z-of_z}
use Rattle.std.proofs.lemmas.Result.{err_from_is_err_and}
use Rattle.solving.specs.Literals.{place}
use Rattle.solving.specs.Settings.{open_in}
use Rattle.solving.specs.Orders.{stop}
use Rattle.solving.proofs.Places.{open_inside, open_some}
use Rattle.propagation.specs.Clauses.{clauses_listed}
use Rattle.propagation.proofs.Rows.{clauses_length, stands_at}
use Rattle.propagation.proofs.Scanned.{scan_open, scan_falls}
use Rattle.propagation.proofs.Trailing.{grown_none, grown_more, grown_longer}
use Rattle.propagation.proofs.Reached.{reach_more}
use Rattle.propagation.proofs.Followed.{look_none, look_unit, look_end, look_broken}
use Rattle.propagation.proofs.close.begin_by_lists.Goals as goal

pub loop-c-init : goal.loop-c-init
loop-c-init c =
    let t = take c.args.trail.now.len c.args.trail.now.entries.now in
    let l : length (drop c.args.trail.now.len t) ≡ 0 = simp (length-drop, length-take) (omega arith) in
    (look_none (clauses_listed c.args.clauses) c.args.values.now _ l, stop, grown_none c.args.values.now t, refl, c.requires.space, omega arith)

pub returns-in_err-c : goal.returns-in_err-c
returns-in_err-c c =
    let b = look_broken (clauses_listed c.args.clauses) c.loop-c.first _ c.loop-c.values (sym c.in_err-c.ensures.is_the_first_such_clause) in
    let p = err_from_is_err_and c.from_residual.result c.from_residual.ensures.1 in
    rw p.1 (record { reached = c.loop-c.invariant.1; broken = b; pending = tt; grown = c.loop-c.invariant.2; space = c.loop-c.invariant.3 })

pub make-requires : goal.make-requires
make-requires c =
    let v = c.loop-c.values in
    let l = c.in-Some.literal in
    let f : SFits w16 l = search rules in
    let o = scan_open v c.loop-c.first _ _ l (sym c.in_ok-c.ensures.is_the_first_such_clause ∙ ap Ok c.in-Some.is) in
    let i = open_inside v (place l) o in
    let p = open_some v (length v) (place l) o i in
    record { inside = simp to_z-of_z i; space = omega (arith, c.loop-c.invariant.4, p) }

pub overflow_add-first : goal.overflow_add-first
overflow_add-first c =
    let cl = c.args.clauses in
    let m = look_unit (clauses_listed cl) c.loop-c.first c.in-Some.c c.loop-c.values _ c.in-Some.literal c.loop-c.invariant.0 (sym c.in_ok-c.ensures.is_the_first_such_clause ∙ ap Ok c.in-Some.is) in
    let h : c.in-Some.c < length cl.ends.now = omega (arith, m.known, clauses_length cl.literals.now 0 cl.ends.now) in
    search rules

pub loop-c-smaller : goal.loop-c-smaller
loop-c-smaller c =
    let v = c.loop-c.values in
    let f : SFits w16 c.in-Some.literal = search rules in
    let m = simp to_z-of_z at c.make.ensures.values in
    let g = scan_falls v c.loop-c.first _ _ c.in-Some.literal (sym c.in_ok-c.ensures.is_the_first_such_clause ∙ ap Ok c.in-Some.is) in
    omega (arith, g, ap (λ a. open_in (length a) a) m)

pub loop-c-preserved : goal.loop-c-preserved
loop-c-preserved c =
    let cl = c.args.clauses in
    let cs = clauses_listed cl in
    let v = c.loop-c.values in
    let l = c.in-Some.literal in
    let n = c.args.trail.now.len in
    let t = take c.loop-c.trail.len c.loop-c.trail.entries.now in
    let s = take n c.args.trail.now.entries.now in
    let f : SFits w16 l = search rules in
    let e = sym c.in_ok-c.ensures.is_the_first_such_clause ∙ ap Ok c.in-Some.is in
    let q = look_unit cs c.loop-c.first c.in-Some.c v (drop n t) l c.loop-c.invariant.0 e in
    let mv = simp to_z-of_z at c.make.ensures.values in
    let mt = simp to_z-of_z at c.make.ensures.trail in
    let g = grown_more c.args.values.now v s t l c.loop-c.invariant.2 (scan_open v c.loop-c.first _ _ l e) in
    let lt = length-take n c.args.trail.now.entries.now in
    let h = grown_longer c.args.values.now v s t c.loop-c.invariant.2 in
    let d : drop n (t ++ (l ∷ [])) ≡ drop n t ++ (l ∷ []) = drop-append-le n t (l ∷ []) (omega (arith, lt, h, c.args.trail.now.fits)) in
    let w = scan_falls v c.loop-c.first _ _ l e in (
      rw (mv, mt, d) q.looked,
      rw mv (reach_more cs c.args.values.now v (get_or cs c.in-Some.c []) l c.loop-c.invariant.1 (stands_at cs c.in-Some.c q.known) q.unit),
      rw (mv, mt) g,
      c.make.ensures.space ∙ c.loop-c.invariant.3,
      omega (arith, w, ap (λ a. open_in (length a) a) mv, c.make.ensures.len, c.make.ensures.space, c.loop-c.invariant.4),
      omega (arith, q.known, clauses_length cl.literals.now 0 cl.ends.now),
    )

pub returns : goal.returns
returns c =
    let p = look_end (clauses_listed c.args.clauses) c.loop-c.first c.loop-c.values _ c.loop-c.invariant.0 (sym c.in_ok-c.ensures.is_the_first_such_clause ∙ ap Ok c.in_default.is) in
    record { reached = c.loop-c.invariant.1; broken = tt; pending = p; grown = c.loop-c.invariant.2; space = c.loop-c.invariant.3 }

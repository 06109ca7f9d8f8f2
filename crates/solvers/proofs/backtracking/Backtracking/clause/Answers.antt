-- A clause begins where the one before it ends, and the first at the start of the row.
use Rattle.std.proofs.Common.{◌≡◌, ◌-◌, ◌<◌, ◌≤◌, List, ℤ, ℕ, [], length, get_or, take, drop, vec_items, vec_len, sym, ap, ap₂, ◌∙◌, arith, rules, lt-ltb, le-ltb}
use borrow.Author.Tests.{false-ltb}
use Rattle.std.proofs.lemmas.Bool.{ltb-true}
use Rattle.std.proofs.lemmas.List.{get_or_default}
use Rattle.propagation.specs.Scanning.{clauses_from}
use Rattle.propagation.specs.Occurrences.{start_of}
use Rattle.propagation.proofs.Rows.{clauses_length, clause_part, clause_ends}
use Rattle.solvers.proofs.Stored.{ends_as, ends_of}
use Rattle.solvers.proofs.backtracking.Backtracking.clause.Goals as goal

pub returns-in_err-end-clause-given_exactly_if_there_is_such_a_clause : goal.returns-in_err-end-clause-given_exactly_if_there_is_such_a_clause
returns-in_err-end-clause-given_exactly_if_there_is_such_a_clause c =
    let s = c.args.self.now.store in
    let h = false-ltb _ _ c.in_err-end.ensures.lookup.0 in
    let n = clauses_length (vec_items s.literals) 0 (vec_items s.ends) in
    rw c.from_residual.ensures (sym (le-ltb _ _ (omega (arith, h, n, ap length c.as_slice-ends.ensures.value))))

pub slice_bounds-result-count : goal.slice_bounds-result-count
slice_bounds-result-count c =
    let s = c.args.self.now.store in
    let row = c.as_slice-literals.result.now in
    let ends = c.as_slice-ends.result.now in
    let b : c.start_of.result ≡ start_of ends c.args.number = c.start_of.ensures.is_its_start ∙ ap (start_of ends) (omega arith) in
    let l : c.args.number < length ends = ltb-true _ _ (sym c.in_ok-end.ensures.lookup.0) in
    let x : c.in_ok-end.field-0.now ≡ get_or ends c.args.number 0 = c.in_ok-end.ensures.lookup.1 ∙ get_or_default ends c.args.number c.in_ok-end.field-0.now 0 l in
    let e = ends_as row (vec_items s.literals) ends (vec_items s.ends) c.as_slice-literals.ensures.value c.as_slice-ends.ensures.value (ends_of (vec_items s.literals) (vec_len s.literals) 0 (vec_items s.ends) s.literals.ok.0 s.ended) in
    let w = clause_ends row 0 ends c.args.number e l in
    omega (arith, b, x, w.0)

pub offset_bounds-literals-start_of : goal.offset_bounds-literals-start_of
offset_bounds-literals-start_of c =
    let s = c.args.self.now.store in
    let row = c.as_slice-literals.result.now in
    let ends = c.as_slice-ends.result.now in
    let b : c.start_of.result ≡ start_of ends c.args.number = c.start_of.ensures.is_its_start ∙ ap (start_of ends) (omega arith) in
    let l : c.args.number < length ends = ltb-true _ _ (sym c.in_ok-end.ensures.lookup.0) in
    let x : c.in_ok-end.field-0.now ≡ get_or ends c.args.number 0 = c.in_ok-end.ensures.lookup.1 ∙ get_or_default ends c.args.number c.in_ok-end.field-0.now 0 l in
    let e = ends_as row (vec_items s.literals) ends (vec_items s.ends) c.as_slice-literals.ensures.value c.as_slice-ends.ensures.value (ends_of (vec_items s.literals) (vec_len s.literals) 0 (vec_items s.ends) s.literals.ok.0 s.ended) in
    let w = clause_ends row 0 ends c.args.number e l in
    let h : c.start_of.result ≤ length row = omega (arith, b, w.0, w.1) in
    search rules

pub slice_bounds-result-start : goal.slice_bounds-result-start
slice_bounds-result-start c =
    let s = c.args.self.now.store in
    let row = c.as_slice-literals.result.now in
    let ends = c.as_slice-ends.result.now in
    let b : c.start_of.result ≡ start_of ends c.args.number = c.start_of.ensures.is_its_start ∙ ap (start_of ends) (omega arith) in
    let l : c.args.number < length ends = ltb-true _ _ (sym c.in_ok-end.ensures.lookup.0) in
    let x : c.in_ok-end.field-0.now ≡ get_or ends c.args.number 0 = c.in_ok-end.ensures.lookup.1 ∙ get_or_default ends c.args.number c.in_ok-end.field-0.now 0 l in
    let e = ends_as row (vec_items s.literals) ends (vec_items s.ends) c.as_slice-literals.ensures.value c.as_slice-ends.ensures.value (ends_of (vec_items s.literals) (vec_len s.literals) 0 (vec_items s.ends) s.literals.ok.0 s.ended) in
    let w = clause_ends row 0 ends c.args.number e l in
    let h : c.start_of.result ≤ length row = omega (arith, b, w.0, w.1) in
    search rules

pub slice_bounds-result-end : goal.slice_bounds-result-end
slice_bounds-result-end c =
    let s = c.args.self.now.store in
    let row = c.as_slice-literals.result.now in
    let ends = c.as_slice-ends.result.now in
    let l : c.args.number < length ends = ltb-true _ _ (sym c.in_ok-end.ensures.lookup.0) in
    let x : c.in_ok-end.field-0.now ≡ get_or ends c.args.number 0 = c.in_ok-end.ensures.lookup.1 ∙ get_or_default ends c.args.number c.in_ok-end.field-0.now 0 l in
    let e = ends_as row (vec_items s.literals) ends (vec_items s.ends) c.as_slice-literals.ensures.value c.as_slice-ends.ensures.value (ends_of (vec_items s.literals) (vec_len s.literals) 0 (vec_items s.ends) s.literals.ok.0 s.ended) in
    let w = clause_ends row 0 ends c.args.number e l in
    let h : c.in_ok-end.field-0.now ≤ length row = omega (arith, x, w.1) in
    search rules

pub returns-clause-given_exactly_if_there_is_such_a_clause : goal.returns-clause-given_exactly_if_there_is_such_a_clause
returns-clause-given_exactly_if_there_is_such_a_clause c =
    let s = c.args.self.now.store in
    let l : c.args.number < length c.as_slice-ends.result.now = ltb-true _ _ (sym c.in_ok-end.ensures.lookup.0) in
    let n = clauses_length (vec_items s.literals) 0 (vec_items s.ends) in
    sym (lt-ltb _ _ (omega (arith, l, n, ap length c.as_slice-ends.ensures.value)))

pub returns-clause-is_the_clause_of_this_number : goal.returns-clause-is_the_clause_of_this_number
returns-clause-is_the_clause_of_this_number c =
    let s = c.args.self.now.store in
    let row = c.as_slice-literals.result.now in
    let ends = c.as_slice-ends.result.now in
    let b : c.start_of.result ≡ start_of ends c.args.number = c.start_of.ensures.is_its_start ∙ ap (start_of ends) (omega arith) in
    let l : c.args.number < length ends = ltb-true _ _ (sym c.in_ok-end.ensures.lookup.0) in
    let x : c.in_ok-end.field-0.now ≡ get_or ends c.args.number 0 = c.in_ok-end.ensures.lookup.1 ∙ get_or_default ends c.args.number c.in_ok-end.field-0.now 0 l in
    let e = ends_as row (vec_items s.literals) ends (vec_items s.ends) c.as_slice-literals.ensures.value c.as_slice-ends.ensures.value (ends_of (vec_items s.literals) (vec_len s.literals) 0 (vec_items s.ends) s.literals.ok.0 s.ended) in
    let w = clause_ends row 0 ends c.args.number e l in
    ap₂ (λ (a b : ℕ). take (b - a) (drop a row)) b x
    ∙ sym (clause_part row 0 ends c.args.number l)
    ∙ ap₂ (λ (xs : List ℤ) (es : List ℕ). get_or (clauses_from xs 0 es) c.args.number []) c.as_slice-literals.ensures.value c.as_slice-ends.ensures.value

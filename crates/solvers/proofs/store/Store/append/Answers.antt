use Rattle.std.proofs.Common.{◌≡◌, ℕ, ◌+◌, true, false, ◌&&◌, List, [], ◌∷◌, ◌++◌, length, ℤ, is_ok, None, Ok, Err, vec_items, vec_len, sym, ap, ◌∙◌, ap₂, arith, le-leb}
use mathlib.Core.Bool.{false≢true}
use borrow.Author.Tests.{lt-leb}
use Rattle.solving.specs.Literals.{all_in_range}
use Rattle.solving.specs.Models.{longer, room_for, appendable}
use Rattle.solving.specs.declared.fault.AppendFault.TheVariants.{Literal, Places}
use Rattle.propagation.specs.Scanning.{clauses_from, ends_well}
use Rattle.solvers.specs.Stores.{model_of}
use Rattle.solvers.proofs.Stored.{places_used, ends_of, ends_more, clauses_more, if_true, if_false}
use Rattle.solvers.proofs.store.Store.append.Goals as goal

pub returns-then-clause-len : goal.returns-then-clause-len
returns-then-clause-len c =
    let s = c.args.self.now in
    let m = model_of s in
    let x = c.args.clause.now in
    let u = places_used (vec_items s.literals) (vec_len s.literals) (vec_len s.ends) (vec_items s.ends) s.literals.ok.0 s.ends.ok.0 s.ended in
    let a : all_in_range s.variables x ≡ true = sym c.if-not-all_in_range.ensures.tells_literals_in_range in
    let r : room_for m x ≡ false = lt-leb _ _ (omega (arith, u, c.len.ensures, c.len-2.ensures, c.if-clause-len.true)) in
    let n : appendable m x ≡ false = ap₂ ◌&&◌ a r in
    record {
      answer = if_false (room_for m x) (Ok tt) (Err Places) r ∙ if_true (all_in_range s.variables x) _ (Err Literal) a;
      granted = sym n;
      state = if_false (appendable m x) (longer m x) m n;
    }

pub invariant_of-self : goal.invariant_of-self
invariant_of-self c =
    let s = c.args.self.now in
    let x = c.args.clause.now in
    let k : is_ok c.extend_from_slice.result ≡ true = c.extend_from_slice.ensures.succeeds (omega (arith, c.len.ensures, c.len-2.ensures, c.if-clause-len.false, s.few, s.room_for_literals)) in
    let l : vec_len c.extend_from_slice.new.self ≡ vec_len s.literals + length x = c.extend_from_slice.ensures.len ∙ sym (if_true (is_ok c.extend_from_slice.result) _ _ k) in
    let p = c.push_reserved.ensures in
    record {
      sized = s.sized;
      ended = ap (ends_well (vec_len c.extend_from_slice.new.self) 0) (p.items ∙ ap (λ n. vec_items s.ends ++ (n ∷ [])) c.len-end.ensures) ∙ ends_more (vec_len s.literals) (vec_len c.extend_from_slice.new.self) 0 (vec_items s.ends) (omega (arith, l)) s.ended;
      few = omega (arith, l, p.len, c.len.ensures, c.len-2.ensures, c.if-clause-len.false);
      room_for_literals = omega (arith, c.extend_from_slice.ensures.capacity, s.room_for_literals);
      room_for_ends = omega (arith, p.capacity, s.room_for_ends);
      room_for_values = s.room_for_values;
      whole = λ e. absurd (false≢true e);
    }

pub returns : goal.returns
returns c =
    let s = c.args.self.now in
    let m = model_of s in
    let x = c.args.clause.now in
    let row = vec_items s.literals in
    let ends = vec_items s.ends in
    let u = places_used row (vec_len s.literals) (vec_len s.ends) ends s.literals.ok.0 s.ends.ok.0 s.ended in
    let a : all_in_range s.variables x ≡ true = sym c.if-not-all_in_range.ensures.tells_literals_in_range in
    let r : room_for m x ≡ true = le-leb _ _ (omega (arith, u, c.len.ensures, c.len-2.ensures, c.if-clause-len.false)) in
    let n : appendable m x ≡ true = ap₂ ◌&&◌ a r in
    let k : is_ok c.extend_from_slice.result ≡ true = c.extend_from_slice.ensures.succeeds (omega (arith, c.len.ensures, c.len-2.ensures, c.if-clause-len.false, s.few, s.room_for_literals)) in
    let i : vec_items c.extend_from_slice.new.self ≡ row ++ x = c.extend_from_slice.ensures.items ∙ sym (if_true (is_ok c.extend_from_slice.result) _ _ k) in
    let l : vec_len c.extend_from_slice.new.self ≡ vec_len s.literals + length x = c.extend_from_slice.ensures.len ∙ sym (if_true (is_ok c.extend_from_slice.result) _ _ k) in
    let q = clauses_more row x 0 c.len-end.result ends (omega (arith, c.len-end.ensures, l, s.literals.ok.0)) (ends_of row (vec_len s.literals) 0 ends s.literals.ok.0 s.ended) in
    let cs = ap₂ (λ (xs : List ℤ) (es : List ℕ). clauses_from xs 0 es) i c.push_reserved.ensures.items ∙ q in
    record {
      answer = if_true (room_for m x) (Ok tt) (Err Places) r ∙ if_true (all_in_range s.variables x) _ (Err Literal) a;
      granted = sym n;
      state = ap (λ (y : List (List ℤ)). record { variables = s.variables; leading = s.leading; clauses = y; reading = None }) cs ∙ if_true (appendable m x) (longer m x) m n;
    }

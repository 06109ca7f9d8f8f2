use Rattle.std.proofs.Common.{vec_items, vec_len, arith}
use Rattle.solvers.proofs.Stored.{ends_of, ends_as}
use Rattle.solvers.proofs.store.Store.row.Goals as goal

pub invariant_of-result : goal.invariant_of-result
invariant_of-result c =
    let s = c.args.self.now in
    record {
      ended = ends_as c.deref.result.now (vec_items s.literals) c.deref-2.result.now (vec_items s.ends) c.deref.ensures.value c.deref-2.ensures.value (ends_of (vec_items s.literals) (vec_len s.literals) 0 (vec_items s.ends) s.literals.ok.0 s.ended);
      few = omega (arith, c.deref.ensures.len, s.few);
    }

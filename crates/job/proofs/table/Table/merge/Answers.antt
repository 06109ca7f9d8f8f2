use Rattle.std.proofs.Common.{◌≡◌, ℕ, ◌<◌, true, List, map, get_or, vec_items, sym, refl, ap, ◌∙◌, arith}
use Rattle.std.proofs.lemmas.List.{with_items_is}
use Rattle.vectors.specs.Merging.{mergeable, union}
use Rattle.vectors.specs.Vectors.{Cells}
use Rattle.vectors.specs.Views.{cells_of}
use Rattle.vectors.specs.declared.vector.Vector.{Vector}
use Rattle.history.specs.Changing.{renamed}
use Rattle.history.specs.Views.{vector_at}
use Rattle.job.specs.Tables.{mark_of, taken_of, view_of}
use Rattle.job.specs.declared.shown.Marked.{Marked}
use Rattle.job.specs.declared.table.Table.{Table}
use Rattle.job.proofs.Merging.{merged_view, two_vectors}
use Rattle.job.proofs.Tabled.{all_listed, seen}
use Rattle.job.proofs.Sweeping.{cells_listed}
use Rattle.job.proofs.table.Table.merge.Goals as goal

-- the cells of the two vectors that were read
listed : (t : Table) (n i : ℕ) (x : Vector) → n ≡ t.vectors.len → i < n → x ≡ get_or (vec_items t.vectors) i x → cells_of x ≡ vector_at (view_of t) i
listed t n i x e lt is = cells_listed (vec_items t.vectors) i x (omega (arith, lt, e, t.vectors.ok.0)) is

pub returns : goal.returns
returns c =
    let t : Table = c.args.self.now in
    let n = c.len-count.ensures ∙ all_listed t in
    let a = listed t c.len-count.result c.args.into c.index.result.now c.len-count.ensures c.if-into-count.false c.index.ensures in
    let b = listed t c.len-count.result c.args.gone c.index-2.result.now c.len-count.ensures c.if-gone-count.false c.index-2.ensures in
    let fit : true ≡ mergeable (vector_at (view_of t) c.args.into) (vector_at (view_of t) c.args.gone) =
    c.in_ok-both.ensures.merged_exactly_if_no_bit_clashes ∙ ap (λ (x : Cells). mergeable x (cells_of c.index-2.result.now)) a ∙ ap (mergeable (vector_at (view_of t) c.args.into)) b in
    let union-is : cells_of c.in_ok-both.both ≡ union (vector_at (view_of t) c.args.into) (vector_at (view_of t) c.args.gone) =
    c.in_ok-both.ensures.has_the_fixed_cells_of_both ∙ ap (λ (x : Cells). union x (cells_of c.index-2.result.now)) a ∙ ap (union (vector_at (view_of t) c.args.into)) b in
    record {
      leads_on = record {
        the_card_stays = refl;
        is_a_step = (
          sym (two_vectors (view_of t) c.args.into c.args.gone (omega (arith, c.if-into-count.false, n)) (omega (arith, c.if-gone-count.false, n)) c.if-into-gone.false true fit),
          ap (λ (xs : List Marked). seen xs (map cells_of (vec_items c.remove-gone.new.self))) (with_items_is t.states c.rename_all.new.states (omega arith)) ∙ merged_view (vec_items t.states) c.rename_all.new.states _ _ c.args.into c.args.gone c.in_ok-both.both (c.rename_all.ensures.renames_each ∙ ap (λ (xs : List Marked). map (renamed c.args.into c.args.gone) (map mark_of xs)) c.deref_mut.ensures.value) (c.rename_all.ensures.leaves_the_flags ∙ ap (map taken_of) c.deref_mut.ensures.value) c.remove-gone.ensures.items union-is,
        );
      };
    }

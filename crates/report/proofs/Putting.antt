-- Lines put one after the other: what is left to put, on the page so far, makes the whole.
use Rattle.std.proofs.Common.{◌≡◌, ℕ, suc, ◌+◌, ◌<◌, ◌≤◌, List, [], ◌∷◌, ◌++◌, map, length, get_or, drop, sym, refl, ap, ◌∙◌, append_assoc, add-one}
use Rattle.std.proofs.lemmas.List.{at_drop_all, at_drop_more, map_push}
use Rattle.card.specs.Netlists.{Netlist}
use Rattle.vectors.specs.Rows.{character_of, printed}
use Rattle.vectors.specs.Vectors.{Cells, cell_at, start}
use Rattle.vectors.proofs.Fillings.{start_more}
use Rattle.history.specs.declared.mark.Mark.{Mark}
use Rattle.page.specs.Pages.{Filled, putting}
use Rattle.page.proofs.Putting.{put_none, put_parts}
use Rattle.report.specs.Lines.{ended, fault_rows, head_line, head_of, numbered, sheet_text, vector_rows}

pub ended_append : (a b : List (List ℕ)) → ended (a ++ b) ≡ ended a ++ ended b
ended_append [] b = refl
ended_append (l ∷ a) b = ap (λ z. l ++ (10 ∷ z)) (ended_append a b) ∙ sym (append_assoc l (10 ∷ ended a) (ended b))

module _ {X : Type 0} (rows : ℕ → X → List (List ℕ)) (xs : List X) where
  -- the lines of one element more
  pub listing_more : (i : ℕ) (d : X) (p q all : Filled) → i < length xs → putting (ended (numbered rows i (drop i xs))) p ≡ all → q ≡ putting (ended (rows i (get_or xs i d))) p → putting (ended (numbered rows (i + 1) (drop (i + 1) xs))) q ≡ all
  listing_more i d p q all h w f =
      let x = get_or xs i d in
      let rest = numbered rows (i + 1) (drop (i + 1) xs) in
      let step : numbered rows i (drop i xs) ≡ rows i x ++ numbered rows (suc i) (drop (i + 1) xs) = at_drop_more (numbered rows i) xs i d h in
      let next : numbered rows i (drop i xs) ≡ rows i x ++ rest = step ∙ ap (λ (k : ℕ). rows i x ++ numbered rows k (drop (i + 1) xs)) (sym (add-one i)) in
      ap (putting (ended rest)) f ∙ put_parts (ended (rows i x)) (ended rest) p ∙ ap (λ t. putting t p) (sym (ap ended next ∙ ended_append (rows i x) rest)) ∙ w

  -- no line is left
  pub listing_all : (i : ℕ) (p all : Filled) → length xs ≤ i → putting (ended (numbered rows i (drop i xs))) p ≡ all → p ≡ all
  listing_all i p all h w = sym (put_none p) ∙ ap (λ t. putting (ended t) p) (sym (at_drop_all (numbered rows i) xs i h)) ∙ w

-- the head, the lines of the vectors and those of the faults make the sheet
pub sheet_parts : (c : Netlist) (marks : List Mark) (vectors : List Cells) → ended (head_of marks ∷ []) ++ ended (numbered (vector_rows c) 0 vectors) ++ ended (numbered fault_rows 0 marks) ≡ sheet_text c marks vectors
unfolding sheet_text
sheet_parts c marks vectors =
    let head = head_of marks in
    let vs = numbered (vector_rows c) 0 vectors in
    let fs = numbered fault_rows 0 marks in
    append_assoc (head ++ (10 ∷ [])) (ended vs) (ended fs) ∙ append_assoc head (10 ∷ []) (ended vs ++ ended fs) ∙ ap (λ z. head ++ (10 ∷ z)) (sym (ended_append vs fs))

-- the same counts make the same head
pub same_head : (n d u o m e v p : ℕ) → n ≡ m → d ≡ e → u ≡ v → o ≡ p → head_line n d u o ≡ head_line m e v p
same_head n d u o m e v p i a b c = ap (λ (x : ℕ). head_line x d u o) i ∙ ap (λ (x : ℕ). head_line m x u o) a ∙ ap (λ (x : ℕ). head_line m e x o) b ∙ ap (λ (x : ℕ). head_line m e v x) c

-- one cell more
pub printed_more : (i : ℕ) (v : Cells) → printed (i + 1) v ≡ printed i v ++ (character_of (cell_at v i) ∷ [])
printed_more i v = ap (λ (k : ℕ). printed k v) (add-one i) ∙ ap (map character_of) (start_more v i) ∙ map_push character_of (start i v) (cell_at v i)

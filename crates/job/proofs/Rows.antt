-- The outputs of a good card as a row of characters that reads back.
use Rattle.std.proofs.Common.{◌≡◌, ℕ, List, [], ◌∷◌, map, length, get_or, take, drop, sym, refl, ap, ◌∙◌, subst}
use lib.ListN.{length-map}
use Rattle.std.proofs.lemmas.List.{take_at}
use Rattle.card.specs.Netlists.{Netlist}
use Rattle.signal.specs.declared.ternary.Ternary.{Ternary}
use Rattle.signal.specs.declared.ternary.Ternary.TheVariants.{X}
use Rattle.vectors.specs.Rows.{character_of, printed}
use Rattle.vectors.specs.Vectors.{Cells, InForm}
use Rattle.tester.specs.Characters.{Truthful, characters, good_nets}
use Rattle.tester.specs.Expecting.{over}
use Rattle.job.specs.Showing.{ShowsOutputs}

-- the cells of the outputs
abbrev pub output_cells : Netlist → Cells → List Ternary
output_cells c x = map (λ net. get_or (good_nets c x) net X) c.outputs

characters_of : {A : Type 0} (g : A → Ternary) (xs : List A) → map character_of (map g xs) ≡ map (λ y. character_of (g y)) xs
characters_of g [] = refl
characters_of g (x ∷ xs) = ap (λ (ys : List ℕ). character_of (g x) ∷ ys) (characters_of g xs)

module _ (c : Netlist) (x : Cells) (m : ℕ) (is : m ≡ length c.outputs) (start out bytes : List ℕ) (wrote : out ≡ over (characters c x) start) (read : bytes ≡ take m out) where
  pub row_is : bytes ≡ characters c x
  row_is =
      let long : length (characters c x) ≡ m = length-map c.outputs (λ net. character_of (get_or (good_nets c x) net X)) ∙ sym is in
      read ∙ ap (take m) wrote ∙ take_at (characters c x) (drop (length (characters c x)) start) m long

  pub cells_long : length (output_cells c x) ≡ m
  cells_long = length-map c.outputs (λ net. get_or (good_nets c x) net X) ∙ sym is

  pub cells_print : map character_of (output_cells c x) ≡ bytes
  cells_print = characters_of (λ (net : ℕ). get_or (good_nets c x) net X) c.outputs ∙ sym row_is

  pub shows_outputs : (y : Cells) → printed m y ≡ bytes → InForm m y → Truthful c x (characters c x) → ShowsOutputs c x y
  shows_outputs y prints form truth =
      let p : printed (length c.outputs) y ≡ characters c x = subst (λ (k : ℕ). printed k y ≡ characters c x) is (prints ∙ row_is) in
      record {
        is_in_form = subst (λ (k : ℕ). InForm k y) is form;
        prints_what_the_tester_expects = p;
        a_bit_shown_is_what_every_filling_makes = subst (Truthful c x) (sym p) truth;
      }

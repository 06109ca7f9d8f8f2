-- Adding and merging vectors in a new job: histories of calls with their answers, and what they lead to.
use Rattle.std.specs.Prelude.{◌≡◌, ℕ, List, [], ◌∷◌, Ok, Err}
use Rattle.card.specs.Parts.{smallest}
use Rattle.vectors.specs.Vectors.{Cells, holding}
use Rattle.history.specs.Granting.{adds}
use Rattle.history.specs.Histories.{LeadsTo}
use Rattle.history.specs.Refusals.{add_number, merge_number}
use Rattle.history.specs.Steps.{added, merged}
use Rattle.history.specs.Views.{View, new_view}
use Rattle.history.specs.declared.refusal.AddRefusal.TheVariants.{NotInForm}
use Rattle.history.specs.declared.refusal.MergeRefusal.TheVariants.{OppositeBits}
use Rattle.small_cards.specs.Cards.{card_b}

-- a job on card B with these vectors and nothing else done
abbrev pub only_vectors : List Cells → View
only_vectors vectors = record { marks = (new_view card_b).marks; taken = (new_view card_b).taken; vectors = vectors }

-- a history has the newest call first; cells 1X are 1 and 1, cells 0X are 1 and 0, cells 10 are 3 and 1
pub record Jobs : Type 0 where
  pub merging_1x_with_10_gives_10 : LeadsTo card_b (merged 0 1 (Ok tt) ∷ added 3 1 (Ok 1) ∷ added 1 1 (Ok 0) ∷ []) (only_vectors (holding 3 1 ∷ []))
  pub merging_0x_with_10_is_refused : LeadsTo card_b (merged 0 1 (Err OppositeBits) ∷ added 3 1 (Ok 1) ∷ added 1 0 (Ok 0) ∷ []) (only_vectors (holding 1 0 ∷ holding 3 1 ∷ []))
  pub which_is_18 : merge_number OppositeBits ≡ 18
  pub care_3_with_one_input_is_refused : (v : View) (value : ℕ) → adds smallest v 3 value ≡ Err NotInForm
  pub which_is_16 : add_number NotInForm ≡ 16

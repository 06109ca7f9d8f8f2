-- Characters written one after the other into a buffer, each read from the nets of the walk.
use Rattle.std.proofs.Common.{◌≡◌, ℕ, ◌+◌, ◌<◌, ◌≤◌, List, ◌∷◌, ◌++◌, length, get_or, take, drop, set, sym, ap, ◌∙◌, arith}
use lib.Seq.{append_snoc}
use Rattle.std.proofs.lemmas.List.{drop_more, get_or_default, get_or-map, length-map, length-take-le, set_at, take_more}
use Rattle.card.specs.Netlists.{Lawful, Netlist, nets}
use Rattle.signal.specs.declared.ternary.Ternary.{Ternary}
use Rattle.signal.specs.declared.ternary.Ternary.TheVariants.{X}
use Rattle.signal.proofs.Below.{output_below, output_read}
use Rattle.vectors.specs.Rows.{character_of}
use Rattle.vectors.specs.Vectors.{Cells}
use Rattle.tester.specs.Characters.{characters, good_nets}

-- one byte more is written over the buffer
pub over_more : (shown before now : List ℕ) (i x : ℕ) → now ≡ take i shown ++ drop i before → i < length shown → length shown ≤ length before → x ≡ get_or shown i 0 → set now i x ≡ take (i + 1) shown ++ drop (i + 1) before
over_more shown before now i x w h l e =
    let s : set (take i shown ++ (get_or before i 0 ∷ drop (i + 1) before)) i x ≡ take i shown ++ (x ∷ drop (i + 1) before) = set_at (take i shown) (get_or before i 0) (drop (i + 1) before) x i (length-take-le i shown (omega arith)) in
    ap (λ z. set z i x) (w ∙ ap (λ z. take i shown ++ z) (drop_more before i 0 (omega arith))) ∙ s
    ∙ ap (λ z. take i shown ++ (z ∷ drop (i + 1) before)) e
    ∙ sym (append_snoc (take i shown) (get_or shown i 0) (drop (i + 1) before))
    ∙ ap (λ z. z ++ drop (i + 1) before) (sym (take_more shown i 0 h))

-- as many characters as outputs
pub length_characters : (c : Netlist) (v : Cells) → length (characters c v) ≡ length c.outputs
length_characters c v = length-map c.outputs (λ net. character_of (get_or (good_nets c v) net X))

-- the character of an output, read from the walked nets
pub character_read : (c : Netlist) (v : Cells) (outs : List ℕ) (xs : List Ternary) (i x : ℕ) (d : Ternary) → outs ≡ c.outputs → Lawful c → i < length outs → 256 ≤ length xs → take (nets c) xs ≡ good_nets c v → x ≡ character_of (get_or xs (get_or outs i 0) d) → x ≡ get_or (characters c v) i 0
character_read c v outs xs i x d o law h l w e =
    let t = ap length o in
    let k : i < length c.outputs = omega arith in
    let b = output_below c i 0 law k in
    let f = law.nets_fit in
    e ∙ ap (λ z. character_of (get_or xs (get_or z i 0) d)) o
    ∙ ap character_of (get_or_default xs (get_or c.outputs i 0) d X (omega arith) ∙ output_read c xs (good_nets c v) i X law k w)
    ∙ sym (get_or-map (λ net. character_of (get_or (good_nets c v) net X)) c.outputs i 0 0 k)

-- Values and bits side by side, and what a walk promises of them.
-- One word, `Carries`, serves both promises: that the nets allow what allowed inputs make, and that definite inputs make definite nets.
use Rattle.std.specs.Prelude.{◌≡◌, ℕ, ◌<◌, Bool, List, [], ◌∷◌, None, Option, Some, length, take}
use Rattle.card.specs.Netlists.{Netlist, nets as net_count}
use Rattle.signal.specs.declared.line.Stuck.{Stuck}
use Rattle.signal.specs.Operations.{Operations, bit_operations}
use Rattle.signal.specs.Walks.{net_values}

-- two lists, equally long, related place by place
abbrev pub Everywhere : {S B : Type 0} → (S → B → Type 0) → List S → List B → Type 0
Everywhere R [] [] = Unit {0}
Everywhere R [] (b ∷ bs) = ⊥
Everywhere R (x ∷ xs) [] = ⊥
Everywhere R (x ∷ xs) (b ∷ bs) = R x b × Everywhere R xs bs

-- whatever bits the values at the inputs are related to, the nets are related to what the card makes of those bits
abbrev pub Carries : {S : Type 0} → (S → Bool → Type 0) → Option Stuck → Netlist → List S → List S → Type 0
Carries R t c inputs nets = (bits : List Bool) → Everywhere R inputs bits → Everywhere R nets (net_values bit_operations t c bits)

-- nets that were those of the good card carry what the card with this line stuck makes of the same inputs, in every lane
abbrev pub CarriesStuck : {S : Type 0} → Operations S → ℕ → (ℕ → S → Bool → Type 0) → Stuck → Netlist → List S → List S → Type 0
CarriesStuck {S} o lanes R s c before after = (inputs : List S) → length inputs ≡ c.inputs → take (net_count c) before ≡ net_values o None c inputs
    → (l : ℕ) → l < lanes → Carries (R l) (Some s) c inputs (take (net_count c) after)

-- Bytes written one element after the other, and the writing of a card in its three parts.
use Rattle.std.proofs.Common.{◌≡◌, ℕ, zero, suc, List, [], ◌∷◌, ◌++◌, map, replicate, sym, refl, ap, ◌∙◌, append_assoc}
use Rattle.std.specs.List.{flat_map}
use Rattle.card.specs.declared.gate.Gate.{Gate}
use Rattle.reading.specs.declared.command.Command.{Command}
use Rattle.reading.specs.declared.command.Command.TheVariants.{AddInput, AddGate, AddOutput}
use Rattle.reading.specs.Commands.{spelled}
use Rattle.card.specs.Netlists.{Netlist}
use Rattle.reading.specs.Rules.{all_spelled}
use Rattle.reading.specs.Writing.{commands_of, gates_written, outputs_written, written}

pub spelled_append : (cs bs : List Command) → all_spelled (cs ++ bs) ≡ all_spelled cs ++ all_spelled bs
spelled_append [] bs = refl
spelled_append (c ∷ cs) bs = ap (λ z. spelled c ++ z) (spelled_append cs bs) ∙ sym (append_assoc (spelled c) (all_spelled cs) (all_spelled bs))

spelled_inputs : (k : ℕ) → all_spelled (replicate k AddInput) ≡ replicate k 0x20
spelled_inputs zero = refl
spelled_inputs (suc k) = ap (λ z. 0x20 ∷ z) (spelled_inputs k)

spelled_map : {X : Type 0} (g : X → Command) (xs : List X) → all_spelled (map g xs) ≡ flat_map (λ x. spelled (g x)) xs
spelled_map g [] = refl
spelled_map g (x ∷ xs) = ap (λ z. spelled (g x) ++ z) (spelled_map g xs)

-- the parts, one after the other, are the writing
module _ (c : Netlist) where
  abbrev inputs_part : List ℕ
  inputs_part = replicate c.inputs 0x20

  abbrev gates_part : List ℕ
  gates_part = gates_written c.gates

  abbrev outputs_part : List ℕ
  outputs_part = outputs_written c.outputs

  all_parts : all_spelled (commands_of c) ≡ inputs_part ++ (gates_part ++ outputs_part)
  all_parts =
      spelled_append (replicate c.inputs AddInput) (map AddGate c.gates ++ map AddOutput c.outputs)
      ∙ ap (λ z. z ++ all_spelled (map AddGate c.gates ++ map AddOutput c.outputs)) (spelled_inputs c.inputs)
      ∙ ap (λ z. inputs_part ++ z)
      (spelled_append (map AddGate c.gates) (map AddOutput c.outputs)
      ∙ ap (λ z. z ++ all_spelled (map AddOutput c.outputs)) (spelled_map AddGate c.gates)
      ∙ ap (λ z. gates_part ++ z) (spelled_map AddOutput c.outputs))

  -- the bytes after each part
  pub written_in_parts : (b1 b2 b3 b4 : List ℕ) (k : ℕ) (gs : List Gate) (os : List ℕ) → b1 ≡ replicate k 0x20 → b2 ≡ b1 ++ gates_written gs → b3 ≡ b2 ++ outputs_written os → b4 ≡ b3 ++ (0x7f ∷ []) → k ≡ c.inputs → gs ≡ c.gates → os ≡ c.outputs → b4 ≡ written c
  written_in_parts b1 b2 b3 b4 k gs os p1 p2 p3 p4 q0 q1 q2 =
      p4 ∙ ap (λ z. z ++ (0x7f ∷ []))
      (p3 ∙ ap (λ z. z ++ outputs_written os) (p2 ∙ ap (λ z. z ++ gates_written gs) p1)
      ∙ ap (λ z. (replicate z 0x20 ++ gates_written gs) ++ outputs_written os) q0
      ∙ ap (λ z. (inputs_part ++ gates_written z) ++ outputs_written os) q1
      ∙ ap (λ z. (inputs_part ++ gates_part) ++ outputs_written z) q2
      ∙ append_assoc inputs_part gates_part outputs_part
      ∙ sym all_parts)

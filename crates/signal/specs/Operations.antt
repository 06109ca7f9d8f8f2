-- The operations of a kind of signal, and those of the plain bit, which are the meaning of all others.
-- Every gate's answer is made of these five, whatever the kind.
use Rattle.std.specs.Prelude.{Bool, true, false, not, ◌&&◌, ◌||◌}

pub record Operations (S : Type 0) : Type 0 where
  pub constant : Bool → S
  pub negated : S → S
  pub both : S → S → S
  pub either : S → S → S
  pub unlike : S → S → S

abbrev pub differ : Bool → Bool → Bool
differ true q = not q
differ false q = q

abbrev pub bit_operations : Operations Bool
bit_operations = record { constant = λ b. b; negated = not; both = ◌&&◌; either = ◌||◌; unlike = differ }

-- The laws of a kind of signal, in one lane: `allows x b` says that the value x allows the bit b there.
-- Each kind proves them once, and the walk's promises for that kind follow.
use Rattle.std.specs.Prelude.{◌≡◌, Bool, not, ◌&&◌, ◌||◌}
use Rattle.signal.specs.Operations.{Operations, differ}

-- every value allows some bit
abbrev pub Inhabited : {S : Type 0} → (S → Bool → Type 0) → Type 0
Inhabited {S} allows = (x : S) → (b : Bool) × allows x b

-- the value allows this bit and no other
pub record Only {S : Type 0} (allows : S → Bool → Type 0) (x : S) (b : Bool) : Type 0 where
  pub allowed : allows x b
  pub alone : (c : Bool) → allows x c → c ≡ b

-- the operations keep a relation between values and bits: related operands have related answers
pub record Kept {S : Type 0} (o : Operations S) (R : S → Bool → Type 0) : Type 0 where
  pub constant : (b : Bool) → R (o.constant b) b
  pub negated : (x : S) (p : Bool) → R x p → R (o.negated x) (not p)
  pub both : (x y : S) (p q : Bool) → R x p → R y q → R (o.both x y) (p && q)
  pub either : (x y : S) (p q : Bool) → R x p → R y q → R (o.either x y) (p || q)
  pub unlike : (x y : S) (p q : Bool) → R x p → R y q → R (o.unlike x y) (differ p q)

-- an answer allows every bit that the operation makes from bits that the operands allow
abbrev pub Sound : {S : Type 0} → Operations S → (S → Bool → Type 0) → Type 0
Sound o allows = Kept o allows

-- where each operand allows one bit, so does the answer
abbrev pub Definite : {S : Type 0} → Operations S → (S → Bool → Type 0) → Type 0
Definite o allows = Kept o (Only allows)

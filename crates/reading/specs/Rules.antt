-- The rules of reading, in words of commands and cards: when bytes spell a card, and which rule refuses them where.
use Rattle.std.specs.Prelude.{◌≡◌, ℕ, ◌+◌, ◌-◌, ◌*◌, ◌<◌, Bool, true, false, cond, ◌&&◌, ◌||◌, List, [], ◌∷◌, ◌++◌, length, Ok, Err, ◌==◌, ◌≢◌, nat_le, slice_index}
use Rattle.reading.specs.declared.command.Command.{Command}
use Rattle.reading.specs.declared.command.Command.TheVariants.{AddInput, AddGate, AddOutput, End}
use Rattle.reading.specs.declared.fault.CardFault.{CardFault}
use Rattle.reading.specs.Commands.{adds, incomplete, late, overfull, repeated, spelled, undeclared}
use Rattle.card.specs.Functions.{function_of, pin_count}
use Rattle.card.specs.Netlists.{Netlist, pins_of}
use Rattle.reading.specs.Reading.{nothing, reading}
use Rattle.reading.specs.Refusals.{refusal_number, refusal_offset}

-- every number of the list is a byte
abbrev pub Bytes : List ℕ → Type 0
Bytes bs = (i : ℕ) → slice_index bs i < 256

-- whether a command begins with this byte
abbrev pub opens : ℕ → Bool
opens b = b == 0x20 || ((nat_le 0x30 b && nat_le b 0x39) || (b == 0x40 || b == 0x7f))

-- how many operands the command has that begins with this byte
abbrev pub operands_after : ℕ → ℕ
operands_after b = cond (nat_le 0x30 b && nat_le b 0x39) (pin_count (function_of (b - 0x30))) (cond (b == 0x40) 1 0)

-- a gate command has as many operands as its function asks
abbrev pub WellFormed : Command → Type 0
WellFormed AddInput = Unit {0}
WellFormed (AddGate g) = length (pins_of g) ≡ pin_count g.function
WellFormed (AddOutput n) = Unit {0}
WellFormed End = Unit {0}

-- whether a command breaks the rule of this number, seen from the card so far
abbrev pub breaks : Netlist → Command → ℕ → Bool
breaks d c r =
    cond (r == 3) (late d c)
    (cond (r == 4) (overfull d c)
    (cond (r == 5) (undeclared d c)
    (cond (r == 6) (repeated d c)
    (cond (r == 7) (incomplete d c) false))))

abbrev pub KeepsRules : Netlist → Command → Type 0
KeepsRules d c = (r : ℕ) → breaks d c r ≡ false

-- rule r is broken, and none with a smaller number
pub record BreaksFirst (d : Netlist) (c : Command) (r : ℕ) : Type 0 where
  pub broken : breaks d c r ≡ true
  pub none_before : (q : ℕ) → q < r → breaks d c q ≡ false

-- commands before the end, each of which keeps the rules after those before it
abbrev pub AllKeepRules : Netlist → List Command → Type 0
AllKeepRules d [] = Unit {0}
AllKeepRules d (c ∷ cs) = (c ≢ End) × WellFormed c × KeepsRules d c × AllKeepRules (adds d c) cs

-- the card that commands declare on top of another
abbrev pub declared_by : Netlist → List Command → Netlist
declared_by d [] = d
declared_by d (c ∷ cs) = declared_by (adds d c) cs

abbrev pub all_spelled : List Command → List ℕ
all_spelled [] = []
all_spelled (c ∷ cs) = spelled c ++ all_spelled cs

-- the first o bytes spell commands that keep the rules and declare d; the rest follows them
pub record Begins (bs : List ℕ) (o : ℕ) (d : Netlist) (rest : List ℕ) : Type 0 where
  pub commands : List Command
  pub keep : AllKeepRules nothing commands
  pub declare : d ≡ declared_by nothing commands
  pub spell : bs ≡ all_spelled commands ++ rest
  pub offset : o ≡ length (all_spelled commands)

-- the bytes spell the card d: commands that declare it, and the end
pub record Accepted (bs : List ℕ) (d : Netlist) : Type 0 where
  pub at : ℕ
  pub begins : Begins bs at d (0x7f ∷ [])
  pub complete : KeepsRules d End

-- the bytes break rule r first, at offset o
pub data Refused (bs : List ℕ) : ℕ → ℕ → Type 0 where
  -- 1: no command begins with the byte there
  unknown : {o b : ℕ} {d : Netlist} {rest : List ℕ} → Begins bs o d (b ∷ rest) → opens b ≡ false → Refused bs 1 o
  -- 2: the bytes end before the end command
  ended : {o : ℕ} {d : Netlist} → Begins bs o d [] → Refused bs 2 o
  -- 2: the bytes end inside the command there
  cut : {o b : ℕ} {d : Netlist} {rest : List ℕ} → Begins bs o d (b ∷ rest) → opens b ≡ true → length rest < 2 * operands_after b → Refused bs 2 o
  -- 3 to 7: the command there breaks that rule, and none before it
  broken : {o r : ℕ} (c : Command) {d : Netlist} (rest : List ℕ) → WellFormed c → Begins bs o d (spelled c ++ rest) → BreaksFirst d c r → Refused bs r o
  -- 8: bytes follow the end command, the first of them at the offset
  trailing : {o b : ℕ} {d : Netlist} {rest : List ℕ} → Begins bs o d (0x7f ∷ b ∷ rest) → KeepsRules d End → Refused bs 8 (o + 1)

-- the definition of reading and the rules agree, on every list of bytes
pub record Agree : Type 0 where
  pub accepts : (bs : List ℕ) → Bytes bs → (d : Netlist) → reading bs ≡ Ok d → Accepted bs d
  pub accepted : (bs : List ℕ) (d : Netlist) → Accepted bs d → reading bs ≡ Ok d
  pub refuses : (bs : List ℕ) → Bytes bs → (e : CardFault) → reading bs ≡ Err e → Refused bs (refusal_number e) (refusal_offset e)
  pub refused : (bs : List ℕ) (r o : ℕ) → Refused bs r o → (e : CardFault) × (reading bs ≡ Err e) × (refusal_number e ≡ r) × (refusal_offset e ≡ o)

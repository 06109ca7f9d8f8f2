-- What the sites of a netlist are, in words of lines, nets and pins.
use Rattle.std.specs.Prelude.{◌≡◌, ℕ, ◌+◌, ◌*◌, ◌<◌, ◌≤◌, Bool, cond, ◌⊎◌, ◌↔◌, length, Some, None, sum_by}
use Rattle.std.specs.List.{slice_get}
use Rattle.card.specs.declared.gate.Gate.{Gate}
use Rattle.card.specs.Alikes.{times}
use Rattle.card.specs.Netlists.{Netlist, nets, pins_of}
use Rattle.signal.specs.declared.line.Line.{Line}
use Rattle.signal.specs.declared.line.Line.TheVariants.{Net, Pin}
use Rattle.signal.specs.declared.line.Stuck.{Stuck}
use Rattle.faults.specs.Readers.{branches, read_count}
use Rattle.faults.specs.Sites.{fault_count, line_of, site_count, stuck_of}

-- pin p of gate i reads this net
pub record PinReads (c : Netlist) (i p net : ℕ) : Type 0 where
  pub gate : Gate
  pub is_gate : slice_get c.gates i ≡ Some gate
  pub is_pin : slice_get (pins_of gate) p ≡ Some net

-- some site has this line
abbrev pub IsSite : Netlist → Line → Type 0
IsSite c l = (j : ℕ) × (line_of c j ≡ Some l)

-- some gate pin is this line
pub record IsPin (c : Netlist) (l : Line) : Type 0 where
  pub gate : ℕ
  pub pin : ℕ
  pub net : ℕ
  pub reads : PinReads c gate pin net
  pub is : l ≡ Pin (c.inputs + gate) pin

-- nets by number come first, then pins by gate and within a gate by number
abbrev pub Before : Line → Line → Type 0
Before (Net i) (Net j) = i < j
Before (Net i) (Pin j q) = Unit {0}
Before (Pin i p) (Net j) = ⊥
Before (Pin i p) (Pin j q) = (i < j) ⊎ ((i ≡ j) × (p < q))

pub record SiteLaws (c : Netlist) : Type 0 where
  pub every_site_has_a_line : (j : ℕ) → j < site_count c → (l : Line) × (line_of c j ≡ Some l)
  pub no_line_past_the_sites : (j : ℕ) → site_count c ≤ j → line_of c j ≡ None
  pub different_sites_have_different_lines : (i j : ℕ) (l : Line) → line_of c i ≡ Some l → line_of c j ≡ Some l → i ≡ j
  pub sites_stand_in_order : (i j : ℕ) (l m : Line) → i < j → line_of c i ≡ Some l → line_of c j ≡ Some m → Before l m
  pub every_net_is_a_site : (j : ℕ) → j < nets c → line_of c j ≡ Some (Net j)
  pub past_the_nets_are_pins : (j : ℕ) (l : Line) → nets c ≤ j → line_of c j ≡ Some l → IsPin c l
  pub a_pin_is_a_site_exactly_if_its_net_is_shared : (i p net : ℕ) → PinReads c i p net → IsSite c (Pin (c.inputs + i) p) ↔ (2 ≤ read_count c net)
  pub gate_pins_are_the_readers : (net : ℕ) → read_count c net ≡ sum_by (λ g. times net (pins_of g)) c.gates
  pub every_site_sticks_at_both_levels : (j : ℕ) (l : Line) (b : Bool) → line_of c j ≡ Some l → stuck_of c (2 * j + cond b 1 0) ≡ Some (record { line = l; level = b })
  pub different_faults_stick_differently : (f g : ℕ) (s : Stuck) → stuck_of c f ≡ Some s → stuck_of c g ≡ Some s → f ≡ g
  pub two_faults_for_each_net_and_branch : fault_count c ≡ 2 * (c.inputs + length c.gates + length (branches c))

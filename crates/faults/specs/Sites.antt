-- Sites and faults by number: a site is a line that can stick, a fault is a site with the level that it is stuck at.
-- Site j below the number of nets is net j; after the nets every branch is a site, in order.
use Rattle.std.specs.Prelude.{ℕ, ◌+◌, ◌-◌, ◌*◌, ◌/◌, ◌%◌, Bool, cond, List, map, length, Some, None, Option, ◌==◌, nat_lt}
use Rattle.std.specs.List.{slice_get}
use Rattle.card.specs.Netlists.{Netlist, nets}
use Rattle.signal.specs.declared.line.Line.{Line}
use Rattle.signal.specs.declared.line.Line.TheVariants.{Net}
use Rattle.signal.specs.declared.line.Stuck.{Stuck}
use Rattle.faults.specs.Readers.{branches}

-- the lines of the branches
abbrev pub branch_lines : Netlist → List Line
branch_lines c = map (λ r. r.line) (branches c)

abbrev pub site_count : Netlist → ℕ
site_count c = nets c + length (branches c)

-- the line of a site
abbrev pub line_of : Netlist → ℕ → Option Line
line_of c j = cond (nat_lt j (nets c)) (Some (Net j)) (slice_get (branch_lines c) (j - nets c))

abbrev pub fault_count : Netlist → ℕ
fault_count c = 2 * site_count c

-- a line, if there is one, stuck at a level
abbrev pub stuck_at : Bool → Option Line → Option Stuck
stuck_at level None = None
stuck_at level (Some l) = Some (record { line = l; level = level })

-- fault f is site f / 2 stuck at f % 2
abbrev pub stuck_of : Netlist → ℕ → Option Stuck
stuck_of c f = stuck_at (f % 2 == 1) (line_of c (f / 2))

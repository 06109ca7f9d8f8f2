-- The run that a sheet is made by: each open fault, rising, is taken, searched by backtracking and closed, and a new vector is swept.
-- Where the list of vectors is full, the search is refused and the fault stays open.
use Rattle.std.specs.Prelude.{◌≡◌, ℕ, zero, suc, false, cond, length, Some, None, Option, nat_lt}
use Rattle.card.specs.Netlists.{Netlist}
use Rattle.signal.specs.declared.line.Stuck.{Stuck}
use Rattle.faults.specs.Sites.{fault_count, stuck_of}
use Rattle.solving.specs.Backtracking.{backtracked}
use Rattle.solving.specs.Trials.{Answer, leaves, verdict_of}
use Rattle.formula.specs.Posing.{holds_formula}
use Rattle.asking.specs.Findings.{Finding, finding, unknown}
use Rattle.history.specs.Changing.{closing, entering, sweeping, taking}
use Rattle.history.specs.Views.{View, is_open, is_taken, mark, most, new_view}

-- the steps that a search of a sheet may take
abbrev pub sheet_budget : ℕ
sheet_budget = 1000000

-- what an answer says of a fault
abbrev pub finding_from : Netlist → Stuck → Answer → Finding
finding_from c s answer = finding c s (verdict_of answer) (leaves answer)

abbrev pub finding_of_line : Netlist → Option Stuck → Finding
finding_of_line c None = unknown
finding_of_line c (Some s) = finding_from c s (backtracked (holds_formula c s) sheet_budget)

-- what backtracking finds of a fault
unfoldable pub found : Netlist → ℕ → Finding
found c f = finding_of_line c (stuck_of c f)

abbrev pub searching : Netlist → View → ℕ → View
searching c v f = cond (nat_lt (length v.vectors) most) (entering v f (found c f)) v

-- where there are more vectors than n, vector n is new
abbrev pub sweeping_new : Netlist → ℕ → View → View
sweeping_new c n v = cond (nat_lt n (length v.vectors)) (sweeping c v n) v

-- the work on one fault
abbrev pub working : Netlist → View → ℕ → View
working c v f = cond (is_open (mark v f)) (sweeping_new c (length v.vectors) (closing (searching c (taking v f) f) f)) v

-- the faults below n, rising, from a new job
abbrev pub worked_to : Netlist → ℕ → View
worked_to c zero = new_view c
worked_to c (suc n) = working c (worked_to c n) n

-- what the job of a sheet holds
unfoldable pub sheet_view : Netlist → View
sheet_view c = worked_to c (fault_count c)

abbrev pub NoneTaken : View → Type 0
NoneTaken v = (f : ℕ) → is_taken v f ≡ false

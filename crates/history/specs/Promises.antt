-- The law of jobs: what holds after every history of calls, granted or refused, whatever solvers the searches bring.
-- `Promise` is what a user of a job may rely on; `Law` says that it holds after every history, and `Keeps` that no verdict is lost.
use Rattle.std.specs.Prelude.{◌≡◌, ℕ, ◌+◌, ◌*◌, ◌<◌, ◌≤◌, Bool, true, false, List, ◌∷◌, length, Some, count_by}
use Rattle.card.specs.Netlists.{Lawful, Netlist}
use Rattle.signal.specs.declared.line.Stuck.{Stuck}
use Rattle.vectors.specs.Vectors.{Cells, InForm}
use Rattle.faults.specs.Catching.{ShownByEveryFilling, catches_fault}
use Rattle.faults.specs.Readers.{branches}
use Rattle.faults.specs.Showing.{Shows}
use Rattle.faults.specs.Sites.{fault_count, stuck_of}
use Rattle.history.specs.Histories.{AmplySearched, History, LeadsTo, OnlyOwn, Run, gives, grants_close, grants_take, spends}
use Rattle.history.specs.Steps.{Event}
use Rattle.history.specs.Views.{View, is_detected, is_open, is_taken, is_untestable, mark, most, vector_at}
use Rattle.history.specs.declared.mark.Mark.{Mark}
use Rattle.history.specs.declared.mark.Mark.TheVariants.{Detected, Untestable}

-- there is one output at which every filling of the vector shows the fault of this number
pub record ShownByFillings (c : Netlist) (f : ℕ) (x : Cells) : Type 0 where
  pub stuck : Stuck
  pub is_the_faults_line : stuck_of c f ≡ Some stuck
  pub shown : ShownByEveryFilling c stuck x

-- no setting shows the fault of this number; so too where there is no such fault, which is never marked untestable
abbrev pub NoSettingShows : Netlist → ℕ → Type 0
NoSettingShows c f = (s : Stuck) → stuck_of c f ≡ Some s → (bits : List Bool) → Shows c s bits → ⊥

-- untestable exactly if no setting shows the fault, else detected
pub record Settled (c : Netlist) (f : ℕ) (m : Mark) : Type 0 where
  pub untestable_only_if_no_setting_shows : m ≡ Untestable → NoSettingShows c f
  pub untestable_if_no_setting_shows : NoSettingShows c f → m ≡ Untestable
  pub else_detected : (NoSettingShows c f → ⊥) → is_detected m ≡ true

-- what is promised of a job after a history
pub record Promise (c : Netlist) (h : History) (v : View) : Type 0 where
  pub every_filling_of_its_listed_vector_shows_a_detected_fault : (f i : ℕ) → mark v f ≡ Detected i → (i < length v.vectors) × ShownByFillings c f (vector_at v i)
  pub its_listed_vector_catches_a_detected_fault : (f i : ℕ) → mark v f ≡ Detected i → catches_fault c f (vector_at v i) ≡ true
  pub no_setting_shows_an_untestable_fault : (f : ℕ) → mark v f ≡ Untestable → NoSettingShows c f
  pub enough_steps_settle_a_fault : (f : ℕ) → AmplySearched c f h → Settled c f (mark v f)
  pub open_detected_and_untestable_are_all_faults :
      count_by is_open v.marks + count_by is_detected v.marks + count_by is_untestable v.marks ≡ 2 * (c.inputs + length c.gates + length (branches c))
  pub as_many_taken_as_takes_less_closes : count_by (λ b. b) v.taken + count_by grants_close h ≡ count_by grants_take h
  pub each_taken_fault_has_one_unclosed_ticket : OnlyOwn h → (f : ℕ) → is_taken v f ≡ true → count_by (gives f) h ≡ count_by (spends f) h + 1
  pub no_other_fault_has_one : OnlyOwn h → (f : ℕ) → is_taken v f ≡ false → count_by (gives f) h ≡ count_by (spends f) h
  pub every_fault_has_a_mark_and_a_flag : (length v.marks ≡ fault_count c) × (length v.taken ≡ fault_count c)
  pub at_most_512_vectors : length v.vectors ≤ most
  pub every_listed_vector_is_in_form : (i : ℕ) → i < length v.vectors → InForm c.inputs (vector_at v i)

-- a decided fault keeps its verdict; the vector that it names may change its number
pub record Keeps (v w : View) : Type 0 where
  pub detected_stays : (f i : ℕ) → mark v f ≡ Detected i → is_detected (mark w f) ≡ true
  pub untestable_stays : (f : ℕ) → mark v f ≡ Untestable → mark w f ≡ Untestable

-- the law, over every history of a new job on the card and whatever calls follow
abbrev pub Law : Netlist → Type 0
Law c = (h : History) (v : View) → LeadsTo c h v → Promise c h v × ((after : History) (w : View) → Run c v after w → Keeps v w)

abbrev pub LawOfJobs : Type 0
LawOfJobs = (c : Netlist) → Lawful c → Law c

-- whatever history led to v, the promise holds after that history and this call, which leads to w
abbrev pub PromisedAfter : Netlist → View → Event → View → Type 0
PromisedAfter c v e w = (h : History) → LeadsTo c h v → Promise c (e ∷ h) w

-- some history leads a new job there
abbrev pub Reached : Netlist → View → Type 0
Reached c v = ∥ ((h : History) × LeadsTo c h v) ∥₁

-- and the promise holds after that history; which one it is, is not said
abbrev pub Stands : Netlist → View → Type 0
Stands c v = ∥ ((h : History) × LeadsTo c h v × Promise c h v) ∥₁

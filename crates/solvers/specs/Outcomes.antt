-- The answer of the definitions that a verdict stands for, with the setting that is left.
use Rattle.std.specs.Prelude.{ℕ}
use Rattle.solving.specs.Settings.{Setting}
use Rattle.solving.specs.Trials.{Answer, found, none, undecided}
use Rattle.solving.specs.declared.verdict.Verdict.{Verdict}
use Rattle.solving.specs.declared.verdict.Verdict.TheVariants.{Found, None as Unsatisfiable, Undecided}
use Rattle.solving.specs.declared.verdict.Solved.{Solved}

abbrev pub meant : Verdict → ℕ → Setting → Answer
meant Found s b = found b s
meant Unsatisfiable s b = none s
meant Undecided s b = undecided s

abbrev pub answered : Solved → Setting → Answer
answered r b = meant r.verdict r.steps b

-- What comes of a call on one direction with its parameters: a refusal, or a fit. Definitions only.
use Rattle.std.specs.Prelude.{Result, Ok, Err}
use Rattle.std.proofs.Math.Option.{Option, none, some}
use Rattle.bspline.specs.declared.Refusal.{Refusal}
use Rattle.bspline.specs.declared.Refusal.TheVariants.{PoleCountMismatch}
use Rattle.tables.specs.Directions.{Direction}
use Rattle.checks.specs.declared.Aim.{Aim}
use Rattle.checks.specs.declared.Aim.TheVariants.{Count, Within}
use Rattle.checks.specs.declared.Call.{Call}
use Rattle.checks.specs.declared.Call.TheVariants.{Interpolate, Approximate, ApproximateWithin, SearchSpread}
use Rattle.fitting.specs.Within.{Candidate, Marked, interpolated, chosen, interpolate, fit_on_spread, fit_within, fit_within_fewest, spread_alone}

-- a fit, or a refusal
abbrev pub FitResult : Type 0
FitResult = Result Marked Refusal

-- a fit with a chosen pole count, or a refusal where least squares gives none
unfoldable pub chosen_or : Refusal → Option Candidate → FitResult
chosen_or c none = Err c
chosen_or c (some f) = Ok (chosen f)

-- the four calls, on a ladder with its parameters
unfoldable pub fit_by : Call → Direction → FitResult
fit_by Interpolate d = Ok (interpolated (interpolate d))
fit_by (Approximate count) d = chosen_or PoleCountMismatch (fit_on_spread d count)
fit_by (ApproximateWithin t) d = Ok (fit_within d t)
fit_by (SearchSpread t) d = Ok (spread_alone d t)

-- and one direction of a grid
unfoldable pub fit_to : Aim → Direction → FitResult
fit_to (Count count) d = chosen_or PoleCountMismatch (fit_on_spread d count)
fit_to (Within t) d = Ok (fit_within_fewest d t)

-- Fits of one direction: on spread knots, by interpolation, and within a tolerance (`fit_within`, `fit_within_fewest`, `fit_on_spread_knots`). Definitions only.
use Rattle.std.specs.Prelude.{ℕ, zero, suc, ◌-◌, Bool, false, cond, List, length, Float, Option, Some, None}
use Rattle.std.proofs.Math.Option.{Option as Maybe, none, some}
use Rattle.geometry.specs.Doubles.{largest}
use Rattle.knots.specs.Knots.{bezier_knots, averaged_knots, approximation_knots}
use Rattle.tables.specs.BasisTable.{BasisTable, basis_table}
use Rattle.solving.specs.LeastSquares.{least_squares}
use Rattle.solving.specs.Interpolation.{interpolation}
use Rattle.tables.specs.Deviations.{largest_within}
use Rattle.tables.specs.Directions.{Direction}
use Rattle.search.specs.Search.{fewest}
use Rattle.refinement.specs.Refinement.{refined_knots}

-- a fit of one direction: its flat knots, its poles line after line, and each point's distance from it
pub record Candidate : Type 0 where
  pub flat : List Float
  pub poles : List Float
  pub distances : List Float

-- a fit with the step that it comes from, document 01's mark; a spread one with its pole count
pub data Marked : Type 0 where
  refined : Candidate → Marked
  spread : ℕ → Candidate → Marked
  interpolated : Candidate → Marked
  chosen : Candidate → Marked

-- how many poles flat knots of a degree have
abbrev pub pole_count : ℕ → List Float → ℕ
pole_count degree flat = length flat - degree - 1

-- the basis table of these flat knots at the direction's parameters
abbrev pub table_on : Direction → List Float → BasisTable
table_on d flat = basis_table flat d.degree d.params

-- ---- a fit on given knots (the Rust's `attempt`)

-- the fit with these poles
unfoldable pub candidate : Direction → List Float → BasisTable → List Float → Candidate
candidate d flat t poles = record { flat = flat; poles = poles; distances = d.distances t (pole_count d.degree flat) poles }

-- and none where there are no poles
unfoldable pub candidate_of : Direction → List Float → BasisTable → Maybe (List Float) → Maybe Candidate
candidate_of d flat t none = none
candidate_of d flat t (some poles) = some (candidate d flat t poles)

-- by least squares, which may give none
unfoldable pub fit_on : Direction → List Float → Maybe Candidate
fit_on d flat = let t = table_on d flat in candidate_of d flat t (least_squares t (pole_count d.degree flat) d.lines d.point)

-- on the spread knots of a pole count
unfoldable pub fit_on_spread : Direction → ℕ → Maybe Candidate
fit_on_spread d count = fit_on d (approximation_knots d.params count d.degree)

-- by interpolation, on averaged knots
unfoldable pub interpolate : Direction → Candidate
interpolate d =
    let flat = averaged_knots d.params d.degree in
    let t = table_on d flat in
    candidate d flat t (interpolation t d.lines d.point)

-- ---- refinement by rounds

-- before a round: the flat knots that it fits on; or the fit that an earlier one gave; or an end without one
pub data Refining : Type 0 where
  going : List Float → Refining
  fitted : Candidate → Refining
  stuck : Refining

-- on with these knots, or an end where there are none
unfoldable pub going_on : Maybe (List Float) → Refining
going_on none = stuck
going_on (some flat) = going flat

-- a round's fit, if its largest deviation is within the tolerance; else the knots of the next round; an end where least squares gives none
unfoldable pub judged : Direction → Float → List Float → Maybe Candidate → Refining
judged d t flat none = stuck
judged d t flat (some f) =
    let next = refined_knots d.params (table_on d flat).firsts (d.deviations f.distances) (largest f.distances) t d.degree flat in
    cond (largest_within t f.distances) (fitted f) (going_on next)

-- one round, and so many
unfoldable pub refinement_round : Direction → Float → Refining → Refining
refinement_round d t (going flat) = judged d t flat (fit_on d flat)
refinement_round d t (fitted f) = fitted f
refinement_round d t stuck = stuck

unfoldable pub refinement_rounds : Direction → Float → ℕ → Refining → Refining
refinement_rounds d t zero s = s
refinement_rounds d t (suc k) s = refinement_rounds d t k (refinement_round d t s)

-- the fit, if one was given
unfoldable pub fit_in : Refining → Maybe Candidate
fit_in (going flat) = none
fit_in (fitted f) = some f
fit_in stuck = none

-- From a single Bézier piece on: the fit of the first round whose largest deviation is within the tolerance. As many rounds as parameters are enough: each
-- but the last adds a pole, and the count stays below theirs.
unfoldable pub fit_with_refined_knots : Direction → Float → Maybe Candidate
fit_with_refined_knots d t = fit_in (refinement_rounds d t (length d.params) (going (bezier_knots d.degree)))

-- ---- the spread search

-- whether a fit, if there is one, passes the direction's test
unfoldable pub candidate_passes : Direction → Float → Maybe Candidate → Bool
candidate_passes d t none = false
candidate_passes d t (some f) = d.within t f.distances

-- document 01's test of a pole count at a tolerance: least squares on the spread knots of that count gives poles, and their deviations pass
unfoldable pub passes_on_spread : Direction → Float → ℕ → Bool
passes_on_spread d t count = candidate_passes d t (fit_on_spread d count)

-- the fit of a count that was found, and another where none was
unfoldable pub spread_or : Marked → ℕ → Maybe Candidate → Marked
spread_or other count none = other
spread_or other count (some f) = spread count f

unfoldable pub found_or : Direction → Marked → Option ℕ → Marked
found_or d other None = other
found_or d other (Some count) = spread_or other count (fit_on_spread d count)

-- the fit on spread knots with the poles that the search finds below `last`, and another where it finds none
unfoldable pub fit_on_spread_knots : Direction → Float → ℕ → Marked → Marked
fit_on_spread_knots d t last other = found_or d other (fewest (passes_on_spread d t) d.degree last)

-- below as many poles as parameters, and else the interpolation: "the spread search alone" in document 01's words
unfoldable pub spread_alone : Direction → Float → Marked
spread_alone d t = fit_on_spread_knots d t (length d.params) (interpolated (interpolate d))

-- ---- within a tolerance

-- a ladder: refinement, else the spread search, else interpolation
unfoldable pub refined_or : Direction → Float → Maybe Candidate → Marked
refined_or d t none = spread_alone d t
refined_or d t (some f) = refined f

unfoldable pub fit_within : Direction → Float → Marked
fit_within d t = refined_or d t (fit_with_refined_knots d t)

-- a grid's direction: after a refinement the spread search goes on below its poles
unfoldable pub fewer_or : Direction → Float → Maybe Candidate → Marked
fewer_or d t none = spread_alone d t
fewer_or d t (some f) = fit_on_spread_knots d t (pole_count d.degree f.flat) (refined f)

unfoldable pub fit_within_fewest : Direction → Float → Marked
fit_within_fewest d t = fewer_or d t (fit_with_refined_knots d t)

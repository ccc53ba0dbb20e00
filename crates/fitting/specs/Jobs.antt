-- The fitting of one direction: which direction a job is, and which fit stands in the regions. Definitions only.
use Rattle.std.specs.Prelude.{◌≡◌, Bool, List, ℕ, ◌+◌, ◌-◌, ◌*◌, ◌≤◌, length, take, Float, Option, Some, None, IfSome, OnSome}
use Rattle.std.proofs.Math.Option.{Option as Maybe, none, some}
use Rattle.geometry.specs.Root.{roots_of}
use Rattle.knots.specs.declared.lines.Lines.{Lines}
use Rattle.knots.specs.OnLines.{on_lines}
use Rattle.tables.specs.declared.Measured.{Measured}
use Rattle.tables.specs.BasisTable.{BasisTable}
use Rattle.tables.specs.Deviations.{ladder_distances, row_distances, grid_distances, point_deviations, largest_over_rows, largest_over_columns, all_within, largest_within}
use Rattle.tables.specs.Layout.{table_of, table_in}
use Rattle.tables.specs.Measures.{measured}
use Rattle.tables.specs.Directions.{Direction, transposed}
use Rattle.search.specs.Search.{fewest}
use Rattle.fitting.specs.declared.Job.{Job}
use Rattle.fitting.specs.declared.Kind.{Kind}
use Rattle.fitting.specs.declared.Kind.TheVariants.{Ladder, Rows, Columns}
use Rattle.fitting.specs.declared.room.Fitted.{Fitted}
use Rattle.fitting.specs.declared.room.Regions.{Regions}
use Rattle.fitting.specs.declared.room.Sizes.{Sizes}
use Rattle.fitting.specs.Flat.{flat_of}
use Rattle.fitting.specs.Room.{HasSizes}
use Rattle.fitting.specs.Solves.{poles_of, curve_places}
use Rattle.fitting.specs.Within.{Candidate, Marked, spread, candidate, table_on, fit_on, fit_on_spread, fit_on_spread_knots, interpolate, fit_with_refined_knots, passes_on_spread}

-- By what the lines are: each point's distance from a fit, each parameter's deviation, and the test of a fit on spread knots.
unfoldable pub distances_by : Float → Lines → Kind → BasisTable → ℕ → List Float → List Float
distances_by f l Ladder = λ t m poles. ladder_distances f t poles l.points.now
distances_by f l Rows = λ t m poles. row_distances f l.lines t m poles l.points.now
distances_by f l (Columns s) = λ t m poles. grid_distances f t (table_of s.across) l.lines (transposed l.lines m poles) s.points.now

unfoldable pub deviations_by : ℕ → ℕ → Kind → List Float → List Float
deviations_by lines n Ladder = point_deviations
deviations_by lines n Rows = largest_over_rows lines n
deviations_by lines n (Columns s) = largest_over_columns n (length s.across.firsts.now)

unfoldable pub within_by : Kind → Float → List Float → Bool
within_by Ladder = all_within
within_by Rows = largest_within
within_by (Columns s) = largest_within

-- the direction
unfoldable pub direction_of : Job → Direction
direction_of j =
    record {
      degree = j.degree;
      params = j.params.now;
      lines = j.lines.lines;
      point = on_lines j.lines;
      distances = distances_by j.factor j.lines j.kind;
      deviations = deviations_by j.lines.lines (length j.params.now) j.kind;
      within = within_by j.kind;
    }

-- regions as large as a job's fits need
abbrev pub sizes_of : Job → Sizes
sizes_of j = record { degree = j.degree; count = length j.params.now; lines = j.lines.lines; curve = curve_places j.kind }

abbrev pub HasRegions : Job → Regions → Type 0
HasRegions j g = HasSizes (sizes_of j) g

-- as many flat knots as a fit of this job may have
pub record HasKnots (j : Job) (l : ℕ) : Type 0 where
  pub least : 2 * j.degree + 2 ≤ l
  pub most : l ≤ length j.params.now + j.degree + 1

-- the distances of the fit whose table and poles stand there
abbrev pub distances_on : Job → Fitted → List Float
distances_on j x = (direction_of j).distances (table_in x.table) x.table.poles (poles_of j.lines.lines x)

-- the poles on the flat knots that stand in the regions, and both as a fit
abbrev pub poles_in : Job → Regions → List Float
poles_in j g = take (3 * (j.lines.lines * (g.knots.count - j.degree - 1))) g.fit.poles.now

unfoldable pub candidate_in : Job → Regions → Candidate
candidate_in j g =
    let d = direction_of j in
    let flat = flat_of g.knots in
    candidate d flat (table_on d flat) (poles_in j g)

-- what stands in the regions where an attempt gave a fit
unfoldable pub attempted : Option Measured → Candidate → Maybe Candidate
attempted None f = none
attempted (Some x) f = some f

-- What least squares on the flat knots that stand there leaves: no fit; or a fit, which stands there, with its deviations' squares and what its distances measure.
pub record Attempts (j : Job) (g g' : Regions) (r : Option Measured) : Type 0 where
  pub answer : fit_on (direction_of j) (flat_of g.knots) ≡ attempted r (candidate_in j g')
  pub measures : IfSome r (λ x. x ≡ measured (candidate_in j g').distances)
  pub deviations : OnSome r (roots_of g'.squares.now ≡ (direction_of j).deviations (candidate_in j g').distances)
  pub firsts : g'.fit.table.firsts.now ≡ (table_on (direction_of j) (flat_of g.knots)).firsts
  pub knots : flat_of g'.knots ≡ flat_of g.knots
  pub count : g'.knots.count ≡ g.knots.count
  pub regions : HasRegions j g'

-- What least squares on the spread knots of m poles leaves: no fit; or a fit on those knots, which stands there, with what its distances measure.
pub record AttemptsSpread (j : Job) (m : ℕ) (g' : Regions) (r : Option Measured) : Type 0 where
  pub answer : fit_on_spread (direction_of j) m ≡ attempted r (candidate_in j g')
  pub measures : IfSome r (λ x. x ≡ measured (candidate_in j g').distances)
  pub count : g'.knots.count ≡ m + j.degree + 1
  pub regions : HasRegions j g'

-- What interpolation leaves: the fit, and what its distances measure.
pub record PassesThrough (j : Job) (g' : Regions) (r : Measured) : Type 0 where
  pub fit : candidate_in j g' ≡ interpolate (direction_of j)
  pub measures : r ≡ measured (interpolate (direction_of j)).distances
  pub count : g'.knots.count ≡ length j.params.now + j.degree + 1
  pub regions : HasRegions j g'

-- What reaching for the tolerance leaves: where it was met, a fit stands there, with what its distances measure.
pub record Reaches (j : Job) (g' : Regions) (r : Option Measured) : Type 0 where
  pub measures : IfSome r (λ x. x ≡ measured (candidate_in j g').distances)
  pub few : OnSome r (HasKnots j g'.knots.count)
  pub regions : HasRegions j g'

-- What refinement from a single Bézier piece leaves.
pub record RefinesWithin (j : Job) (tolerance : Float) (g' : Regions) (r : Option Measured) : Type 0 where
  pub answer : fit_with_refined_knots (direction_of j) tolerance ≡ attempted r (candidate_in j g')
  pub reaches : Reaches j g' r

-- What the test of a pole count on spread knots leaves.
pub record Tested (j : Job) (tolerance : Float) (m : ℕ) (g' : Regions) (r : Bool) : Type 0 where
  pub answer : r ≡ passes_on_spread (direction_of j) tolerance m
  pub regions : HasRegions j g'

-- What the search for the fewest poles below `last` leaves, with its last try in the regions.
pub record FewestFound (j : Job) (tolerance : Float) (last : ℕ) (g' : Regions) (r : Option ℕ) : Type 0 where
  pub answer : r ≡ fewest (passes_on_spread (direction_of j) tolerance) j.degree last
  pub regions : HasRegions j g'

-- the fit, with its pole count, and another where there is none
unfoldable pub spread_in : Marked → Option Measured → ℕ → Candidate → Marked
spread_in other None m f = other
spread_in other (Some x) m f = spread m f

-- What the spread search below `last` leaves.
pub record SpreadsBelow (j : Job) (tolerance : Float) (last : ℕ) (g' : Regions) (r : Option Measured) : Type 0 where
  pub answer : (other : Marked) → fit_on_spread_knots (direction_of j) tolerance last other ≡ spread_in other r (g'.knots.count - j.degree - 1) (candidate_in j g')
  pub reaches : Reaches j g' r

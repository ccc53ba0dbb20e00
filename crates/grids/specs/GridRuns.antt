-- What a grid call does after its checks: the rows' fit, and the columns' fit over it. Definitions only.
use Rattle.std.specs.Prelude.{◌≡◌, List, ℕ, ◌+◌, ◌-◌, ◌*◌, ◌≤◌, length, take, Float}
use Rattle.places.specs.Places.{laid}
use Rattle.geometry.specs.Doubles.{at}
use Rattle.bspline.specs.Refusals.{pass}
use Rattle.knots.specs.OnLines.{on_lines}
use Rattle.knots.specs.Knots.{distinct_knots}
use Rattle.tables.specs.BasisTable.{basis_table}
use Rattle.tables.specs.Layout.{table_in, Reads, HasTableIn}
use Rattle.tables.specs.Directions.{row_point, column_point, transposed}
use Rattle.checks.specs.declared.Shape.{Shape}
use Rattle.checks.specs.declared.SurfaceCall.{SurfaceCall}
use Rattle.checks.specs.declared.given.Grid.{Grid}
use Rattle.checks.specs.declared.slices.GridOutput.{GridOutput}
use Rattle.checks.specs.GridChecks.{GridShaped, counts_verdict}
use Rattle.checks.specs.Slices.{SameGridOutput}
use Rattle.fitting.specs.declared.Fit.{Fit}
use Rattle.fitting.specs.declared.room.Sizes.{Sizes}
use Rattle.fitting.specs.Room.{places_of}
use Rattle.fitting.specs.Flat.{flat_of}
use Rattle.fitting.specs.declared.Job.{Job}
use Rattle.fitting.specs.declared.Kind.{Kind}
use Rattle.fitting.specs.declared.Kind.TheVariants.{Ladder, Rows, Columns}
use Rattle.fitting.specs.declared.Surface.{Surface}
use Rattle.fitting.specs.declared.room.Regions.{Regions}
use Rattle.fitting.specs.Jobs.{HasRegions, candidate_in, poles_in}
use Rattle.fitting.specs.Marks.{unmarked, fit_of}
use Rattle.fitting.specs.Within.{Marked}
use Rattle.making.specs.declared.StandingFit.{StandingFit}
use Rattle.making.specs.Results.{fit_to}
use Rattle.making.specs.Runs.{standing_in}
use Rattle.making.specs.Saving.{saved_places}
use Rattle.making.specs.HandedOut.{HasKnotsOut, HandedKnots}
use Rattle.grids.specs.declared.GridFit.{GridFit}
use Rattle.grids.specs.declared.output.Placed.{Placed}
use Rattle.grids.specs.Grids.{GridResult, column_aim, beside_rows, along_u}

-- ---- sizes

-- of the rows' regions, and of the columns' with so many columns of row poles
abbrev pub rows_sizes : Shape → Sizes
rows_sizes h = record { degree = h.v; count = h.cols; lines = h.rows; curve = 0 }

abbrev pub columns_sizes : Shape → ℕ → Sizes
columns_sizes h columns = record { degree = h.u; count = h.rows; lines = columns; curve = 3 * columns }

-- room for the columns' fit, of at most as many columns as the grid has
pub record ColumnsRoom (h : Shape) (work index : ℕ) : Type 0 where
  pub for_work : places_of (columns_sizes h h.cols) + saved_places (columns_sizes h h.cols) ≤ work
  pub for_index : h.rows ≤ index

-- and for the rows' before it
pub record RowsRoom (h : Shape) (work index : ℕ) : Type 0 where
  pub for_work : places_of (rows_sizes h) + saved_places (rows_sizes h) + (places_of (columns_sizes h h.cols) + saved_places (columns_sizes h h.cols)) ≤ work
  pub for_index : h.cols + h.rows ≤ index

-- room for what is handed out
pub record HasGridOutput (h : Shape) (o : GridOutput) : Type 0 where
  pub poles : 3 * (h.rows * h.cols) ≤ length o.poles.now
  pub u : HasKnotsOut (h.rows + h.u + 1) o.uflat.now o.uknots.now o.umults.now
  pub v : HasKnotsOut (h.cols + h.v + 1) o.vflat.now o.vknots.now o.vmults.now

-- ---- the two fits

-- a grid that passed the checks, with its parameters along u and along v
pub record HasParams (call : SurfaceCall) (g : Grid) (u v : ℕ) : Type 0 where
  pub shaped : GridShaped (length g.points.now) g.shape
  pub counts : counts_verdict call g.shape ≡ pass
  pub for_u : u ≡ g.shape.rows
  pub for_v : v ≡ g.shape.cols

-- the fit that stands
abbrev pub stood : StandingFit → Marked
stood x = standing_in x.job x.at.now x.standing

-- how many poles it has in each line
abbrev pub count_of : StandingFit → ℕ
count_of x = x.at.now.knots.count - x.job.degree - 1

-- What the making of the table of a fit's knots leaves: that table, and the same fit.
pub record TableStands (j : Job) (g g' : Regions) : Type 0 where
  pub table : table_in g'.fit.table ≡ basis_table (flat_of g.knots) j.degree j.params.now
  pub poles : g'.fit.table.poles ≡ g.knots.count - j.degree - 1
  pub has : HasTableIn g'.fit.table
  pub fit : candidate_in j g' ≡ candidate_in j g
  pub knots : flat_of g'.knots ≡ flat_of g.knots
  pub count : g'.knots.count ≡ g.knots.count
  pub regions : HasRegions j g'

-- A job that is a grid's rows, along v.
pub record RowsJob (g : Grid) (v_params : List Float) (j : Job) : Type 0 where
  pub degree : j.degree ≡ g.shape.v
  pub factor : j.factor ≡ g.metric.factor
  pub params : j.params.now ≡ v_params
  pub list : j.lines.points.now ≡ g.points.now
  pub points : on_lines j.lines ≡ row_point g.points.now g.shape.cols
  pub lines : j.lines.lines ≡ g.shape.rows
  pub kind : j.kind ≡ Rows

-- a fit of them, with the table of its knots
pub record OverRows (g : Grid) (rows : StandingFit) : Type 0 where
  pub shaped : GridShaped (length g.points.now) g.shape
  pub job : RowsJob g rows.job.params.now rows.job
  pub params : length rows.job.params.now ≡ g.shape.cols
  pub table : table_in rows.at.now.fit.table ≡ basis_table (flat_of rows.at.now.knots) g.shape.v rows.job.params.now
  pub poles : rows.at.now.fit.table.poles ≡ count_of rows
  pub has : HasTableIn rows.at.now.fit.table

-- what holds of the surface that columns are measured against
abbrev pub OnSurface : Kind → (Surface → Type 0) → Type 0
OnSurface Ladder P = ⊥
OnSurface Rows P = ⊥
OnSurface (Columns s) P = P s

-- And one that is the columns of its poles, along u.
pub record ColumnsJob (g : Grid) (rows : StandingFit) (u_params : List Float) (j : Job) : Type 0 where
  pub degree : j.degree ≡ g.shape.u
  pub factor : j.factor ≡ g.metric.factor
  pub params : j.params.now ≡ u_params
  pub points : on_lines j.lines ≡ column_point (poles_in rows.job rows.at.now) (count_of rows)
  pub lines : j.lines.lines ≡ count_of rows
  pub kind : OnSurface j.kind (λ s. (s.points.now ≡ g.points.now) × Reads rows.at.now.fit.table s.across)

-- the columns' fit over it
abbrev pub columns_over : SurfaceCall → Grid → StandingFit → List Float → GridResult
columns_over call g rows u_params =
    beside_rows (stood rows) (fit_to (column_aim call) (along_u g.metric.factor g.points.now g.shape u_params rows.job.params.now (unmarked (stood rows))))

-- ---- handing out

-- a fit that stands, without its direction
abbrev pub placed : StandingFit → Placed
placed x = record { degree = x.job.degree; at = x.at; standing = x.standing }

-- how many poles a fit has in each line, and how many places the columns' poles take
abbrev pub count_in : Placed → ℕ
count_in x = x.at.now.knots.count - x.degree - 1

abbrev pub pole_places : Placed → Placed → ℕ
pole_places rows columns = 3 * (count_in rows * count_in columns)

-- what is answered of one direction's fit
abbrev pub direction_fit : Placed → Fit
direction_fit x = record { mark = x.standing.mark; poles = count_in x; knots = distinct_knots (flat_of x.at.now.knots); unreadable = x.standing.unreadable }

-- a direction's flat knots stand in their places, with room for them and their runs
pub record HasDirection (x : Placed) (flat knots : List Float) (mults : List ℕ) : Type 0 where
  pub least : x.degree + 1 ≤ x.at.now.knots.count
  pub inside : x.at.now.knots.count ≤ length x.at.now.knots.places.now
  pub knots_out : HasKnotsOut x.at.now.knots.count flat knots mults

-- a direction's knots, with its mark and counts
pub record HandsDirection (x : Placed) (flat flat' knots knots' : List Float) (mults mults' : List ℕ) (r : Fit) : Type 0 where
  pub answer : r ≡ direction_fit x
  pub poles : r.poles ≡ count_in x
  pub handed : HandedKnots (flat_of x.at.now.knots) flat flat' knots knots' mults mults' (distinct_knots (flat_of x.at.now.knots))

-- both fits, with room for what is handed out
pub record HasBoth (rows columns : Placed) (o : GridOutput) : Type 0 where
  pub u_few : count_in columns ≤ 64
  pub v_few : count_in rows ≤ 64
  pub poles_inside : pole_places rows columns ≤ length columns.at.now.fit.poles.now
  pub for_poles : pole_places rows columns ≤ length o.poles.now
  pub u : HasDirection columns o.uflat.now o.uknots.now o.umults.now
  pub v : HasDirection rows o.vflat.now o.vknots.now o.vmults.now

-- what is handed out of them
pub record HandsBoth (rows columns : Placed) (o o' : GridOutput) (r : GridFit) : Type 0 where
  pub u : HandsDirection columns o.uflat.now o'.uflat.now o.uknots.now o'.uknots.now o.umults.now o'.umults.now r.u
  pub v : HandsDirection rows o.vflat.now o'.vflat.now o.vknots.now o'.vknots.now o.vmults.now o'.vmults.now r.v
  pub surface :
      o'.poles.now ≡ laid 0 (pole_places rows columns)
      (at (transposed (count_in rows) (count_in columns) (take (pole_places rows columns) columns.at.now.fit.poles.now))) o.poles.now
  pub same : SameGridOutput o o'

-- The same of fits that stand: a direction's fit is what is answered of the one that stands there, and the surface's poles are the columns' in all their lines.
pub record HandsStood (x : StandingFit) (flat flat' knots knots' : List Float) (mults mults' : List ℕ) (r : Fit) : Type 0 where
  pub answer : r ≡ fit_of x.job.degree (stood x)
  pub poles : r.poles ≡ count_of x
  pub handed : HandedKnots (flat_of x.at.now.knots) flat flat' knots knots' mults mults' (distinct_knots (flat_of x.at.now.knots))

pub record HandsBothStood (rows columns : StandingFit) (o o' : GridOutput) (r : GridFit) : Type 0 where
  pub u : HandsStood columns o.uflat.now o'.uflat.now o.uknots.now o'.uknots.now o.umults.now o'.umults.now r.u
  pub v : HandsStood rows o.vflat.now o'.vflat.now o.vknots.now o'.vknots.now o.vmults.now o'.vmults.now r.v
  pub surface :
      o'.poles.now ≡ laid 0 (3 * (count_of rows * count_of columns))
      (at (transposed (count_of rows) (count_of columns) (poles_in columns.job columns.at.now))) o.poles.now
  pub same : SameGridOutput o o'

-- The grid calls: their refusals, answers, and each place of each lent slice at exit. Definitions only.
use Rattle.std.specs.Prelude.{ℕ, ◌+◌, ◌-◌, ◌*◌, ◌≡◌, true, List, length, take, Result, Ok, Err, Float}
use Rattle.std.proofs.Math.Option.{Option, none, some}
use Rattle.std.specs.Float.{binary64}
use Rattle.std.specs.Float.Ieee.{of_bits}
use Rattle.places.specs.Places.{laid}
use Rattle.geometry.specs.Doubles.{◌⊗◌, nought, at}
use Rattle.bspline.specs.declared.Refusal.{Refusal}
use Rattle.bspline.specs.declared.Refusal.TheVariants.{ConfusedPoints}
use Rattle.bspline.specs.Refusals.{Verdict, number_of}
use Rattle.bspline.specs.Reader.{number_in}
use Rattle.knots.specs.Parameters.{shared_parameters}
use Rattle.knots.specs.Knots.{distinct_knots, knot_at, multiplicity_at}
use Rattle.tables.specs.BasisTable.{basis_table}
use Rattle.tables.specs.Deviations.{grid_distances}
use Rattle.tables.specs.Directions.{Direction, row_point, column_point, grid_rows, grid_columns, transposed}
use Rattle.fitting.specs.declared.Mark.TheVariants.{Refined, Spread}
use Rattle.fitting.specs.Within.{Candidate, Marked, pole_count, fit_within_fewest, passes_on_spread}
use Rattle.fitting.specs.Marks.{unmarked, fit_of}
use Rattle.fitting.specs.Tolerance.{NoneAbove, Fails, params_or}
use Rattle.checks.specs.GridChecks.{Grid, GridLent, grid_room_of, grid_checks, counts_verdict}
use Rattle.checks.specs.LadderChecks.{cleared}
use Rattle.checks.specs.declared.Shape.{Shape}
use Rattle.checks.specs.declared.Aim.{Aim}
use Rattle.checks.specs.declared.Aim.TheVariants.{Count, Within}
use Rattle.making.specs.Results.{FitResult, fit_to}
use Rattle.grids.specs.declared.GridFit.{GridFit}
use Rattle.checks.specs.declared.SurfaceCall.{SurfaceCall}
use Rattle.checks.specs.declared.SurfaceCall.TheVariants.{Approximate, ApproximateWithin}

-- ---- what comes of a grid that passes the checks: 5 (u, then v), 3 and 4 along u, then along v, 6, or a fit

-- both directions' fits
pub data GridResult : Type 0 where
  grid_refused : Refusal → GridResult
  grid_accepted : Marked → Marked → GridResult

-- along u the columns are the lines of points, along v the rows
abbrev pub u_parameters : Grid → Option (List Float)
u_parameters g = shared_parameters g.metric g.shape.cols g.shape.rows (column_point g.points g.shape.cols)

abbrev pub v_parameters : Grid → Option (List Float)
v_parameters g = shared_parameters g.metric g.shape.rows g.shape.cols (row_point g.points g.shape.cols)

-- the rows, along v; and along u, over the fit of the rows
unfoldable pub along_v : Float → List Float → Shape → List Float → Direction
along_v f s h v_params = grid_rows f s h.rows h.v v_params

unfoldable pub along_u : Float → List Float → Shape → List Float → List Float → Candidate → Direction
along_u f s h u_params v_params v =
    grid_columns f s (basis_table v.flat h.v v_params) (pole_count h.v v.flat) v.poles h.u u_params

-- the rows are fitted within 0.8 of a tolerance
abbrev pub row_share : Float
row_share = of_bits binary64 0x3fe9_9999_9999_999a

-- what the rows are fitted to along v, and the columns along u
unfoldable pub row_aim : SurfaceCall → Aim
row_aim (Approximate uCount vCount) = Count vCount
row_aim (ApproximateWithin t) = Within (row_share ⊗ t)

unfoldable pub column_aim : SurfaceCall → Aim
column_aim (Approximate uCount vCount) = Count uCount
column_aim (ApproximateWithin t) = Within t

-- the columns' fit beside the rows', and before it the rows'
unfoldable pub beside_rows : Marked → FitResult → GridResult
beside_rows v (Err c) = grid_refused c
beside_rows v (Ok u) = grid_accepted u v

unfoldable pub after_rows : FitResult → (Marked → FitResult) → GridResult
after_rows (Err c) next = grid_refused c
after_rows (Ok v) next = beside_rows v (next v)

-- the two calls, on a grid with its parameters along u and along v: the rows along v, then the columns of the row poles along u
unfoldable pub fit_grid_by : SurfaceCall → Grid → List Float → List Float → GridResult
fit_grid_by call g u_params v_params =
    after_rows (fit_to (row_aim call) (along_v g.metric.factor g.points g.shape v_params))
    (λ v. fit_to (column_aim call) (along_u g.metric.factor g.points g.shape u_params v_params (unmarked v)))

-- the rows' fit within a tolerance
unfoldable pub rows_within : Grid → Float → List Float → Marked
rows_within g t v_params = fit_within_fewest (along_v g.metric.factor g.points g.shape v_params) (row_share ⊗ t)

-- checks, and then the rest
unfoldable pub grid_checked : Verdict → GridResult → GridResult
grid_checked (Ok p) r = r
grid_checked (Err c) r = grid_refused c

-- with both directions' parameters, or 5; then 3 and 4; then the fit
unfoldable pub grid_fit_with : Verdict → (List Float → List Float → GridResult) → Option (List Float) → Option (List Float) → GridResult
grid_fit_with counts fit none v_params = grid_refused ConfusedPoints
grid_fit_with counts fit (some u) none = grid_refused ConfusedPoints
grid_fit_with counts fit (some u) (some v) = grid_checked counts (fit u v)

unfoldable pub grid_fit : SurfaceCall → Grid → GridResult
grid_fit call g = grid_fit_with (counts_verdict call g.shape) (fit_grid_by call g) (u_parameters g) (v_parameters g)

-- the first checks, and then all that
unfoldable pub grid_result_of : SurfaceCall → Grid → GridLent → GridResult
grid_result_of call g l = grid_checked (grid_checks g (grid_room_of l)) (grid_fit call g)

-- ---- what is handed back

-- the answer
abbrev pub GridAnswer : Type 0
GridAnswer = Result GridFit Refusal

unfoldable pub grid_answer_of : Shape → GridResult → GridAnswer
grid_answer_of h (grid_refused c) = Err c
grid_answer_of h (grid_accepted u v) = Ok (record { u = fit_of h.u u; v = fit_of h.v v })

-- document 01's number of a result: 0 where it is a fit
abbrev pub grid_result_number : GridResult → ℕ
grid_result_number (grid_accepted u v) = 0
grid_result_number (grid_refused c) = number_of c

-- the surface's poles, row after row: u's poles come column after column
unfoldable pub surface_poles : Shape → Candidate → Candidate → List Float
surface_poles h u v = transposed (pole_count h.v v.flat) (pole_count h.u u.flat) u.poles

-- an output slice: as lent after a refusal, else f's values in its first n places, and the places beyond as lent
unfoldable pub grid_handed : {A : Type 0} → (Candidate → Candidate → ℕ) → (Candidate → Candidate → ℕ → A) → GridResult → List A → List A
grid_handed n f (grid_refused c) xs = xs
grid_handed n f (grid_accepted u v) xs = laid 0 (n (unmarked u) (unmarked v)) (f (unmarked u) (unmarked v)) xs

-- the answer and the output slices. The slices are l as lent and l' at exit.
pub record HandsOutGrid (h : Shape) (fit : GridResult) (l l' : GridLent) (r : GridAnswer) : Type 0 where
  pub answer : r ≡ grid_answer_of h fit
  pub poles : l'.poles ≡ grid_handed (λ u v. length (surface_poles h u v)) (λ u v. at (surface_poles h u v)) fit l.poles
  pub u_flat : l'.u_flat ≡ grid_handed (λ u v. length u.flat) (λ u v. at u.flat) fit l.u_flat
  pub u_knots : l'.u_knots ≡ grid_handed (λ u v. distinct_knots u.flat) (λ u v. knot_at u.flat) fit l.u_knots
  pub u_mults : l'.u_mults ≡ grid_handed (λ u v. distinct_knots u.flat) (λ u v. multiplicity_at u.flat) fit l.u_mults
  pub v_flat : l'.v_flat ≡ grid_handed (λ u v. length v.flat) (λ u v. at v.flat) fit l.v_flat
  pub v_knots : l'.v_knots ≡ grid_handed (λ u v. distinct_knots v.flat) (λ u v. knot_at v.flat) fit l.v_knots
  pub v_mults : l'.v_mults ≡ grid_handed (λ u v. distinct_knots v.flat) (λ u v. multiplicity_at v.flat) fit l.v_mults

-- The contract of a grid call.
pub record GridCall (call : SurfaceCall) (g : Grid) (l l' : GridLent) (r : GridAnswer) : Type 0 where
  pub hands : HandsOutGrid g.shape (grid_result_of call g l) l l' r
  pub number : number_in r ≡ grid_result_number (grid_result_of call g l)
  pub work : l'.work ≡ cleared nought (grid_checks g (grid_room_of l)) l.work
  pub index : l'.index ≡ cleared 0 (grid_checks g (grid_room_of l)) l.index

-- Demand 3 along u, of what is handed out: the deviations are those of the knots and poles that stand in the output slices at exit, each point against the whole
-- surface at its pair of parameters. v's knots and the row poles are those that v's fit gives for the same grid.
module _ (g : Grid) (t : Float) where
  abbrev pub u_params : List Float
  u_params = params_or (u_parameters g)

  abbrev pub v_params : List Float
  v_params = params_or (v_parameters g)

  abbrev pub grid_handed_distances : GridFit → GridLent → List Float
  grid_handed_distances f l =
      grid_distances g.metric.factor
      (basis_table (take (f.u.poles + g.shape.u + 1) l.u_flat) g.shape.u u_params)
      (basis_table (take (f.v.poles + g.shape.v + 1) l.v_flat) g.shape.v v_params)
      f.v.poles
      (take (3 * f.u.poles * f.v.poles) l.poles)
      g.points

  abbrev pub u_direction : Direction
  u_direction = along_u g.metric.factor g.points g.shape u_params v_params (unmarked (rows_within g t v_params))

  pub record GridKept (l' : GridLent) (r : GridAnswer) : Type 0 where
    pub refined_within : (f : GridFit) (x : Float) → r ≡ Ok f → f.u.mark ≡ Refined x → NoneAbove t (grid_handed_distances f l')
    pub spread_within : (f : GridFit) (x : Float) → r ≡ Ok f → f.u.mark ≡ Spread x → NoneAbove t (grid_handed_distances f l')
    pub spread_passes : (f : GridFit) (x : Float) → r ≡ Ok f → f.u.mark ≡ Spread x → passes_on_spread u_direction t f.u.poles ≡ true
    pub one_below_fails : (f : GridFit) (x : Float) → r ≡ Ok f → f.u.mark ≡ Spread x → Fails u_direction t (f.u.poles - 1)

-- ---- the contracts

-- the grid's `approximate`, with chosen pole counts
pub record ApproximatesGrid (g : Grid) (uCount vCount : ℕ) (l l' : GridLent) (r : GridAnswer) : Type 0 where
  pub call : GridCall (Approximate uCount vCount) g l l' r

-- the grid's `approximate_within`, with demand 3
pub record ApproximatesGridWithin (g : Grid) (t : Float) (l l' : GridLent) (r : GridAnswer) : Type 0 where
  pub call : GridCall (ApproximateWithin t) g l l' r
  pub kept : GridKept g t l' r

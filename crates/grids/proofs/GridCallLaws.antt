-- A grid call after its checks: with both directions' parameters, or 5; then 3 and 4; then the fits. Assumes nothing.
use mathlib.Core.Path.{◌≡◌, ◌∙◌, ap}
use mathlib.Core.List.{List}
use mathlib.Core.Option.{Option, none, some}
use lib.Ieee.{Float}
use Rattle.std.specs.Prelude.{Err}
use Rattle.bspline.specs.declared.Refusal.{Refusal}
use Rattle.bspline.specs.declared.Refusal.TheVariants.{ConfusedPoints}
use Rattle.bspline.specs.Refusals.{Verdict, pass}
use Rattle.knots.specs.declared.lines.Lines.{Lines}
use Rattle.knots.specs.OnLines.{on_lines}
use Rattle.knots.specs.Parameters.{shared_parameters}
use Rattle.tables.specs.Directions.{row_point, column_point}
use Rattle.checks.specs.declared.given.Grid.{Grid as Held}
use Rattle.checks.specs.declared.SurfaceCall.{SurfaceCall}
use Rattle.checks.specs.GridChecks.{Grid, counts_verdict}
use Rattle.checks.specs.Slices.{grid_in}
use Rattle.grids.specs.Grids.{grid_refused, u_parameters, v_parameters, fit_grid_by, grid_checked, grid_fit_with, grid_fit}

-- ---- the parameters that the columns share, and the rows

module _ (g : Held) (l : Lines) where
  pub u_shared : on_lines l ≡ column_point g.points.now g.shape.cols → (l.lines ≡ g.shape.cols) × (l.count ≡ g.shape.rows) → shared_parameters g.metric l.lines l.count (on_lines l) ≡ u_parameters (grid_in g)
  u_shared e k =
      ap (shared_parameters g.metric l.lines l.count) e
      ∙ ap (λ n. shared_parameters g.metric n l.count (column_point g.points.now g.shape.cols)) k.0
      ∙ ap (λ n. shared_parameters g.metric g.shape.cols n (column_point g.points.now g.shape.cols)) k.1

  pub v_shared : on_lines l ≡ row_point g.points.now g.shape.cols → (l.lines ≡ g.shape.rows) × (l.count ≡ g.shape.cols) → shared_parameters g.metric l.lines l.count (on_lines l) ≡ v_parameters (grid_in g)
  v_shared e k =
      ap (shared_parameters g.metric l.lines l.count) e
      ∙ ap (λ n. shared_parameters g.metric n l.count (row_point g.points.now g.shape.cols)) k.0
      ∙ ap (λ n. shared_parameters g.metric g.shape.rows n (row_point g.points.now g.shape.cols)) k.1

-- ---- with them, or 5; then 3 and 4

module _ (call : SurfaceCall) (g : Grid) where
  pub u_none : u_parameters g ≡ none → grid_fit call g ≡ grid_refused ConfusedPoints
  unfolding grid_fit grid_fit_with
  u_none e = ap (λ (o : Option (List Float)). grid_fit_with (counts_verdict call g.shape) (fit_grid_by call g) o (v_parameters g)) e

  module _ (us : List Float) (e : u_parameters g ≡ some us) where
    given-u : grid_fit call g ≡ grid_fit_with (counts_verdict call g.shape) (fit_grid_by call g) (some us) (v_parameters g)
    unfolding grid_fit
    given-u = ap (λ (o : Option (List Float)). grid_fit_with (counts_verdict call g.shape) (fit_grid_by call g) o (v_parameters g)) e

    pub v_none : v_parameters g ≡ none → grid_fit call g ≡ grid_refused ConfusedPoints
    unfolding grid_fit_with
    v_none f = given-u ∙ ap (grid_fit_with (counts_verdict call g.shape) (fit_grid_by call g) (some us)) f

    module _ (vs : List Float) (f : v_parameters g ≡ some vs) where
      given-both : grid_fit call g ≡ grid_checked (counts_verdict call g.shape) (fit_grid_by call g us vs)
      unfolding grid_fit_with
      given-both = given-u ∙ ap (grid_fit_with (counts_verdict call g.shape) (fit_grid_by call g) (some us)) f

      pub counts_stop : (c : Refusal) → counts_verdict call g.shape ≡ Err c → grid_fit call g ≡ grid_refused c
      unfolding grid_checked
      counts_stop c z = given-both ∙ ap (λ (a : Verdict). grid_checked a (fit_grid_by call g us vs)) z

      pub counts_pass : counts_verdict call g.shape ≡ pass → grid_fit call g ≡ fit_grid_by call g us vs
      unfolding grid_checked
      counts_pass z = given-both ∙ ap (λ (a : Verdict). grid_checked a (fit_grid_by call g us vs)) z

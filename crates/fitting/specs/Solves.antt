-- The poles of a fit, and what its measuring asks. Definitions only.
use Rattle.std.specs.Prelude.{◌≡◌, Bool, cond, List, ℕ, ◌*◌, ◌≤◌, length, take, Float}
use Rattle.std.proofs.Math.Option.{none, some}
use Rattle.knots.specs.declared.lines.Lines.{Lines}
use Rattle.knots.specs.OnLines.{on_lines}
use Rattle.tables.specs.Layout.{table_in, HasTableIn}
use Rattle.solving.specs.LeastSquares.{least_squares}
use Rattle.solving.specs.Interpolation.{interpolation}
use Rattle.fitting.specs.declared.Job.{Job}
use Rattle.fitting.specs.declared.Kind.{Kind}
use Rattle.fitting.specs.declared.Kind.TheVariants.{Ladder, Rows, Columns}
use Rattle.fitting.specs.declared.room.Fitted.{Fitted}

-- the poles that stand there, of so many lines
abbrev pub poles_of : ℕ → Fitted → List Float
poles_of lines x = take (3 * (lines * x.table.poles)) x.poles.now

-- a table of no more poles than parameters, lines with a point for each, and the places of the matrix and of the poles
pub record HasLines (x : Fitted) (l : Lines) (band : ℕ) : Type 0 where
  pub table : HasTableIn x.table
  pub most : x.table.poles ≤ length x.table.firsts.now
  pub points : l.count ≡ length x.table.firsts.now
  pub one : 1 ≤ l.lines
  pub few : l.lines ≤ 64
  pub matrix : 2 * (x.table.degree * length x.table.firsts.now) ≤ band
  pub places : 3 * (l.lines * length x.table.firsts.now) ≤ length x.poles.now

-- What least squares leaves: whether there is a fit, and then its poles.
pub record Solved (x x' : Fitted) (l : Lines) (r : Bool) : Type 0 where
  pub answer : least_squares (table_in x.table) x.table.poles l.lines (on_lines l) ≡ cond r (some (poles_of l.lines x')) none
  pub table : x'.table ≡ x.table
  pub long : length x'.poles.now ≡ length x.poles.now

-- What interpolation leaves.
pub record Passed (x x' : Fitted) (l : Lines) : Type 0 where
  pub poles : poles_of l.lines x' ≡ interpolation (table_in x.table) l.lines (on_lines l)
  pub table : x'.table ≡ x.table
  pub long : length x'.poles.now ≡ length x.poles.now

-- the places of a curve's poles: of the columns alone
unfoldable pub curve_places : Kind → ℕ
curve_places Ladder = 0
curve_places Rows = 0
curve_places (Columns s) = 3 * s.across.poles

-- a fit to be measured: a parameter for each of the job's, and the places of a curve's poles and of the squares
pub record HasFit (j : Job) (x : Fitted) (curve squares : ℕ) : Type 0 where
  pub table : HasTableIn x.table
  pub params : length x.table.firsts.now ≡ length j.params.now
  pub most : x.table.poles ≤ length j.params.now
  pub places : 3 * (j.lines.lines * length j.params.now) ≤ length x.poles.now
  pub for_curve : curve ≡ curve_places j.kind
  pub for_squares : squares ≡ length j.params.now

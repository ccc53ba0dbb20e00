-- Lines of points in a list of points: a ladder, a grid's row or column. Definitions only.
use Rattle.std.specs.Prelude.{List, ℕ, ◌+◌, ◌-◌, ◌*◌, ◌^◌, ◌≤◌, length, Float}
use Rattle.geometry.specs.declared.Point.{Point}
use Rattle.geometry.specs.Points.{point_at}

-- Point k of the line that starts at point `start` of the list, with `stride` from one point to the next. A ladder starts at 0 with stride 1; row r of a
-- grid with `cols` columns at r * cols with stride 1; its column r at r with stride cols.
abbrev pub line_of : List Float → ℕ → ℕ → ℕ → Point
line_of points start stride k = point_at points (start + stride * k)

-- Point k of line r, where line r starts at r * pitch: a grid's rows with pitch cols and stride 1, its columns with pitch 1 and stride cols.
abbrev pub lines_of : List Float → ℕ → ℕ → ℕ → ℕ → Point
lines_of points pitch stride r = line_of points (r * pitch) stride

-- a line of n points within a list of points
pub record HasLine (points : List Float) (start stride n : ℕ) : Type 0 where
  pub two : 2 ≤ n
  pub last : 3 * (start + stride * (n - 1)) + 3 ≤ length points

-- such lines, line r from point r * pitch on, few enough to be counted in doubles
pub record HasLines (points : List Float) (lines pitch n stride : ℕ) : Type 0 where
  pub two : 2 ≤ n
  pub few : lines ≤ 2 ^ 53
  pub last : 3 * ((lines - 1) * pitch + stride * (n - 1)) + 3 ≤ length points

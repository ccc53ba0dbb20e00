-- The squares of a line's distances to a curve. Definitions only.
use Rattle.std.specs.Prelude.{ℕ, ◌+◌, Float}
use Rattle.geometry.specs.Points.{squared_distance, point_at}
use Rattle.tables.specs.declared.deviations.Beside.{Beside}
use Rattle.tables.specs.BasisTable.{table_point}
use Rattle.tables.specs.Layout.{table_of}

-- that at parameter k
abbrev pub square_beside : Beside → ℕ → Float
square_beside b k = squared_distance b.factor (table_point (table_of b.table.now) b.poles.now b.start k) (point_at b.points.now (b.first + k))

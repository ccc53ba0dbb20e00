-- What is made of distances as they are found, one after the other. Definitions only.
use Rattle.std.specs.Prelude.{◌≡◌, cond, List, ℕ, ◌+◌, ◌*◌, ◌≤◌, length, Float}
use Rattle.std.specs.Float.Ieee.{is_nan}
use Rattle.geometry.specs.Doubles.{larger, largest}
use Rattle.geometry.specs.Points.{points_of}
use Rattle.geometry.specs.Root.{sqrt_of, roots_of}
use Rattle.tables.specs.declared.Measured.{Measured}
use Rattle.tables.specs.declared.basis_table.Table.{Table}
use Rattle.tables.specs.BasisTable.{BasisTable, table_point}
use Rattle.tables.specs.Deviations.{unreadable}
use Rattle.tables.specs.Layout.{HasTable}

-- the largest, and how many are NaN
unfoldable pub measured : List Float → Measured
measured ds = record { largest = largest ds; unreadable = unreadable ds }

-- with those of another list
unfoldable pub with_all : Measured → Measured → Measured
with_all m n = record { largest = larger m.largest n.largest; unreadable = m.unreadable + n.unreadable }

-- The squares of distances: the largest, and how many have no root. With one square more, and the measures of the distances themselves, by one root.
unfoldable pub squares_measured : List Float → Measured
squares_measured ss = record { largest = largest ss; unreadable = unreadable (roots_of ss) }

unfoldable pub with_square : Measured → Float → Measured
with_square m s = record { largest = larger m.largest s; unreadable = m.unreadable + cond (is_nan (sqrt_of s)) 1 0 }

unfoldable pub rooted : Measured → Measured
rooted m = record { largest = sqrt_of m.largest; unreadable = m.unreadable }

-- What is made of the distances ds: their measures r, and for each parameter the square of its deviation (its root is the deviation).
pub record LeavesSquares (deviations_of : List Float → List Float) (ds squares : List Float) (r : Measured) : Type 0 where
  pub measures : r ≡ measured ds
  pub deviations : roots_of squares ≡ deviations_of ds

-- the poles of the v curve at u parameter i, of columns' poles that stand line after line, m to a column
abbrev pub curve_of : BasisTable → ℕ → ℕ → List Float → ℕ → List Float
curve_of u columns m poles i = points_of columns (λ l. table_point u poles (l * m) i)

-- so many places of one curve's poles, of squares, and of as many points
pub record HasLadder (t : Table) (poles squares points : ℕ) : Type 0 where
  pub table : HasTable t
  pub for_poles : 3 * t.poles ≤ poles
  pub for_squares : squares ≡ length t.firsts.now
  pub for_points : 3 * length t.firsts.now ≤ points

-- the same of a grid's rows
pub record HasRows (t : Table) (rows poles squares points : ℕ) : Type 0 where
  pub table : HasTable t
  pub for_poles : 3 * (rows * t.poles) ≤ poles
  pub for_squares : squares ≡ length t.firsts.now
  pub for_points : 3 * (rows * length t.firsts.now) ≤ points

-- the poles of so many columns, over u's table
pub record HasColumns (u : Table) (columns poles : ℕ) : Type 0 where
  pub table : HasTable u
  pub for_poles : 3 * (columns * u.poles) ≤ poles

-- A surface's u table with the poles of its columns, as many as v's table has poles; places for a curve's poles and for the squares; and the grid's points.
pub record HasGrid (u v : Table) (poles curve squares points : ℕ) : Type 0 where
  pub columns : HasColumns u v.poles poles
  pub across : HasTable v
  pub for_curve : curve ≡ 3 * v.poles
  pub for_squares : squares ≡ length u.firsts.now
  pub for_points : 3 * (length u.firsts.now * length v.firsts.now) ≤ points

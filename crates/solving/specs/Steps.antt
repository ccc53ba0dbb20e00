-- What one row of a table adds to the normal equations, loop by loop, and what the functions ask. Definitions only.
use Rattle.std.specs.Prelude.{◌≡◌, Bool, cond, List, ℕ, ◌+◌, ◌*◌, ◌≤◌, length, Float}
use Rattle.std.proofs.Math.Option.{none, some}
use Rattle.places.specs.Loops.{each}
use Rattle.geometry.specs.declared.Point.{Point}
use Rattle.geometry.specs.Doubles.{◌⊕◌, ◌⊗◌, at}
use Rattle.geometry.specs.Points.{point_at, put_point, plus_scaled}
use Rattle.bands.specs.Bands.{entry, put_entry}
use Rattle.knots.specs.declared.lines.Line.{Line}
use Rattle.knots.specs.declared.lines.Lines.{Lines}
use Rattle.knots.specs.OnLines.{on_lines}
use Rattle.tables.specs.declared.basis_table.Row.{Row}
use Rattle.tables.specs.declared.basis_table.Table.{Table}
use Rattle.tables.specs.Layout.{table_of, HasTable}
use Rattle.solving.specs.LeastSquares.{least_squares}

-- x, which is value a of the row, times value c, onto the entry of poles first + a and first + c
unfoldable pub add_row_product : ℕ → ℕ → ℕ → Float → List Float → ℕ → List Float → List Float
add_row_product p first a x row c l = put_entry (p + 1) p (first + a) (first + c) (entry (p + 1) p l (first + a) (first + c) ⊕ x ⊗ at row c) l

-- value a with each value up to itself
unfoldable pub add_row_value : ℕ → ℕ → List Float → ℕ → List Float → List Float
add_row_value p first row a l = each 0 (a + 1) (add_row_product p first a (at row a) row) l

-- q times value a of the row, onto pole first + a
unfoldable pub add_to_pole : ℕ → Point → List Float → ℕ → List Float → List Float
add_to_pole first q row a poles = put_point (first + a) (plus_scaled (point_at poles (first + a)) (at row a) q) poles

-- the matrix has the rows of the poles of a row's values
abbrev pub OntoBand : Row → List Float → Type 0
OntoBand row band = (row.first + row.degree) * (row.degree + 1) + (row.degree + 1) ≤ length band

-- and the poles themselves are there
abbrev pub OntoPoles : Row → List Float → Type 0
OntoPoles row poles = 3 * (row.first + row.degree) + 3 ≤ length poles

-- a line with a point for each parameter of a table
pub record HasPoints (t : Table) (l : Line) : Type 0 where
  pub table : HasTable t
  pub points : l.count ≡ length t.firsts.now

-- so many lines, and the places of as many poles for each as the table has
pub record HasSquares (t : Table) (l : Lines) (size : ℕ) : Type 0 where
  pub table : HasTable t
  pub points : l.count ≡ length t.firsts.now
  pub one : 1 ≤ l.lines
  pub few : l.lines ≤ 64
  pub places : size ≡ 3 * (l.lines * t.poles)

-- A fit that was looked for: r says whether there is one, and then these are its poles.
pub record Squared (t : Table) (l : Lines) (poles : List Float) (r : Bool) : Type 0 where
  pub answer : least_squares (table_of t) t.poles l.lines (on_lines l) ≡ cond r (some poles) none

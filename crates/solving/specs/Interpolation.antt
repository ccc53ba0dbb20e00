-- Interpolating poles of lines of data, one pole for each parameter of a table on averaged knots: the band matrix is factored once, by LU, for all the lines
-- (`interpolation`). Definitions only.
use Rattle.std.specs.Prelude.{cond, ◌&&◌, List, ℕ, ◌+◌, ◌-◌, ◌*◌, leb, replicate, Float}
use Rattle.places.specs.Loops.{each}
use Rattle.places.specs.Places.{joined}
use Rattle.geometry.specs.declared.Point.{Point}
use Rattle.geometry.specs.Doubles.{nought}
use Rattle.geometry.specs.Points.{put_point, points_of}
use Rattle.bands.specs.Bands.{put_entry}
use Rattle.lu.specs.BandLu.{factor_band, substitute_band}
use Rattle.tables.specs.BasisTable.{BasisTable, parameter_count, first, value}

-- x for A[j][column]; a value outside the band is dropped, as the Rust's release build does
unfoldable pub put_within : ℕ → ℕ → ℕ → Float → List Float → List Float
put_within h j column x l = cond (leb j (column + h) && leb column (j + h)) (put_entry (2 * h + 1) h j column x l) l

-- parameter j's value a, in row j and the column of the pole that it belongs to
unfoldable pub put_value : BasisTable → ℕ → ℕ → List Float → List Float
put_value t j a l = put_within (t.degree - 1) j (first t j + a) (value t j a) l

-- the matrix, of half-bandwidth degree - 1
unfoldable pub interpolation_matrix : BasisTable → List Float
interpolation_matrix t =
    each 0 (parameter_count t) (λ j. each 0 (t.degree + 1) (put_value t j)) (replicate (parameter_count t * (2 * (t.degree - 1) + 1)) nought)

-- a line of n points, with the factored matrix of half-bandwidth h: the end poles are the end points
unfoldable pub line_through : ℕ → ℕ → List Float → (ℕ → Point) → List Float
line_through h n band point = put_point (n - 1) (point (n - 1)) (put_point 0 (point 0) (substitute_band h n band (points_of n point)))

-- the lines, one after the other. Poles that are not finite are handed out too.
unfoldable pub interpolation : BasisTable → ℕ → (ℕ → ℕ → Point) → List Float
interpolation t lines point =
    let band = factor_band (t.degree - 1) (parameter_count t) (interpolation_matrix t) in
    joined lines (λ r. line_through (t.degree - 1) (parameter_count t) band (point r))

-- LU without pivoting of a band matrix, in place: the multipliers take the place of the entries that they eliminate; and L U x = b
-- (`factor_band`, `substitute_band`). Definitions only.
use Rattle.std.specs.Prelude.{cond, List, ℕ, ◌+◌, ◌*◌, Float}
use Rattle.std.specs.Float.Ieee.{eq}
use Rattle.places.specs.Loops.{each, down}
use Rattle.geometry.specs.declared.Point.{Point}
use Rattle.geometry.specs.Doubles.{◌⊖◌, ◌⊗◌, ◌⊘◌, nought, one}
use Rattle.geometry.specs.Points.{point_at, put_point, less_scaled}
use Rattle.bands.specs.Bands.{entry, put_entry, reach}
use Rattle.bands.specs.SolvedRow.{solved_row}

-- A[i][j] of a band of half-width h
abbrev pub band_entry : ℕ → List Float → ℕ → ℕ → Float
band_entry h l i j = entry (2 * h + 1) h l i j

-- A[i][j] less factor times A[k][j]
unfoldable pub less_pivot : ℕ → ℕ → ℕ → Float → ℕ → List Float → List Float
less_pivot h k i factor j l = put_entry (2 * h + 1) h i j (band_entry h l i j ⊖ factor ⊗ band_entry h l k j) l

-- the multiplier is put in the pivot's column of row i, and where it is not 0 that multiple of pivot row k is taken off row i
unfoldable pub less_multiple : ℕ → ℕ → ℕ → ℕ → Float → List Float → List Float
less_multiple h n k i factor l =
    let put = put_entry (2 * h + 1) h i k factor l in
    let less = each (k + 1) (reach h n k) (less_pivot h k i factor) put in
    cond (eq factor nought) put less

-- row i below pivot k: its multiplier is its entry in the pivot's column times the pivot's reciprocal
unfoldable pub eliminate_row : ℕ → ℕ → ℕ → ℕ → List Float → List Float
eliminate_row h n k i l = less_multiple h n k i (band_entry h l i k ⊗ (one ⊘ band_entry h l k k)) l

-- pivot k: the rows below it that reach its column
unfoldable pub eliminate : ℕ → ℕ → ℕ → List Float → List Float
eliminate h n k l = each (k + 1) (reach h n k) (eliminate_row h n k) l

-- n rows of half-width h
unfoldable pub factor_band : ℕ → ℕ → List Float → List Float
factor_band h n l = each 0 n (eliminate h n) l

-- point i less factor times q, where the factor is not 0
unfoldable pub less_point : ℕ → Float → Point → List Float → List Float
less_point i factor q poles = cond (eq factor nought) poles (put_point i (less_scaled (point_at poles i) factor q) poles)

-- pivot k of L y = b: multiples of y's point k off the points after it
unfoldable pub forward_step : ℕ → ℕ → List Float → ℕ → List Float → List Float
forward_step h n band k poles = let q = point_at poles k in each (k + 1) (reach h n k) (λ i. less_point i (band_entry h band i k) q) poles

-- U x = y, row i: from the points after i, which are x's already, and point i, which is y's
unfoldable pub back_band_point : ℕ → ℕ → List Float → List Float → ℕ → Point
back_band_point h n band poles i = solved_row (2 * h + 1) h band poles i (i + 1) (reach h n i)

-- row i put in its place
unfoldable pub back_band_row : ℕ → ℕ → List Float → ℕ → List Float → List Float
back_band_row h n band i poles = put_point i (back_band_point h n band poles i) poles

-- L U x = b for n points, b in and x out
unfoldable pub substitute_band : ℕ → ℕ → List Float → List Float → List Float
substitute_band h n band poles = down n (back_band_row h n band) (each 0 n (forward_step h n band) poles)

-- Cholesky's factor L of a symmetric band matrix, A = L L', in the place of its lower half-band, and L L' x = b (`factor_symmetric_band`,
-- `substitute_symmetric_band`). Definitions only.
use Rattle.std.specs.Prelude.{Bool, true, false, cond, ◌||◌, List, ℕ, ◌+◌, ◌-◌, Float}
use Rattle.std.specs.Float.Ieee.{le, is_nan}
use Rattle.places.specs.Loops.{each, down, Outcome, outcome, each_while}
use Rattle.places.specs.Places.{list_of}
use Rattle.geometry.specs.declared.Point.{Point}
use Rattle.geometry.specs.Doubles.{◌⊖◌, ◌⊗◌, ◌⊘◌, one, largest}
use Rattle.geometry.specs.Root.{sqrt_of}
use Rattle.geometry.specs.Points.{point_at, put_point, less_scaled, scaled}
use Rattle.bands.specs.Bands.{entry, put_entry, reach}
use Rattle.bands.specs.SolvedRow.{solved_row}

-- L[i][j] of a lower half-band of half-width h
abbrev pub lower_entry : ℕ → List Float → ℕ → ℕ → Float
lower_entry h l i j = entry (h + 1) h l i j

-- s - Σ L[i][k] L[j][k] over the columns k before j that row i reaches
abbrev pub less_products : ℕ → List Float → ℕ → ℕ → Float → Float
less_products h l i j s = each (i - h) j (λ k s. s ⊖ lower_entry h l i k ⊗ lower_entry h l j k) s

-- A[i][j] less the products of rows i and j over the columns before j
unfoldable pub reduced_entry : ℕ → List Float → ℕ → ℕ → Float
reduced_entry h l i j = less_products h l i j (lower_entry h l i j)

-- L[i][j] left of the diagonal: the reduced A[i][j] by the diagonal of row j
unfoldable pub factor_entry : ℕ → ℕ → ℕ → List Float → List Float
factor_entry h i j l = put_entry (h + 1) h i j (reduced_entry h l i j ⊘ lower_entry h l j j) l

-- row i up to its diagonal
unfoldable pub factor_left : ℕ → ℕ → List Float → List Float
factor_left h i l = each (i - h) i (factor_entry h i) l

-- a pivot that the data leaves (nearly) undetermined: NaN, or at most the floor
unfoldable pub undetermined : Float → Float → Bool
undetermined floor s = is_nan s || le s floor

-- the diagonal of row i, from its reduced value s
unfoldable pub factor_diagonal : ℕ → Float → ℕ → Float → List Float → Outcome (List Float)
factor_diagonal h floor i s l = cond (undetermined floor s) (outcome false l) (outcome true (put_entry (h + 1) h i i (sqrt_of s) l))

-- row i
unfoldable pub factor_row : ℕ → Float → ℕ → List Float → Outcome (List Float)
factor_row h floor i l = let left = factor_left h i l in factor_diagonal h floor i (reduced_entry h left i i) left

-- the largest of 0 and the n diagonal entries, NaN passed over
unfoldable pub largest_diagonal : ℕ → ℕ → List Float → Float
largest_diagonal h n l = largest (list_of n (λ i. lower_entry h l i i))

-- the n rows: it stops at a pivot that is NaN or at most `relative` times the largest diagonal
unfoldable pub factor_symmetric_band : ℕ → ℕ → Float → List Float → Outcome (List Float)
factor_symmetric_band h n relative l = let floor = relative ⊗ largest_diagonal h n l in each_while 0 n (factor_row h floor) l

-- L y = b, row i: from the points before i, which are y's already, and point i, which is b's
unfoldable pub forward_point : ℕ → List Float → List Float → ℕ → Point
forward_point h lower poles i = solved_row (h + 1) h lower poles i (i - h) i

-- row i put in its place
unfoldable pub forward_row : ℕ → List Float → ℕ → List Float → List Float
forward_row h lower i poles = put_point i (forward_point h lower poles i) poles

-- L' x = y, row i: from the points after i, which are x's already, and point i, which is y's
unfoldable pub back_point : ℕ → ℕ → List Float → List Float → ℕ → Point
back_point h n lower poles i =
    scaled (each (i + 1) (reach h n i) (λ k x. less_scaled x (lower_entry h lower k i) (point_at poles k)) (point_at poles i)) (one ⊘ lower_entry h lower i i)

-- row i put in its place
unfoldable pub back_row : ℕ → ℕ → List Float → ℕ → List Float → List Float
back_row h n lower i poles = put_point i (back_point h n lower poles i) poles

-- L L' x = b for n points, b in and x out
unfoldable pub substitute_symmetric_band : ℕ → ℕ → List Float → List Float → List Float
substitute_symmetric_band h n lower poles = down n (back_row h n lower) (each 0 n (forward_row h lower) poles)

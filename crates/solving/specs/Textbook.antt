-- The systems that are solved, entry by entry, as the books write them: A'A x = A'b of least squares, where A[k][i] = N_i(u_k) (The NURBS Book, 9.65 to 9.67; there the
-- end poles are fixed, and here they are not), and the matrix of interpolation (9.1). Each operation is rounded once, and the products are added up in the order of the
-- parameters. Of the definitions these take where an entry of a band stands, the rows of the table and the floor. `proofs/EntryLaws` and `proofs/SystemLaws` show that the
-- definitions satisfy them.
use Rattle.std.specs.Prelude.{◌≡◌, Bool, true, cond, ◌&&◌, List, ℕ, ◌+◌, ◌-◌, ◌*◌, ◌≤◌, ◌<◌, leb, length, Float}
use Rattle.places.specs.Regions.{part}
use Rattle.geometry.specs.declared.Point.{Point}
use Rattle.geometry.specs.Doubles.{◌⊗◌, nought, at, sum_over, is_finite}
use Rattle.geometry.specs.Points.{coordinates, point_at}
use Rattle.bands.specs.Bands.{entry}
use Rattle.cholesky.specs.Textbook as cholesky
use Rattle.lu.specs.Textbook as lu
use Rattle.tables.specs.BasisTable.{BasisTable, parameter_count, first, value}
use Rattle.solving.specs.LeastSquares.{relative_floor}

-- whether pole i's function is among the degree + 1 of parameter k's row
abbrev pub in_row : BasisTable → ℕ → ℕ → Bool
in_row t k i = leb (first t k) i && leb i (first t k + t.degree)

-- N_i(u_k): what the row has for pole i, and 0 outside the row
unfoldable pub basis_value : BasisTable → ℕ → ℕ → Float
basis_value t k i = cond (in_row t k i) (value t k (i - first t k)) nought

-- the lower half-band of A'A for m poles: (A'A)[i][j] = Σ N_i(u_k) N_j(u_k) over the parameters k whose row has both
pub record IsNormal (t : BasisTable) (m : ℕ) (M : List Float) : Type 0 where
  pub product : (i j : ℕ) → i < m → j ≤ i → i ≤ j + t.degree
      → entry (t.degree + 1) t.degree M i j ≡ sum_over (parameter_count t) (λ k. in_row t k j && in_row t k i) (λ k. basis_value t k i ⊗ basis_value t k j)
  pub long : length M ≡ m * (t.degree + 1)

-- A'b for m poles and the points q_k, three coordinates c each: (A'b)[i] = Σ N_i(u_k) q_k over the parameters k whose row has pole i
pub record IsRightHand (t : BasisTable) (m : ℕ) (q : ℕ → Point) (R : List Float) : Type 0 where
  pub product : (i c : ℕ) → i < m → c < 3 → at R (3 * i + c) ≡ sum_over (parameter_count t) (λ k. in_row t k i) (λ k. basis_value t k i ⊗ at (coordinates (q k)) c)
  pub long : length R ≡ 3 * m

-- the band of the matrix of interpolation: A[k][i] = N_i(u_k) for the poles up to degree - 1 before and after parameter k. A row may reach beyond that; there it has no places.
pub record IsCollocation (t : BasisTable) (M : List Float) : Type 0 where
  pub value : (k i : ℕ) → k < parameter_count t → k ≤ i + (t.degree - 1) → i ≤ k + (t.degree - 1)
      → entry (2 * (t.degree - 1) + 1) (t.degree - 1) M k i ≡ basis_value t k i
  pub long : length M ≡ parameter_count t * (2 * (t.degree - 1) + 1)

-- least-squares poles of one line of points: A'A x = A'b by the factor `lower`
pub record IsSquaresLine (t : BasisTable) (m : ℕ) (lower : List Float) (q : ℕ → Point) (X : List Float) : Type 0 where
  pub right : List Float
  pub is_right : IsRightHand t m q right
  pub solved : cholesky.Solves t.degree m lower right X

-- least-squares poles, m finite ones for each line, line after line: A'A is factored once for all the lines
pub record IsLeastSquares (t : BasisTable) (m lines : ℕ) (q : ℕ → ℕ → Point) (poles : List Float) : Type 0 where
  pub normal : List Float
  pub lower : List Float
  pub is_normal : IsNormal t m normal
  pub is_factor : cholesky.IsFactor t.degree m relative_floor normal lower
  pub line : (r : ℕ) → r < lines → IsSquaresLine t m lower (q r) (part (r * (3 * m)) (r * (3 * m) + 3 * m) poles)
  pub finite : (i : ℕ) → i < length poles → is_finite (at poles i) ≡ true
  pub long : length poles ≡ lines * (3 * m)

-- poles of the line through n points q_k: A x = q by the factors in `band`, but for the end poles, which are the end points
pub record IsLineThrough (h n : ℕ) (band : List Float) (q : ℕ → Point) (X : List Float) : Type 0 where
  pub points : List Float
  pub solution : List Float
  pub given : (k : ℕ) → k < n → point_at points k ≡ q k
  pub solved : lu.Solves h n band points solution
  pub start : point_at X 0 ≡ q 0
  pub end : point_at X (n - 1) ≡ q (n - 1)
  pub inner : (k : ℕ) → 0 < k → k < n - 1 → point_at X k ≡ point_at solution k

-- interpolating poles, one for each parameter, line after line: the matrix is factored once for all the lines
pub record IsInterpolation (t : BasisTable) (lines : ℕ) (q : ℕ → ℕ → Point) (poles : List Float) : Type 0 where
  pub matrix : List Float
  pub factors : List Float
  pub is_matrix : IsCollocation t matrix
  pub is_lu : lu.IsLu (t.degree - 1) (parameter_count t) matrix factors
  pub line : (r : ℕ) → r < lines
      → IsLineThrough (t.degree - 1) (parameter_count t) factors (q r) (part (r * (3 * parameter_count t)) (r * (3 * parameter_count t) + 3 * parameter_count t) poles)
  pub long : length poles ≡ lines * (3 * parameter_count t)

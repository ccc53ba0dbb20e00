-- What the factor and the solution are, entry by entry: the textbook's equations (Golub and Van Loan, Matrix Computations: Cholesky's factorization, forward and back
-- substitution), each operation rounded once and the products taken off in the order of their columns. Of the definitions these take only where an entry stands.
-- `proofs/CholeskyLaws` and `proofs/SolvedLaws` show that the definitions satisfy them.
use Rattle.std.specs.Prelude.{◌≡◌, ◌⊎◌, true, false, List, ℕ, ◌+◌, ◌-◌, ◌*◌, ◌≤◌, ◌<◌, min, length, Float}
use Rattle.std.specs.Float.Ieee.{le, lt, is_nan}
use Rattle.geometry.specs.Doubles.{◌⊗◌, ◌⊘◌, nought, one, at}
use Rattle.geometry.specs.Root.{sqrt_of}
use Rattle.bands.specs.Sums.{less_sum}
use Rattle.cholesky.specs.Cholesky.{lower_entry}

-- A[i][j] - Σ L[i][k] L[j][k] over the columns k before j that row i reaches
abbrev pub remaining : ℕ → List Float → List Float → ℕ → ℕ → Float
remaining h A L i j = less_sum (i - h) j (λ k. lower_entry h L i k ⊗ lower_entry h L j k) (lower_entry h A i j)

-- g is the largest of 0 and the n diagonal entries of A, NaN passed over: none of them is above it, and it is one of them
pub record IsLargest (h n : ℕ) (A : List Float) (g : Float) : Type 0 where
  pub from_nought : le nought g ≡ true
  pub none_above : (i : ℕ) → i < n → lt g (lower_entry h A i i) ≡ false
  pub one_of : (g ≡ nought) ⊎ ((i : ℕ) × (i < n) × (g ≡ lower_entry h A i i))

-- Cholesky's equations for A = L L' of n rows and half-width h:
--   L[i][j] = (A[i][j] - Σ L[i][k] L[j][k]) / L[j][j] left of the diagonal, and L[i][i] = sqrt (A[i][i] - Σ L[i][k] L[i][k]),
-- whose radicand is neither NaN nor at most `relative` times A's largest diagonal entry (or 0, where that is larger)
pub record IsFactor (h n : ℕ) (relative : Float) (A L : List Float) : Type 0 where
  pub left : (i j : ℕ) → i < n → j < i → i ≤ j + h → lower_entry h L i j ≡ remaining h A L i j ⊘ lower_entry h L j j
  pub diagonal : (i : ℕ) → i < n → lower_entry h L i i ≡ sqrt_of (remaining h A L i i)
  pub number : (i : ℕ) → i < n → is_nan (remaining h A L i i) ≡ false
  pub largest : Float
  pub is_largest : IsLargest h n A largest
  pub above : (i : ℕ) → i < n → le (remaining h A L i i) (relative ⊗ largest) ≡ false

-- L y = b for n points, b in B and y in Y, three coordinates c each: y[i] = (b[i] - Σ L[i][k] y[k] over k < i) (1 / L[i][i])
pub record IsForward (h n : ℕ) (L B Y : List Float) : Type 0 where
  pub row : (i c : ℕ) → i < n → c < 3 → at Y (3 * i + c) ≡ less_sum (i - h) i (λ k. lower_entry h L i k ⊗ at Y (3 * k + c)) (at B (3 * i + c)) ⊗ (one ⊘ lower_entry h L i i)
  pub long : length Y ≡ length B

-- L' x = y for n points, y in Y and x in X: x[i] = (y[i] - Σ L[k][i] x[k] over k > i) (1 / L[i][i])
pub record IsBack (h n : ℕ) (L Y X : List Float) : Type 0 where
  pub row : (i c : ℕ) → i < n → c < 3 → at X (3 * i + c) ≡ less_sum (i + 1) (min (i + h + 1) n) (λ k. lower_entry h L k i ⊗ at X (3 * k + c)) (at Y (3 * i + c)) ⊗ (one ⊘ lower_entry h L i i)
  pub long : length X ≡ length Y

-- L L' x = b for n points, b in B and x in X
pub record Solves (h n : ℕ) (L B X : List Float) : Type 0 where
  pub between : List Float
  pub forward : IsForward h n L B between
  pub back : IsBack h n L between X

-- What the factors and the solution are, entry by entry: the textbook's equations (Golub and Van Loan, Matrix Computations: LU by Doolittle's formulas, forward and back
-- substitution), each operation rounded once and the products taken off in the order of their columns. Of the definitions these take only where an entry stands.
-- `proofs/LuLaws` and `proofs/SolvedLaws` show that the definitions satisfy them.
use Rattle.std.specs.Prelude.{◌≡◌, cond, List, ℕ, ◌+◌, ◌-◌, ◌*◌, ◌≤◌, ◌<◌, min, length, Float}
use Rattle.std.specs.Float.Ieee.{eq}
use Rattle.places.specs.Loops.{each}
use Rattle.geometry.specs.Doubles.{◌⊖◌, ◌⊗◌, ◌⊘◌, nought, one, at}
use Rattle.bands.specs.Sums.{less_sum}
use Rattle.lu.specs.BandLu.{band_entry}

-- s - Σ m k t k over the columns k from a on and before b, but for those whose m k is 0: they take nothing off, not even where t k is infinite or NaN
unfoldable pub less_unless_zero : ℕ → ℕ → (ℕ → Float) → (ℕ → Float) → Float → Float
less_unless_zero a b m t s = each a b (λ k s. cond (eq (m k) nought) s (s ⊖ m k ⊗ t k)) s

-- A[i][j] - Σ L[i][k] U[k][j] over the columns k from a on and before b, but for those whose L[i][k] is 0; L and U stand in one band F
abbrev pub remaining : ℕ → List Float → List Float → ℕ → ℕ → ℕ → ℕ → Float
remaining h A F i j a b = less_unless_zero a b (λ k. band_entry h F i k) (λ k. band_entry h F k j) (band_entry h A i j)

-- Doolittle's equations for A = L U of n rows and half-width h, L's diagonal being 1:
--   U[i][j] = A[i][j] - Σ L[i][k] U[k][j] over k < i, and L[i][j] = (A[i][j] - Σ L[i][k] U[k][j] over k < j) (1 / U[j][j])
pub record IsLu (h n : ℕ) (A F : List Float) : Type 0 where
  pub upper : (i j : ℕ) → j < n → i ≤ j → j ≤ i + h → band_entry h F i j ≡ remaining h A F i j (j - h) i
  pub lower : (i j : ℕ) → i < n → j < i → i ≤ j + h → band_entry h F i j ≡ remaining h A F i j (i - h) j ⊗ (one ⊘ band_entry h F j j)

-- L y = b for n points, b in B and y in Y, three coordinates c each: y[i] = b[i] - Σ L[i][k] y[k] over k < i, but for the L[i][k] that are 0. L's diagonal is 1.
pub record IsForward (h n : ℕ) (F B Y : List Float) : Type 0 where
  pub row : (i c : ℕ) → i < n → c < 3 → at Y (3 * i + c) ≡ less_unless_zero (i - h) i (λ k. band_entry h F i k) (λ k. at Y (3 * k + c)) (at B (3 * i + c))
  pub long : length Y ≡ length B

-- U x = y for n points, y in Y and x in X: x[i] = (y[i] - Σ U[i][k] x[k] over k > i) (1 / U[i][i]), and here a U[i][k] that is 0 counts as any other
pub record IsBack (h n : ℕ) (F Y X : List Float) : Type 0 where
  pub row : (i c : ℕ) → i < n → c < 3 → at X (3 * i + c) ≡ less_sum (i + 1) (min (i + h + 1) n) (λ k. band_entry h F i k ⊗ at X (3 * k + c)) (at Y (3 * i + c)) ⊗ (one ⊘ band_entry h F i i)
  pub long : length X ≡ length Y

-- L U x = b for n points, b in B and x in X
pub record Solves (h n : ℕ) (F B X : List Float) : Type 0 where
  pub between : List Float
  pub forward : IsForward h n F B between
  pub back : IsBack h n F between X

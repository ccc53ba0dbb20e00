-- What the functions require of their slices. Definitions only.
use Rattle.std.specs.Prelude.{List, ℕ, ◌+◌, ◌*◌, ◌≤◌, ◌<◌, length, Float}

-- row i lies within the list
abbrev pub HasRow : ℕ → List Float → ℕ → Type 0
HasRow w l i = i * w + w ≤ length l

-- A[i][j] is within the band, and its row within the list
pub record InBand (w h i j : ℕ) (l : List Float) : Type 0 where
  pub left : i ≤ j + h
  pub right : j + h < i + w
  pub row : HasRow w l i

-- row i of a system: its diagonal and its columns a..b are within the band, its row within the m places of the factors, and the points of all
-- these within p places
pub record Columns (w h i a b m p : ℕ) : Type 0 where
  pub diagonal : h < w
  pub left : i ≤ a + h
  pub right : b + h ≤ i + w
  pub row : i * w + w ≤ m
  pub point : 3 * i + 3 ≤ p
  pub points : 3 * b ≤ p

-- a system of n rows of w places, and its n points
pub record HasSystem (w h n : ℕ) (factors poles : List Float) : Type 0 where
  pub width : h ≤ 25
  pub rows : n * w ≤ length factors
  pub places : 3 * n ≤ length poles

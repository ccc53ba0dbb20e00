-- A row of a triangular system, for Cholesky's L and for LU's U alike. Definitions only.
use Rattle.std.specs.Prelude.{List, ℕ, Float}
use Rattle.places.specs.Loops.{each}
use Rattle.geometry.specs.declared.Point.{Point}
use Rattle.geometry.specs.Doubles.{◌⊘◌, one}
use Rattle.geometry.specs.Points.{point_at, less_scaled, scaled}
use Rattle.bands.specs.Bands.{entry}

-- row i: point i less the entries of columns a..b times their points, by the diagonal's reciprocal
abbrev pub solved_row : ℕ → ℕ → List Float → List Float → ℕ → ℕ → ℕ → Point
solved_row w h factors poles i a b =
    scaled (each a b (λ k x. less_scaled x (entry w h factors i k) (point_at poles k)) (point_at poles i)) (one ⊘ entry w h factors i i)

-- Least-squares poles of lines of data on the knots of a table: the normal equations A'A x = A'b, of half-bandwidth the degree, factored once by
-- Cholesky for all the lines (`least_squares`). The NURBS Book's 9.4.1 fixes the end poles, and this does not. Definitions only.
use Rattle.std.specs.Prelude.{true, false, cond, List, ℕ, ◌+◌, ◌*◌, length, replicate, Float}
use Rattle.std.proofs.Math.Option.{Option, none, some}
use Rattle.std.specs.Float.{binary64}
use Rattle.std.specs.Float.Ieee.{of_bits}
use Rattle.places.specs.Loops.{each, Outcome, outcome}
use Rattle.places.specs.Places.{joined, all_below}
use Rattle.geometry.specs.declared.Point.{Point}
use Rattle.geometry.specs.Doubles.{◌⊕◌, ◌⊗◌, nought, at, is_finite}
use Rattle.geometry.specs.Points.{point_at, put_point, plus_scaled}
use Rattle.bands.specs.Bands.{entry, put_entry}
use Rattle.cholesky.specs.Cholesky.{factor_symmetric_band, substitute_symmetric_band}
use Rattle.tables.specs.BasisTable.{BasisTable, parameter_count, first, value}

-- the product of parameter k's values a and c, onto the entry of the poles that they belong to
unfoldable pub add_product : BasisTable → ℕ → ℕ → ℕ → List Float → List Float
add_product t k a c l =
    let i = first t k + a in
    let j = first t k + c in
    let p = t.degree in
    put_entry (p + 1) p i j (entry (p + 1) p l i j ⊕ value t k a ⊗ value t k c) l

-- the lower half-band of A'A, for m poles: each parameter's values, each with those up to itself
unfoldable pub normal_matrix : BasisTable → ℕ → List Float
normal_matrix t m =
    each 0 (parameter_count t) (λ k. each 0 (t.degree + 1) (λ a. each 0 (a + 1) (add_product t k a))) (replicate (m * (t.degree + 1)) nought)

-- the point q times parameter k's value a, onto the pole that it belongs to
unfoldable pub add_datum : BasisTable → ℕ → Point → ℕ → List Float → List Float
add_datum t k q a poles = let i = first t k + a in put_point i (plus_scaled (point_at poles i) (value t k a) q) poles

-- A'b for a line of points, m poles
unfoldable pub right_hand : BasisTable → ℕ → (ℕ → Point) → List Float
right_hand t m point = each 0 (parameter_count t) (λ k. each 0 (t.degree + 1) (add_datum t k (point k))) (replicate (3 * m) nought)

-- a pivot at or below this times the largest diagonal is undetermined: 1e-12
abbrev pub relative_floor : Float
relative_floor = of_bits binary64 0x3d71_9799_812d_ea11

-- with the factor of A'A, or none where the data leaves a pole (nearly) undetermined or not finite
unfoldable pub solved_lines : BasisTable → ℕ → ℕ → (ℕ → ℕ → Point) → Outcome (List Float) → Option (List Float)
solved_lines t m lines point (outcome false lower) = none
solved_lines t m lines point (outcome true lower) =
    let poles = joined lines (λ r. substitute_symmetric_band t.degree m lower (right_hand t m (point r))) in
    cond (all_below (length poles) (λ i. is_finite (at poles i))) (some poles) none

-- m poles for each line, those of line r from pole r m on
unfoldable pub least_squares : BasisTable → ℕ → ℕ → (ℕ → ℕ → Point) → Option (List Float)
least_squares t m lines point = solved_lines t m lines point (factor_symmetric_band t.degree m relative_floor (normal_matrix t m))

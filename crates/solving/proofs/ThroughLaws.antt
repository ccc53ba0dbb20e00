-- The steps of interpolation make what the definition says. Assumes nothing.
use mathlib.Core.Path.{◌≡◌, refl, ◌∙◌}
use mathlib.Core.List.{List}
use Prim.Native.Nat.{ℕ, ◌+◌, ◌-◌, ◌*◌, ◌≤◌}
use native.Mathlib.Omega.{arith}
use lib.ListN.{length, replicate}
use lib.Ieee.{Float, nan}
use Rattle.places.specs.Loops.{each}
use Rattle.places.proofs.LoopLaws.{each_step, each_done, each_cong, cond_both}
use Rattle.places.proofs.PlaceLaws.{row_inside, length-joined}
use Rattle.places.proofs.RegionLaws.{length-each, length-down, get_d_part}
use Rattle.geometry.specs.declared.Point.{Point}
use Rattle.geometry.specs.Doubles.{nought}
use Rattle.geometry.specs.Points.{points_of}
use Rattle.geometry.proofs.PointLaws.{length_put-point}
use Rattle.cholesky.proofs.TogetherLaws.{DoneTo}
use Rattle.lu.specs.BandLu.{factor_band, forward_step, back_band_row, substitute_band}
use Rattle.lu.proofs.Lengths.{length_forward_step, length-back_band-row}
use Rattle.tables.specs.BasisTable.{BasisTable, parameter_count, first}
use Rattle.solving.specs.Interpolation.{put_value, interpolation_matrix, interpolation, line_through}
use Rattle.solving.specs.Through.{put_column}
use Rattle.tables.proofs.PointsLaws.{length-points}
use Rattle.solving.proofs.SquareLaws.{row_in, lines_fill}

-- ---- lengths

pub length_substitute : (h n : ℕ) (band poles : List Float) → length (substitute_band h n band poles) ≡ length poles
unfolding substitute_band
length_substitute h n band poles =
    length-down (back_band_row h n band) (λ k x. length-back_band-row h n band k x) n (each 0 n (forward_step h n band) poles)
    ∙ length-each (forward_step h n band) (λ k x. length_forward_step h n band k x) 0 n poles

pub length-line : (h n : ℕ) (band : List Float) (f : ℕ → Point) → length (line_through h n band f) ≡ 3 * n
unfolding line_through
length-line h n band f =
    length_put-point (n - 1) _ _ ∙ length_put-point 0 _ _ ∙ length_substitute h n band (points_of n f) ∙ length-points n f

-- a curve through the points has a pole for each
pub length_interpolation : (t : BasisTable) (point : ℕ → ℕ → Point) → length (interpolation t 1 point) ≡ 1 * (3 * length t.firsts)
unfolding interpolation
length_interpolation t point =
    let n = length t.firsts in
    let band = factor_band (t.degree - 1) n (interpolation_matrix t) in
    length-joined 1 (3 * n) (λ r. line_through (t.degree - 1) n band (point r)) (λ r h. length-line (t.degree - 1) n band (point r))

-- ---- the matrix

-- row j, from the values of parameter j
unfoldable pub put_parameter : BasisTable → ℕ → List Float → List Float
put_parameter t j = each 0 (t.degree + 1) (put_value t j)

pub values_in : (t : BasisTable) (j : ℕ) (l : List Float) → put_parameter t j l ≡ each 0 (t.degree + 1) (put_column (t.degree - 1) j (first t j) (row_in t j)) l
unfolding put_parameter put_column put_value
values_in t j l =
    each_cong (put_value t j) (put_column (t.degree - 1) j (first t j) (row_in t j)) 0 (t.degree + 1) l
    (λ a x u h. rw (get_d_part (j * (t.degree + 1)) (j * (t.degree + 1) + (t.degree + 1)) t.values a nan (omega arith)))

pub matrix_rows : (t : BasisTable) → interpolation_matrix t ≡ each 0 (parameter_count t) (put_parameter t) (replicate (parameter_count t * (2 * (t.degree - 1) + 1)) nought)
unfolding interpolation_matrix put_parameter
matrix_rows t = refl

-- what the loop over the parameters cites
pub ruleset rows = (each_step, each_done, row_inside, matrix_rows, values_in)

-- ---- the lines

-- all of them, each with the factored matrix
pub lines_through : (t : BasisTable) (lines r : ℕ) (point : ℕ → ℕ → Point) (band w w' : List Float) → band ≡ factor_band (t.degree - 1) (parameter_count t) (interpolation_matrix t)
    → length w ≡ 3 * (lines * parameter_count t) → lines ≤ r
    → DoneTo (parameter_count t) lines (λ k x. line_through (t.degree - 1) (parameter_count t) band (point k)) w w' r → w' ≡ interpolation t lines point
unfolding interpolation
lines_through t lines r point band w w' e h all to =
    lines_fill (parameter_count t) lines (λ k. line_through (t.degree - 1) (parameter_count t) band (point k)) w w' h
    (record { long = to.long; back = to.back; line = λ k i. to.done k (omega arith) })
    ∙ rw e

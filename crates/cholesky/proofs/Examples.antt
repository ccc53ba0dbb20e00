-- Worked examples, by computation: two rows by hand. Assumes nothing.
use mathlib.Core.Path.{◌≡◌, refl}
use mathlib.Core.Bool.{true, false}
use mathlib.Core.List.{[], ◌∷◌}
use lib.Ieee.{of_bits, of_int, sub, mul, div, lt, le, is_nan}
use Rattle.places.specs.Loops.{times, each, down, outcome, and_then, times_while, each_while}
use Rattle.places.specs.Places.{list_of}
use Rattle.geometry.specs.Doubles.{nought, half, double, larger, largest_from, largest}
use Rattle.geometry.specs.Root.{sqrt_of}
use Rattle.geometry.specs.Points.{point_at, put_point, less_scaled, scaled}
use Rattle.cholesky.specs.Cholesky.{reduced_entry, factor_entry, factor_left, undetermined, factor_diagonal, factor_row, largest_diagonal, factor_symmetric_band, forward_point, forward_row, back_point, back_row, substitute_symmetric_band}

-- (4 2; 2 5) is L L' of L = (2 0; 1 2)
pub factor_of-two : factor_symmetric_band 1 2 half (nought ∷ double 4 ∷ double 2 ∷ double 5 ∷ []) ≡ outcome true (nought ∷ double 2 ∷ double 1 ∷ double 2 ∷ [])
unfolding factor_symmetric_band factor_row factor_diagonal undetermined factor_left factor_entry reduced_entry largest_diagonal largest largest_from larger list_of each times each_while times_while and_then sqrt_of sub mul div lt le is_nan of_int of_bits
factor_of-two = refl

-- (1 1; 1 1) has a second pivot of 0
pub undetermined_of-two : factor_symmetric_band 1 2 half (nought ∷ double 1 ∷ double 1 ∷ double 1 ∷ []) ≡ outcome false (nought ∷ double 1 ∷ double 1 ∷ double 1 ∷ [])
unfolding factor_symmetric_band factor_row factor_diagonal undetermined factor_left factor_entry reduced_entry largest_diagonal largest largest_from larger list_of each times each_while times_while and_then sqrt_of sub mul div lt le is_nan of_int of_bits
undetermined_of-two = refl

-- with it (4 2; 2 5) x = b: the points (8, 0, 4) and (12, 0, 2) are made of (1, 0, 1) and (2, 0, 0)
pub solved_two : substitute_symmetric_band 1 2 (nought ∷ double 2 ∷ double 1 ∷ double 2 ∷ []) (double 8 ∷ nought ∷ double 4 ∷ double 12 ∷ nought ∷ double 2 ∷ []) ≡ double 1 ∷ nought ∷ double 1 ∷ double 2 ∷ nought ∷ nought ∷ []
unfolding substitute_symmetric_band forward_row forward_point back_row back_point point_at put_point less_scaled scaled each times down sub mul div of_int of_bits
solved_two = refl

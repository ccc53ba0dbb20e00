-- Worked examples, by computation: two rows by hand. Assumes nothing.
use mathlib.Core.Path.{◌≡◌, refl}
use mathlib.Core.Bool.{false}
use mathlib.Core.List.{[], ◌∷◌}
use lib.IntN.{pos}
use lib.Ieee.{inf, fin, of_bits, of_int, sub, mul, div, eq}
use Rattle.places.specs.Loops.{times, each, down}
use Rattle.geometry.specs.Doubles.{nought, half, double}
use Rattle.geometry.specs.Points.{point_at, put_point, less_scaled, scaled}
use Rattle.lu.specs.BandLu.{less_pivot, less_multiple, eliminate_row, eliminate, factor_band, less_point, forward_step, back_band_point, back_band_row, substitute_band}

-- (2 4; 1 5) is (1 0; 1/2 1) (2 4; 0 3)
pub lu_of-two : factor_band 1 2 (nought ∷ double 2 ∷ double 4 ∷ double 1 ∷ double 5 ∷ nought ∷ []) ≡ nought ∷ double 2 ∷ double 4 ∷ half ∷ double 3 ∷ nought ∷ []
unfolding factor_band eliminate eliminate_row less_multiple less_pivot each times sub mul div eq of_int of_bits
lu_of-two = refl

-- with it (2 4; 1 5) x = b: the points (10, 0, 2) and (11, 0, 1) are made of (1, 0, 1) and (2, 0, 0)
pub solved_two : substitute_band 1 2 (nought ∷ double 2 ∷ double 4 ∷ half ∷ double 3 ∷ nought ∷ []) (double 10 ∷ nought ∷ double 2 ∷ double 11 ∷ nought ∷ double 1 ∷ []) ≡ fin false 1 (pos 0) ∷ fin false 0 (pos 0) ∷ fin false 1 (pos 0) ∷ fin false 1 (pos 1) ∷ fin false 0 (pos 0) ∷ fin false 0 (pos 0) ∷ []
unfolding substitute_band forward_step less_point back_band_row back_band_point point_at put_point less_scaled scaled each times down sub mul div eq of_int of_bits
solved_two = refl

-- a multiplier of 0 takes nothing off, also where the point is infinite: (2 4; 0 2) x = ((inf, 0, 0), (2, 0, 0))
pub zero_skips : substitute_band 1 2 (nought ∷ double 2 ∷ double 4 ∷ nought ∷ double 2 ∷ nought ∷ []) (inf false ∷ nought ∷ nought ∷ double 2 ∷ nought ∷ nought ∷ []) ≡ inf false ∷ nought ∷ nought ∷ double 1 ∷ nought ∷ nought ∷ []
unfolding substitute_band forward_step less_point back_band_row back_band_point point_at put_point less_scaled scaled each times down sub mul div eq of_int of_bits
zero_skips = refl

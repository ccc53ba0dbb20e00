-- What the examples compute with, and doubles by their bits.
use Rattle.std.specs.Prelude.{List, [], ◌∷◌, ℕ, Float}
use Rattle.std.specs.Float.{binary64}
use Rattle.std.specs.Float.Ieee.{add, sub, mul, div, neg, lt, le, eq, of_bits, to_bits, of_int, to_unsigned, is_nan}
use Rattle.places.specs.Loops.{times, each}
use Rattle.places.specs.Places.{list_of, some_below, count_below}
use Rattle.geometry.specs.Doubles.{sum_below}
use Rattle.geometry.specs.Root.{root_below, whole_root, nearest_root, root_units, sqrt_of}
use Rattle.geometry.specs.Points.{distance, point_at}
use Rattle.bspline.specs.Basis.{share, rising, row, basis, left_of, right_of, basis_at}
use Rattle.knots.specs.Parameters.{chords, step_of, running_sums, step_sums, from_zero_to_one, point_parameters}
use Rattle.knots.specs.Knots.{clamped_knots, carried, averaged_knot, averaged_knots, between_places, spread_knot, approximation_knots, equal_from, run_length, run_start, distinct_knots, knot_at, multiplicity_at}
use Rattle.search.specs.Search.{turn, tried}

-- to unfold this is to unfold the definitions of the M cases and the operations of lib.Ieee
unfoldable pub opened : ℕ
unfolding add sub mul div neg lt le eq of_bits to_bits of_int to_unsigned is_nan times each list_of some_below count_below sum_below root_below whole_root nearest_root root_units sqrt_of distance point_at share rising row basis left_of right_of basis_at chords step_of running_sums step_sums from_zero_to_one point_parameters clamped_knots carried averaged_knot averaged_knots between_places spread_knot approximation_knots equal_from run_length run_start distinct_knots knot_at multiplicity_at turn tried
opened = 0

abbrev pub bits : ℕ → Float
bits b = of_bits binary64 b

abbrev pub words : List ℕ → List Float
words [] = []
words (b ∷ bs) = bits b ∷ words bs

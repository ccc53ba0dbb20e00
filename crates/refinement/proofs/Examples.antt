-- Worked examples of a round, computed from the definitions.
use Rattle.std.proofs.Common.{◌≡◌, List, [], ◌∷◌, refl}
use mathlib.Core.Option.{none, some}
use lib.Ieee.{Float, binary64, of_bits, add, mul, lt, le, eq, to_bits, size, span, climb}
use Rattle.places.specs.Places.{list_of, gathered, count_below}
use Rattle.geometry.specs.Doubles.{nought, one, half, larger, largest_from, largest}
use Rattle.geometry.specs.Order.{rank_of, inserted, sorted_onto, sorted}
use Rattle.refinement.specs.Refinement.{closes, span_ends, start_of, worst_of, span_worsts, lone, misses, lone_misses, lone_before, splits, middle_knot, knots_at, threshold_of, new_knots, with_knots, refined_knots}

-- 1/4, 3/8, 5/8, 3/4
abbrev quarter : Float
quarter = of_bits binary64 0x3fd0_0000_0000_0000

abbrev three_eighths : Float
three_eighths = of_bits binary64 0x3fd8_0000_0000_0000

abbrev five_eighths : Float
five_eighths = of_bits binary64 0x3fe4_0000_0000_0000

abbrev three_quarters : Float
three_quarters = of_bits binary64 0x3fe8_0000_0000_0000

abbrev fifths : List Float
fifths = nought ∷ quarter ∷ half ∷ three_quarters ∷ one ∷ []

-- five parameters in one span, the last one off by 1, degree 1, tolerance 1/2: the span splits between 1/4 and 1/2
one_span : refined_knots fifths (0 ∷ 0 ∷ 0 ∷ 0 ∷ 0 ∷ []) (nought ∷ nought ∷ nought ∷ nought ∷ one ∷ []) one half 1 (nought ∷ nought ∷ one ∷ one ∷ [])
    ≡ some (nought ∷ nought ∷ three_eighths ∷ one ∷ one ∷ [])
unfolding of_bits add mul lt le eq to_bits size span climb larger largest_from largest list_of gathered count_below rank_of inserted sorted_onto sorted closes span_ends start_of worst_of span_worsts lone misses lone_misses lone_before splits middle_knot knots_at threshold_of new_knots with_knots refined_knots
one_span = refl

-- the first parameter alone in its span and off by 1: the span after it splits, between 1/2 and 3/4
lone-first : refined_knots fifths (0 ∷ 1 ∷ 1 ∷ 1 ∷ 1 ∷ []) (one ∷ nought ∷ nought ∷ nought ∷ nought ∷ []) one half 1 (nought ∷ nought ∷ quarter ∷ one ∷ one ∷ [])
    ≡ some (nought ∷ nought ∷ quarter ∷ five_eighths ∷ one ∷ one ∷ [])
unfolding of_bits add mul lt le eq to_bits size span climb larger largest_from largest list_of gathered count_below rank_of inserted sorted_onto sorted closes span_ends start_of worst_of span_worsts lone misses lone_misses lone_before splits middle_knot knots_at threshold_of new_knots with_knots refined_knots
lone-first = refl

-- two lone parameters: nothing can split
stuck : refined_knots (nought ∷ one ∷ []) (0 ∷ 1 ∷ []) (one ∷ one ∷ []) one half 1 (nought ∷ nought ∷ one ∷ one ∷ []) ≡ none
unfolding of_bits add mul lt le eq to_bits size span climb larger largest_from largest list_of gathered count_below rank_of inserted sorted_onto sorted closes span_ends start_of worst_of span_worsts lone misses lone_misses lone_before splits middle_knot knots_at threshold_of new_knots with_knots refined_knots
stuck = refl

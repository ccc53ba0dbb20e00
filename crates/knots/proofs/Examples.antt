-- Worked examples, by computation: what the Rust answers on small ladders and a small grid (release build). Assumes nothing.
use mathlib.Core.Path.{◌≡◌, refl}
use mathlib.Core.Bool.{false, true≢false}
use mathlib.Core.List.{List, [], ◌∷◌}
use mathlib.Core.Option.{some}
use Prim.Native.Nat.{ℕ, zero, suc, ◌^◌, ◌<◌, ◌≤◌}
use native.Mathlib.Omega.{arith}
use lib.Dec.{lit≤, lit<}
use lib.ListN.{get_or}
use lib.Ieee.{Float, binary64, round, add, sub, mul, div, le, eq, of_bits, of_int, to_unsigned}
use Rattle.places.specs.Loops.{times, each}
use Rattle.places.specs.Places.{list_of, some_below, count_below}
use Rattle.geometry.specs.Doubles.{at, sum_below}
use Rattle.geometry.specs.Root.{sqrt_of}
use Rattle.geometry.specs.Points.{squared_distance, distance, point_at}
use Rattle.knots.specs.declared.Spacing.TheVariants.{Chordal}
use Rattle.knots.specs.Lines.{lines_of}
use Rattle.knots.specs.Parameters.{plain_metric, chords, step_of, running_sums, step_sums, from_zero_to_one, add_line, added_lines, shared_parameters}
use Rattle.knots.specs.Textbook.{AreShort, AreAveraged, AreRuns}
use Rattle.knots.specs.Knots.{clamped_knots, carried, averaged_knot, averaged_knots, between_places, spread_knot, approximation_knots, equal_from, run_length, run_start, distinct_knots, knot_at, multiplicity_at}
use Rattle.knots.proofs.AveragedLaws.{are_averaged}

-- doubles by their bits
abbrev words : List ℕ → List Float
words [] = []
words (b ∷ bs) = of_bits binary64 b ∷ words bs

-- 0, 0.125, 0.25, 0.5, 0.75, 1: the points 0, 1, 2, 4, 6, 8 of an axis
abbrev six : List Float
six = words (0 ∷ 0x3fc0_0000_0000_0000 ∷ 0x3fd0_0000_0000_0000 ∷ 0x3fe0_0000_0000_0000 ∷ 0x3fe8_0000_0000_0000 ∷ 0x3ff0_0000_0000_0000 ∷ [])

-- degree 3, averaged: two inner knots, 0.875 / 3 and 1.5 / 3
pub averaged-cubic : averaged_knots six 3
    ≡ words (0 ∷ 0 ∷ 0 ∷ 0 ∷ 0x3fd2_aaaa_aaaa_aaab ∷ 0x3fe0_0000_0000_0000 ∷ 0x3ff0_0000_0000_0000 ∷ 0x3ff0_0000_0000_0000 ∷ 0x3ff0_0000_0000_0000 ∷ 0x3ff0_0000_0000_0000 ∷ [])
unfolding averaged_knots averaged_knot carried clamped_knots list_of sum_below add sub div of_int of_bits
averaged-cubic = refl

-- they are eighths, of which no sum is rounded: 9.8 over whole numbers is of them too
abbrev eighths : ℕ → ℕ
eighths k = get_or (0 ∷ 1 ∷ 2 ∷ 4 ∷ 6 ∷ 8 ∷ []) k 0

six-short : AreShort 3 eighths six
unfolding round of_bits
six-short = record { places = lit≤ tt; few = few; are = are }
  where
    few : (k : ℕ) → eighths k ≤ 2 ^ 48
    few zero = lit≤ tt
    few (suc zero) = lit≤ tt
    few (suc (suc zero)) = lit≤ tt
    few (suc (suc (suc zero))) = lit≤ tt
    few (suc (suc (suc (suc zero)))) = lit≤ tt
    few (suc (suc (suc (suc (suc zero))))) = lit≤ tt
    few (suc (suc (suc (suc (suc (suc k)))))) = lit≤ tt

    are : (k : ℕ) → k < 6 → at six k ≡ round binary64 false (eighths k) (2 ^ 3)
    are zero h = refl
    are (suc zero) h = refl
    are (suc (suc zero)) h = refl
    are (suc (suc (suc zero))) h = refl
    are (suc (suc (suc (suc zero)))) h = refl
    are (suc (suc (suc (suc (suc zero))))) h = refl
    are (suc (suc (suc (suc (suc (suc k)))))) h = absurd (omega arith)

pub six-averaged : AreAveraged 3 eighths six 3 (averaged_knots six 3)
six-averaged = are_averaged 3 eighths six six-short 3 (lit≤ tt) (lit≤ tt) (lit< tt)

-- degree 1 and 4 poles, spread: two inner knots, at indices 5/3 and 10/3
pub spread-two : approximation_knots six 4 1 ≡ words (0 ∷ 0 ∷ 0x3fca_aaaa_aaaa_aaab ∷ 0x3fe2_aaaa_aaaa_aaab ∷ 0x3ff0_0000_0000_0000 ∷ 0x3ff0_0000_0000_0000 ∷ [])
unfolding approximation_knots spread_knot between_places clamped_knots list_of add sub mul div of_int to_unsigned of_bits
spread-two = refl

-- degree 3 and 5 poles, spread: one inner knot, at index 5/2
pub spread-cubic : approximation_knots six 5 3 ≡ words (0 ∷ 0 ∷ 0 ∷ 0 ∷ 0x3fd8_0000_0000_0000 ∷ 0x3ff0_0000_0000_0000 ∷ 0x3ff0_0000_0000_0000 ∷ 0x3ff0_0000_0000_0000 ∷ 0x3ff0_0000_0000_0000 ∷ [])
unfolding approximation_knots spread_knot between_places clamped_knots list_of add sub mul div of_int to_unsigned of_bits
spread-cubic = refl

-- 0, 0, 0, 0.375, 0.375, 1, 1, 1: three knots, of multiplicity 3, 2 and 3
abbrev doubled : List Float
doubled = words (0 ∷ 0 ∷ 0 ∷ 0x3fd8_0000_0000_0000 ∷ 0x3fd8_0000_0000_0000 ∷ 0x3ff0_0000_0000_0000 ∷ 0x3ff0_0000_0000_0000 ∷ 0x3ff0_0000_0000_0000 ∷ [])

pub doubled-count : distinct_knots doubled ≡ 3
unfolding distinct_knots run_start run_length equal_from count_below eq of_bits
doubled-count = refl

pub doubled-knots : list_of 3 (knot_at doubled) ≡ words (0 ∷ 0x3fd8_0000_0000_0000 ∷ 0x3ff0_0000_0000_0000 ∷ [])
unfolding list_of knot_at run_start run_length equal_from eq of_bits
doubled-knots = refl

pub doubled-multiplicities : list_of 3 (multiplicity_at doubled) ≡ 3 ∷ 2 ∷ 3 ∷ []
unfolding list_of multiplicity_at run_start run_length equal_from eq of_bits
doubled-multiplicities = refl

-- every knot by itself is not what its runs are
pub by-itself-refused : AreRuns doubled 8 (at doubled) (λ k. 1) → ⊥
unfolding eq of_bits
by-itself-refused runs = true≢false (runs.differ 0 (omega arith))

-- a grid of three rows and four columns, at heights 0, 1 and 2: 0, 1, 2, 4; one point four times; 0, 3, 3.5, 4
abbrev rows : List Float
rows =
    words (0 ∷ 0 ∷ 0 ∷ 0x3ff0_0000_0000_0000 ∷ 0 ∷ 0 ∷ 0x4000_0000_0000_0000 ∷ 0 ∷ 0 ∷ 0x4010_0000_0000_0000 ∷ 0 ∷ 0
    ∷ 0 ∷ 0x3ff0_0000_0000_0000 ∷ 0 ∷ 0 ∷ 0x3ff0_0000_0000_0000 ∷ 0 ∷ 0 ∷ 0x3ff0_0000_0000_0000 ∷ 0 ∷ 0 ∷ 0x3ff0_0000_0000_0000 ∷ 0
    ∷ 0 ∷ 0x4000_0000_0000_0000 ∷ 0 ∷ 0x4008_0000_0000_0000 ∷ 0x4000_0000_0000_0000 ∷ 0 ∷ 0x400c_0000_0000_0000 ∷ 0x4000_0000_0000_0000 ∷ 0 ∷ 0x4010_0000_0000_0000 ∷ 0x4000_0000_0000_0000 ∷ 0 ∷ [])

-- the row in the middle has no length and is skipped: the averages of 0.25 and 0.75, and of 0.5 and 0.875
abbrev averages : List Float
averages = words (0 ∷ 0x3fe0_0000_0000_0000 ∷ 0x3fe6_0000_0000_0000 ∷ 0x3ff0_0000_0000_0000 ∷ [])

pub skipped-line : shared_parameters (plain_metric Chordal) 3 4 (lines_of rows 4 1) ≡ some averages
unfolding shared_parameters added_lines add_line chords step_sums step_of running_sums from_zero_to_one some_below sum_below list_of each times squared_distance distance point_at sqrt_of add sub mul div le of_int of_bits
skipped-line = refl

-- what the Rust hands out for it: degree 1 and 3 poles along the rows, the inner knot between the two averages
pub skipped-spread : approximation_knots averages 3 1 ≡ words (0 ∷ 0 ∷ 0x3fe3_0000_0000_0000 ∷ 0x3ff0_0000_0000_0000 ∷ 0x3ff0_0000_0000_0000 ∷ [])
unfolding approximation_knots spread_knot between_places clamped_knots list_of add sub mul div of_int to_unsigned of_bits
skipped-spread = refl

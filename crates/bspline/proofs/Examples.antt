-- Worked examples, by computation: which numbers are factors, and what the Rust's reader answers of a clamped cubic and of unclamped lines. Assumes nothing.
use Rattle.std.proofs.Common.{◌≡◌, refl}
use Rattle.std.specs.Prelude.{Err, List, [], ◌∷◌, ℕ, Float}
use lib.Ieee.{nan, binary64, add, sub, mul, div, lt, le, of_bits}
use Rattle.places.specs.Places.{list_of, joined}
use Rattle.geometry.specs.declared.Point.{Point}
use Rattle.geometry.specs.Doubles.{sum_below}
use Rattle.geometry.specs.Points.{point_at, weighted}
use Rattle.bspline.specs.declared.Refusal.TheVariants.{FactorOutOfRange}
use Rattle.bspline.specs.Refusals.{pass, factor_verdict}
use Rattle.bspline.specs.Spans.{clamp, last_with, span_of}
use Rattle.bspline.specs.Basis.{share, rising, row, basis, left_of, right_of, basis_at}
use Rattle.bspline.specs.Reader.{flat_knots, curve_point}

-- ---- 0.25 and 4 are factors, the doubles next to them outside and a NaN are not

pub ends-pass : (factor_verdict (of_bits binary64 0x3fd0_0000_0000_0000) ≡ pass) × (factor_verdict (of_bits binary64 0x4010_0000_0000_0000) ≡ pass)
unfolding factor_verdict of_bits le
ends-pass = (refl, refl)

pub outside-stops : (factor_verdict (of_bits binary64 0x3fcf_ffff_ffff_ffff) ≡ Err FactorOutOfRange) × (factor_verdict (of_bits binary64 0x4010_0000_0000_0001) ≡ Err FactorOutOfRange) × (factor_verdict nan ≡ Err FactorOutOfRange)
unfolding factor_verdict of_bits le
outside-stops = (refl, refl, refl)

-- ---- readings: doubles by their bits

abbrev bits : ℕ → Float
bits b = of_bits binary64 b

abbrev words : List ℕ → List Float
words [] = []
words (b ∷ bs) = bits b ∷ words bs

abbrev point : ℕ → ℕ → ℕ → Point
point x y z = record { x = bits x; y = bits y; z = bits z }

-- the poles (0, 0, 0), (1, 2, 0), (2, 0, 1), and behind them (3, 3, 3), (4, 0, 0)
abbrev three : List Float
three = words (0 ∷ 0 ∷ 0 ∷ 0x3ff0_0000_0000_0000 ∷ 0x4000_0000_0000_0000 ∷ 0 ∷ 0x4000_0000_0000_0000 ∷ 0 ∷ 0x3ff0_0000_0000_0000 ∷ [])

abbrev five : List Float
five = words (0 ∷ 0 ∷ 0 ∷ 0x3ff0_0000_0000_0000 ∷ 0x4000_0000_0000_0000 ∷ 0 ∷ 0x4000_0000_0000_0000 ∷ 0 ∷ 0x3ff0_0000_0000_0000 ∷ 0x4008_0000_0000_0000 ∷ 0x4008_0000_0000_0000 ∷ 0x4008_0000_0000_0000 ∷ 0x4010_0000_0000_0000 ∷ 0 ∷ 0 ∷ [])

-- two cubic pieces: knots 0, 0.5, 1 of multiplicity 4, 1, 4
abbrev cubic : List Float
cubic = flat_knots (words (0 ∷ 0x3fe0_0000_0000_0000 ∷ 0x3ff0_0000_0000_0000 ∷ [])) (4 ∷ 1 ∷ 4 ∷ [])

-- ends of multiplicity 1: knots 0, 1, 2, 3, 4, so that three poles of degree 1 are read from 1 to 3
abbrev unclamped : List Float
unclamped = flat_knots (words (0 ∷ 0x3ff0_0000_0000_0000 ∷ 0x4000_0000_0000_0000 ∷ 0x4008_0000_0000_0000 ∷ 0x4010_0000_0000_0000 ∷ [])) (1 ∷ 1 ∷ 1 ∷ 1 ∷ 1 ∷ [])

pub flat-cubic : cubic ≡ words (0 ∷ 0 ∷ 0 ∷ 0 ∷ 0x3fe0_0000_0000_0000 ∷ 0x3ff0_0000_0000_0000 ∷ 0x3ff0_0000_0000_0000 ∷ 0x3ff0_0000_0000_0000 ∷ 0x3ff0_0000_0000_0000 ∷ [])
unfolding flat_knots joined
flat-cubic = refl

-- at 0.25: (1.1875, 1.28125, 0.34375)
pub quarter-cubic : curve_point cubic 3 five (bits 0x3fd0_0000_0000_0000) ≡ point 0x3ff3_0000_0000_0000 0x3ff4_8000_0000_0000 0x3fd6_0000_0000_0000
unfolding curve_point flat_knots joined clamp span_of last_with basis_at basis row rising share left_of right_of weighted sum_below point_at list_of add sub mul div lt le of_bits
quarter-cubic = refl

-- at -1, which is moved to 0, and at 7, which is moved to 1: the end poles
pub below-cubic : curve_point cubic 3 five (bits 0xbff0_0000_0000_0000) ≡ point 0 0 0
unfolding curve_point flat_knots joined clamp span_of last_with basis_at basis row rising share left_of right_of weighted sum_below point_at list_of add sub mul div lt le of_bits
below-cubic = refl

pub above-cubic : curve_point cubic 3 five (bits 0x401c_0000_0000_0000) ≡ point 0x4010_0000_0000_0000 0 0
unfolding curve_point flat_knots joined clamp span_of last_with basis_at basis row rising share left_of right_of weighted sum_below point_at list_of add sub mul div lt le of_bits
above-cubic = refl

-- unclamped ends, at 1.25: a quarter of the way from the first pole to the second
pub inside-unclamped : curve_point unclamped 1 three (bits 0x3ff4_0000_0000_0000) ≡ point 0x3fd0_0000_0000_0000 0x3fe0_0000_0000_0000 0
unfolding curve_point flat_knots joined clamp span_of last_with basis_at basis row rising share left_of right_of weighted sum_below point_at list_of add sub mul div lt le of_bits
inside-unclamped = refl

-- at 0.5, which is before the range, and at 4, behind it: the first pole and the last
pub before-unclamped : curve_point unclamped 1 three (bits 0x3fe0_0000_0000_0000) ≡ point 0 0 0
unfolding curve_point flat_knots joined clamp span_of last_with basis_at basis row rising share left_of right_of weighted sum_below point_at list_of add sub mul div lt le of_bits
before-unclamped = refl

pub behind-unclamped : curve_point unclamped 1 three (bits 0x4010_0000_0000_0000) ≡ point 0x4000_0000_0000_0000 0 0x3ff0_0000_0000_0000
unfolding curve_point flat_knots joined clamp span_of last_with basis_at basis row rising share left_of right_of weighted sum_below point_at list_of add sub mul div lt le of_bits
behind-unclamped = refl

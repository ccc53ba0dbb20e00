-- Worked examples, by computation: degree 2 on the knots 0, 0, 0, 1, 1, 1, and one of degree 25. They show that the theorems' conditions can be met. Assumes nothing.
use mathlib.Core.Path.{◌≡◌, refl}
use mathlib.Core.Bool.{Bool, true, false, not, cond}
use mathlib.Core.List.{List, [], ◌∷◌}
use Prim.Native.Nat.{ℕ, ◌+◌, ◌*◌, ◌^◌, ◌<◌}
use native.Mathlib.Omega.{arith}
use lib.Dec.{ltb, lit<, lit≤}
use lib.ListN.{length}
use lib.Ieee.{Float, binary64, of_bits, lt, le, is_nan, fits, add, sub, mul, div}
use borrow.Author.Tests.{not-false}
use Rattle.places.specs.Places.{list_of, joined, some_below}
use Rattle.places.proofs.PlaceLaws.{some_false}
use Rattle.geometry.specs.declared.Point.{Point}
use Rattle.geometry.specs.Doubles.{nought, one, half, double, is_finite, at}
use Rattle.geometry.proofs.FloatOrder.{test}
use Rattle.bspline.specs.Refusals.{degree_verdict}
use Rattle.bspline.specs.Spans.{span_from, span_before, clamp, last_with, span_of, NeverFalls, InRange}
use Rattle.bspline.specs.Basis.{share, rising, row, basis, left_of, right_of, basis_at}
use Rattle.bspline.specs.Reader.{flat_knots, curve_point, too_large, sizes_verdict, knots_verdict, not_readable, reader_verdict, Reads}
use Rattle.tables.specs.BasisTable.{basis_table, value}
use Rattle.unity.specs.Unity.{exact_sum, NearlyOne, InUnitInterval}
use Rattle.unity.proofs.UnityLaws.{nearly_one}
use Rattle.unity.proofs.ReadLaws.{reading_nearly_one, table_nearly_one}
use Rattle.std.specs.Prelude.{Ok}

abbrev flat : List Float
flat = nought ∷ nought ∷ nought ∷ one ∷ one ∷ one ∷ []

-- 0.2, 0.3 and -0.0
abbrev fifth : Float
fifth = of_bits binary64 0x3fc9_9999_9999_999a

abbrev three_tenths : Float
three_tenths = of_bits binary64 0x3fd3_3333_3333_3333

abbrev minus_nought : Float
minus_nought = of_bits binary64 0x8000_0000_0000_0000

-- ---- sums: at 0.5 exactly 1, at 0.2 above it by 7 * 2 ^ -55, at 0.3 below it by 3 * 2 ^ -55

pub sum_at_half : exact_sum (basis_at flat 2 2 half) ≡ 2 ^ 1074
unfolding exact_sum list_of share rising row basis left_of right_of basis_at of_bits add sub mul div
sum_at_half = refl

pub sum_at_fifth : exact_sum (basis_at flat 2 2 fifth) ≡ 2 ^ 1074 + 7 * 2 ^ 1019
unfolding exact_sum list_of share rising row basis left_of right_of basis_at of_bits add sub mul div
sum_at_fifth = refl

pub sum_at_three_tenths : exact_sum (basis_at flat 2 2 three_tenths) + 3 * 2 ^ 1019 ≡ 2 ^ 1074
unfolding exact_sum list_of share rising row basis left_of right_of basis_at of_bits add sub mul div
sum_at_three_tenths = refl

-- degree 25 on 26 zeros and 26 ones, at 0.2: above it by 3792093094052383717 * 2 ^ -111, which is less than 2 ^ -49
pub sum_of_degree_25 : exact_sum (basis_at (list_of 52 (λ k. cond (ltb k 26) nought one)) 25 25 fifth) ≡ 2 ^ 1074 + 3792093094052383717 * 2 ^ 963
unfolding exact_sum list_of share rising row basis left_of right_of basis_at of_bits add sub mul div
sum_of_degree_25 = refl

-- a value can be -0.0, which is not negative
pub a_minus_nought : basis_at flat 2 2 minus_nought ≡ one ∷ minus_nought ∷ nought ∷ []
unfolding list_of share rising row basis left_of right_of basis_at of_bits add sub mul div
a_minus_nought = refl

-- ---- the theorem at 0.2, and at -0.0

each_below : (n : ℕ) (p : ℕ → Bool) → some_below n (λ k. not (p k)) ≡ false → (k : ℕ) → k < n → p k ≡ true
each_below n p e k h = not-false (p k) (some_false n (λ k. not (p k)) e k h)

never_falls : NeverFalls flat
unfolding of_bits le some_below
never_falls s h = each_below 5 (λ k. le (at flat k) (at flat (k + 1))) refl s (omega arith)

in_unit : (xs : List Float) → some_below (length xs) (λ k. not (fits binary64 (at xs k))) ≡ false
    → some_below (length xs) (λ k. not (le nought (at xs k))) ≡ false → some_below (length xs) (λ k. not (le (at xs k) one)) ≡ false → InUnitInterval xs
in_unit xs f l r = record {
  doubles = λ s h. test (each_below (length xs) (λ k. fits binary64 (at xs k)) f s h);
  from_zero = each_below (length xs) (λ k. le nought (at xs k)) l;
  to_one = each_below (length xs) (λ k. le (at xs k) one) r;
}

flat_unit : InUnitInterval flat
unfolding of_bits le fits some_below
flat_unit = in_unit flat refl refl refl

pub at_fifth : NearlyOne (basis_at flat 2 2 fifth)
unfolding of_bits le fits
at_fifth = nearly_one flat 2 2 fifth (lit≤ tt) (lit≤ tt) (lit< tt) tt never_falls flat_unit (record { from = refl; to = refl }) (lit≤ tt)

pub at_minus_nought : NearlyOne (basis_at flat 2 2 minus_nought)
unfolding of_bits le fits
at_minus_nought = nearly_one flat 2 2 minus_nought (lit≤ tt) (lit≤ tt) (lit< tt) tt never_falls flat_unit (record { from = refl; to = refl }) (lit≤ tt)

-- ---- in a basis table at 0.2 and 0.3

abbrev params : List Float
params = fifth ∷ three_tenths ∷ []

in_range : InRange flat 2 params
unfolding of_bits le some_below
in_range = record {
  rise = λ s h. each_below 1 (λ k. le (at params k) (at params (k + 1))) refl s (omega arith);
  from = each_below 2 (λ k. le (at flat 2) (at params k)) refl;
  to = each_below 2 (λ k. le (at params k) (at flat 3)) refl;
}

pub in_a_table : NearlyOne (list_of 3 (value (basis_table flat 2 params) 1))
unfolding span_before span_from of_bits le fits
in_a_table = table_nearly_one flat 2 params 1 (lit≤ tt) (lit≤ tt) (lit≤ tt) (lit< tt) tt never_falls flat_unit in_range (lit≤ tt)

-- ---- as `read` weights the poles of the curve with these knots, at 0.2

abbrev knots : List Float
knots = nought ∷ one ∷ []

abbrev mults : List ℕ
mults = 3 ∷ 3 ∷ []

-- the points 0, 1 and 2 on the first axis
abbrev poles : List Float
poles = nought ∷ nought ∷ nought ∷ one ∷ nought ∷ nought ∷ double 2 ∷ nought ∷ nought ∷ []

abbrev point : Point
point = curve_point (flat_knots knots mults) 2 poles fifth

is_read : Reads poles 2 knots mults fifth (Ok point)
unfolding reader_verdict sizes_verdict degree_verdict knots_verdict not_readable too_large is_finite flat_knots joined some_below of_bits le is_nan
is_read = record { answer = refl; number = refl }

knots_unit : InUnitInterval knots
unfolding of_bits le fits some_below
knots_unit = in_unit knots refl refl refl

pub as_read : NearlyOne (basis_at flat 2 2 fifth)
unfolding flat_knots joined clamp span_of last_with of_bits lt le fits
as_read = (reading_nearly_one poles 2 knots mults fifth point is_read tt knots_unit (lit≤ tt)).1

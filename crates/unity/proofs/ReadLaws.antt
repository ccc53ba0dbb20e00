-- The same of the values by which `read` weights the poles, and of those in a basis table. The checks of `read` give flat knots that never fall and a range that is not
-- empty; the clamped parameter lies in it, and so the span that is found holds it. A table's parameters lie in the range. Assumes nothing.
use mathlib.Core.Path.{◌≡◌, refl, sym, subst}
use mathlib.Core.Bool.{true, not}
use mathlib.Core.List.{List}
use Prim.Native.Nat.{ℕ, ◌+◌, ◌-◌, ◌≤◌}
use native.Mathlib.Omega.{arith}
use lib.Dec.{T}
use lib.ListN.{length}
use lib.Ieee.{Float, binary64, fits, le, is_nan}
use Rattle.geometry.specs.declared.Point.{Point}
use Rattle.geometry.specs.Doubles.{nought, one, at}
use Rattle.geometry.specs.Points.{point_at, weighted}
use Rattle.geometry.proofs.FloatOrder.{test, le_left}
use Rattle.bspline.specs.Spans.{span_at, clamp, span_of, first_parameter, last_parameter}
use Rattle.bspline.specs.Basis.{basis_at}
use Rattle.bspline.specs.Reader.{flat_knots, curve_point, reader_verdict, reading_of}
use Rattle.bspline.proofs.SpanLaws.{span_of_in, span_before-in}
use Rattle.bspline.proofs.HoldingLaws.{knots_order, span_of_holds, span_at_holds, clamp_holds, clamp-fits}
use Rattle.bspline.proofs.ReaderLaws.{each_knot}
use Rattle.bspline.proofs.CheckLaws.{readable, taken}
use Rattle.tables.proofs.TableLaws.{row_values}
use Rattle.unity.specs.Unity.{NearlyOne, InUnitInterval, WideSpan, ReadingNearlyOne, TableNearlyOne}
use Rattle.unity.proofs.UnityLaws.{nearly_one}
use Rattle.std.specs.Prelude.{Ok, Err}
use Rattle.bspline.specs.Refusals.{Verdict}

-- ---- the reader

flat_unit_interval : (knots : List Float) (mults : List ℕ) → InUnitInterval knots → InUnitInterval (flat_knots knots mults)
unfolding flat_knots
flat_unit_interval knots mults Z =
    let n = length knots in
    let whole : n ≤ n = omega arith in
    record {
      doubles = each_knot knots mults (λ x. T (fits binary64 x)) Z.doubles n whole;
      from_zero = each_knot knots mults (λ x. le nought x ≡ true) Z.from_zero n whole;
      to_one = each_knot knots mults (λ x. le x one ≡ true) Z.to_one n whole;
    }

module _ (poles : List Float) (d : ℕ) (knots : List Float) (mults : List ℕ) (u : Float) (q : Point) where
  abbrev flat : List Float
  flat = flat_knots knots mults

  -- the parameter and the span at which the curve is read
  abbrev x : Float
  x = clamp u (first_parameter flat d) (last_parameter flat d)

  abbrev s : ℕ
  s = span_of flat d x

  by_verdict : (w : Verdict) → reader_verdict poles d knots mults u ≡ w → Ok q ≡ reading_of w (curve_point flat d poles u) → T (fits binary64 u) → InUnitInterval knots → WideSpan flat s
      → (q ≡ weighted (d + 1) (at (basis_at flat d s x)) (λ a. point_at poles (s - d + a))) × NearlyOne (basis_at flat d s x)
  unfolding curve_point
  by_verdict (Err c) e f F Z W = let z : ◌≡◌ {A = ℕ} 0 1 = cc in absurd (omega arith)
  by_verdict (Ok p₀) e f F Z W =
      let t = taken poles d knots mults u e in
      let number : T (not (is_nan u)) = rw (readable _ d knots mults u t.readable).number tt in
      let end = length flat - 1 - d in
      let K : InUnitInterval flat = flat_unit_interval knots mults Z in
      let range = knots_order flat t.falls d end (omega (arith, t.long)) (omega (arith, t.long)) (le_left (at flat end) one (test (K.to_one end (omega (arith, t.long))))) in
      let c = clamp_holds u (first_parameter flat d) (last_parameter flat d) number range in
      let b = span_of_in flat d x t.long in (
        cc,
        nearly_one flat d s x t.sized.low t.sized.high (omega arith) (clamp-fits u _ _ F (K.doubles d (omega (arith, t.long))) (K.doubles end (omega (arith, t.long)))) t.falls K
            (span_of_holds flat t.falls d x t.long c.0 c.1) W,
      )

pub reading_nearly_one : ReadingNearlyOne
reading_nearly_one poles d knots mults u q reads F Z W = by_verdict poles d knots mults u q (reader_verdict poles d knots mults u) refl reads.answer F Z W

-- ---- the basis table

pub table_nearly_one : TableNearlyOne
table_nearly_one flat d params k D h long l F R K P W =
    let s = span_at flat d params k in
    let b = span_before-in flat d params (k + 1) long in
    subst NearlyOne (sym (row_values flat d params k l)) (nearly_one flat d s (at params k) D h (omega arith) F R K (span_at_holds flat R d params long P k l) W)

-- Computed basis functions add up to one, nearly (The NURBS Book, P2.3 and P2.4; document 02, request Twelve). Definitions only.
-- Exact values are counted in units of 2 ^ -1074 (geometry's specs/Nearest).
use Rattle.std.specs.Prelude.{ℕ, ◌+◌, ◌-◌, ◌*◌, ◌^◌, ◌≤◌, ◌<◌, ◌≡◌, true, List, [], ◌∷◌, T, length, Float, Ok}
use Rattle.std.specs.Float.{binary64}
use Rattle.std.specs.Float.Ieee.{fits, le}
use Rattle.std.specs.Float.Ieee.Digits.{Equals}
use Rattle.places.specs.Places.{list_of}
use Rattle.geometry.specs.declared.Point.{Point}
use Rattle.geometry.specs.Doubles.{nought, one, at}
use Rattle.geometry.specs.Nearest.{units_in_one, in_units}
use Rattle.geometry.specs.Points.{point_at, weighted}
use Rattle.bspline.specs.Spans.{span_at, clamp, span_of, first_parameter, last_parameter, NeverFalls, InSpan, InRange}
use Rattle.bspline.specs.Basis.{basis_at}
use Rattle.bspline.specs.Reader.{flat_knots, Reads}
use Rattle.tables.specs.BasisTable.{basis_table, value}

-- 2 ^ -20 and 2 ^ -40 in units
abbrev pub least_width : ℕ
least_width = 2 ^ 1054

abbrev pub error_bound : ℕ
error_bound = 2 ^ 1034

-- ---- what is shown

-- the exact sum of the values, in units
unfoldable pub exact_sum : List Float → ℕ
exact_sum [] = 0
exact_sum (x ∷ xs) = in_units x + exact_sum xs

-- No value is negative, nor a NaN; each is finite and exactly so many units; and their exact sum is within 2 ^ -40 of 1.
pub record NearlyOne (values : List Float) : Type 0 where
  pub not_negative : (r : ℕ) → r < length values → le nought (at values r) ≡ true
  pub exact : (r : ℕ) → r < length values → Equals (at values r) (in_units (at values r)) units_in_one
  pub not_above : exact_sum values ≤ units_in_one + error_bound
  pub not_below : units_in_one ≤ exact_sum values + error_bound

-- ---- of which knots and parameters

-- `f64`s (which every place of a slice is) in 0 to 1
pub record InUnitInterval (xs : List Float) : Type 0 where
  pub doubles : (k : ℕ) → k < length xs → T (fits binary64 (at xs k))
  pub from_zero : (k : ℕ) → k < length xs → le nought (at xs k) ≡ true
  pub to_one : (k : ℕ) → k < length xs → le (at xs k) one ≡ true

-- the span that knot i opens is at least 2 ^ -20 wide
abbrev pub WideSpan : List Float → ℕ → Type 0
WideSpan flat i = in_units (at flat i) + least_width ≤ in_units (at flat (i + 1))

-- ---- the theorems, for all degrees together

-- the basis functions of degree d on the span that knot i opens
abbrev pub BasisNearlyOne : Type 0
BasisNearlyOne =
    (flat : List Float) (d i : ℕ) (u : Float) → 1 ≤ d → d ≤ 25 → i + d < length flat → T (fits binary64 u)
    → NeverFalls flat → InUnitInterval flat → InSpan flat i u → WideSpan flat i
    → NearlyOne (basis_at flat d i u)

-- The values by which `read` weights the poles, wherever it answers a point: all that is known of it is its promise, `Reads`. The span that it finds holds the parameter.
abbrev pub ReadingNearlyOne : Type 0
ReadingNearlyOne =
    (poles : List Float) (d : ℕ) (knots : List Float) (mults : List ℕ) (u : Float) (q : Point) → Reads poles d knots mults u (Ok q) → T (fits binary64 u)
    → let flat = flat_knots knots mults in
    let x = clamp u (first_parameter flat d) (last_parameter flat d) in
    let s = span_of flat d x in
    let v = basis_at flat d s x in
    InUnitInterval knots → WideSpan flat s
    → (q ≡ weighted (d + 1) (at v) (λ a. point_at poles (s - d + a))) × NearlyOne v

-- The values of parameter k in a fit's basis table. The span that its search finds holds the parameter.
abbrev pub TableNearlyOne : Type 0
TableNearlyOne =
    (flat : List Float) (d : ℕ) (params : List Float) (k : ℕ) → 1 ≤ d → d ≤ 25 → 2 * d + 2 ≤ length flat → k < length params → T (fits binary64 (at params k))
    → NeverFalls flat → InUnitInterval flat → InRange flat d params → WideSpan flat (span_at flat d params k)
    → NearlyOne (list_of (d + 1) (value (basis_table flat d params) k))

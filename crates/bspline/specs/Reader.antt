-- The reader: a curve's distinct knots, multiplicities and poles, read at a parameter (`KnotVector::new`, `KnotVector::basis`). Definitions only.
use Rattle.std.specs.Prelude.{Result, Ok, Err, ℕ, ◌+◌, ◌-◌, ◌/◌, ◌%◌, ◌≤◌, ◌≡◌, Bool, false, not, ◌||◌, List, eqb, ltb, length, drop, sum, get_or, replicate, Float}
use Rattle.std.specs.Float.Ieee.{le, is_nan}
use Rattle.std.specs.List.{list_any, zip}
use Rattle.places.specs.Places.{joined}
use Rattle.places.specs.Regions.{part}
use Rattle.geometry.specs.declared.Point.{Point}
use Rattle.geometry.specs.Doubles.{at, is_finite}
use Rattle.geometry.specs.Points.{point_at, weighted}
use Rattle.bspline.specs.declared.Refusal.{Refusal}
use Rattle.bspline.specs.declared.Refusal.TheVariants.{PoleCountMismatch, NotTriples, TooLarge, TooFewKnots, KnotsNotIncreasing, MultiplicityTooLarge, NotReadable}
use Rattle.bspline.specs.Refusals.{Verdict, number_of, stop_if, ◌next◌, degree_verdict}
use Rattle.bspline.specs.Spans.{clamp, span_of, first_parameter, last_parameter}
use Rattle.bspline.specs.Basis.{basis_at}

-- the multiplicity of knot k
abbrev pub multiplicity : List ℕ → ℕ → ℕ
multiplicity mults k = get_or mults k 0

-- the flat knots: knot k repeated by its multiplicity
unfoldable pub flat_knots : List Float → List ℕ → List Float
flat_knots knots mults = joined (length knots) (λ k. replicate (multiplicity mults k) (at knots k))

-- the multiplicities added up
abbrev pub sum_of : List ℕ → ℕ
sum_of mults = sum mults

-- the curve's point at u: u is moved into the range, and the d + 1 basis functions on its span weight the poles from span - d on
unfoldable pub curve_point : List Float → ℕ → List Float → Float → Point
curve_point flat d poles u =
    let x = clamp u (first_parameter flat d) (last_parameter flat d) in
    let s = span_of flat d x in
    let v = basis_at flat d s x in
    weighted (d + 1) (at v) (λ a. point_at poles (s - d + a))

-- 13: some knot is not above its predecessor (a knot after or before NaN is not refused here)
abbrev pub not_increasing : List Float → Bool
not_increasing knots = list_any (λ (a, b). le b a) (zip knots (drop 1 knots))

-- 14: an end's multiplicity is above degree + 1, or an inner one above the degree
abbrev pub inner_too_large : ℕ → List ℕ → Bool
inner_too_large d mults = list_any (λ m. ltb d m) (part 1 (length mults - 1) mults)

unfoldable pub too_large : ℕ → List ℕ → Bool
too_large d mults = ltb (d + 1) (multiplicity mults 0) || (ltb (d + 1) (multiplicity mults (length mults - 1)) || inner_too_large d mults)

-- 7, 8, 2, 12: by the number of the poles' places, the degree, and the numbers of knots and multiplicities
unfoldable pub sizes_verdict : ℕ → ℕ → ℕ → ℕ → Verdict
sizes_verdict places d knots mults =
    stop_if (not (eqb (places % 3) 0)) NotTriples
    next stop_if (ltb 1024 (places / 3) || ltb 1050 knots) TooLarge
    next degree_verdict d
    next stop_if (ltb knots 2 || (ltb mults 2 || not (eqb knots mults))) TooFewKnots

-- 13, 14, 6, of n poles
unfoldable pub knots_verdict : ℕ → ℕ → List Float → List ℕ → Verdict
knots_verdict n d knots mults =
    stop_if (not_increasing knots) KnotsNotIncreasing
    next stop_if (too_large d mults) MultiplicityTooLarge
    next stop_if (not (eqb (sum_of mults) (n + d + 1))) PoleCountMismatch

-- 15: a multiplicity is 0, a knot not finite, there are under degree + 1 poles, the range is empty, or the parameter is NaN
abbrev pub no_multiplicity : List ℕ → Bool
no_multiplicity mults = list_any (λ m. eqb m 0) mults

abbrev pub not_finite : List Float → Bool
not_finite knots = list_any (λ x. not (is_finite x)) knots

unfoldable pub not_readable : ℕ → ℕ → List Float → List ℕ → Float → Bool
not_readable n d knots mults u =
    no_multiplicity mults
    || (not_finite knots
    || (ltb n (d + 1)
    || (le (last_parameter (flat_knots knots mults) d) (first_parameter (flat_knots knots mults) d)
    || is_nan u)))

-- the reader's checks, in document 01's order: 7, 8, 2, 12, 13, 14, 6, 15
unfoldable pub reader_verdict : List Float → ℕ → List Float → List ℕ → Float → Verdict
reader_verdict poles d knots mults u =
    sizes_verdict (length poles) d (length knots) (length mults)
    next knots_verdict (length poles / 3) d knots mults
    next stop_if (not_readable (length poles / 3) d knots mults u) NotReadable

-- the answer
abbrev pub Reading : Type 0
Reading = Result Point Refusal

abbrev pub reading_of : Verdict → Point → Reading
reading_of v q = (v next Ok q)

-- document 01's number of a verdict or an answer: 0 where it is no refusal
abbrev pub number_in : {A : Type 0} → Result A Refusal → ℕ
number_in (Ok x) = 0
number_in (Err c) = number_of c

-- what the checks up to 12 give, and those up to 6
pub record Sized (places d knots mults : ℕ) : Type 0 where
  pub triples : places % 3 ≡ 0
  pub few : places / 3 ≤ 1024
  pub short : knots ≤ 1050
  pub low : 1 ≤ d
  pub high : d ≤ 25
  pub two : 2 ≤ knots
  pub pairs : knots ≡ mults

pub record Counted (n d : ℕ) (knots : List Float) (mults : List ℕ) : Type 0 where
  pub rising : not_increasing knots ≡ false
  pub whole : sum_of mults ≡ n + d + 1

-- The contract of `read`. Nothing is lent to be written.
pub record Reads (poles : List Float) (degree : ℕ) (knots : List Float) (mults : List ℕ) (u : Float) (r : Reading) : Type 0 where
  pub answer : r ≡ reading_of (reader_verdict poles degree knots mults u) (curve_point (flat_knots knots mults) degree poles u)
  pub number : number_in r ≡ number_in (reader_verdict poles degree knots mults u)

-- Which knot span holds a parameter. Span s runs from flat knot s to flat knot s + 1. Definitions only.
use Rattle.std.specs.Prelude.{ℕ, zero, suc, ◌+◌, ◌-◌, ◌<◌, Bool, true, cond, not, ◌&&◌, List, ◌≡◌, length, Float}
use Rattle.std.specs.Float.Ieee.{lt, le}
use Rattle.geometry.specs.Doubles.{at}

-- ---- the fit's way: the search goes up, and resumes where the parameter before left it (`BasisRows::at`)

-- the first span s, s + 1, .. that ends above t, but at most n spans on
unfoldable pub span_from : List Float → Float → ℕ → ℕ → ℕ
span_from flat t zero s = s
span_from flat t (suc n) s = let later = span_from flat t n (s + 1) in cond (le (at flat (s + 1)) t) later s

-- from span s to the last one that a curve of degree d has, length - d - 2
abbrev pub span_on : List Float → ℕ → ℕ → Float → ℕ
span_on flat d s t = span_from flat t (length flat - d - 2 - s) s

-- the span from which the search for parameter k starts: the curve's first, d, and then that of the parameter before
unfoldable pub span_before : List Float → ℕ → List Float → ℕ → ℕ
span_before flat d params zero = d
span_before flat d params (suc k) = let s = span_before flat d params k in span_on flat d s (at params k)

-- the span of parameter k
abbrev pub span_at : List Float → ℕ → List Float → ℕ → ℕ
span_at flat d params k = span_before flat d params (k + 1)

-- ---- the reader's way: the parameter is clamped into the range, and its span found by halving (`KnotVector::span`)

-- u moved into the range from a to b, as f64::clamp does
unfoldable pub clamp : Float → Float → Float → Float
clamp u a b = let x = cond (lt u a) a u in cond (lt b x) b x

-- the last of lo + 1, .., lo + n with the property p, and lo where there is none
unfoldable pub last_with : (ℕ → Bool) → ℕ → ℕ → ℕ
last_with p lo zero = lo
last_with p lo (suc n) = let earlier = last_with p lo n in cond (p (lo + suc n)) (lo + suc n) earlier

-- span s begins at or below u; it has a width
abbrev pub begins : List Float → Float → ℕ → Bool
begins flat u s = le (at flat s) u

abbrev pub wide : List Float → ℕ → Bool
wide flat s = not (le (at flat (s + 1)) (at flat s))

-- the range of a curve of degree d: from flat knot d to flat knot length - 1 - d
abbrev pub first_parameter : List Float → ℕ → Float
first_parameter flat d = at flat d

abbrev pub last_parameter : List Float → ℕ → Float
last_parameter flat d = at flat (length flat - 1 - d)

-- The span that holds u: of the spans d to length - d - 2 the last that begins at or below u and has a width.
-- This is what the Rust's halving and stepping back find on knots that never fall, and the reader reads no others.
unfoldable pub span_of : List Float → ℕ → Float → ℕ
span_of flat d u = last_with (λ s. begins flat u s && wide flat s) d (length flat - 1 - d - d - 1)

-- no knot is below the one before it, nor a NaN beside it: what the reader's checks give
abbrev pub NeverFalls : List Float → Type 0
NeverFalls flat = (s : ℕ) → s + 1 < length flat → le (at flat s) (at flat (s + 1)) ≡ true

-- the span that knot i opens holds u, its ends included
pub record InSpan (flat : List Float) (i : ℕ) (u : Float) : Type 0 where
  pub from : le (at flat i) u ≡ true
  pub to : le u (at flat (i + 1)) ≡ true

-- parameters that never fall, in the range of a curve of degree d
pub record InRange (flat : List Float) (d : ℕ) (params : List Float) : Type 0 where
  pub rise : NeverFalls params
  pub from : (k : ℕ) → k < length params → le (first_parameter flat d) (at params k) ≡ true
  pub to : (k : ℕ) → k < length params → le (at params k) (last_parameter flat d) ≡ true

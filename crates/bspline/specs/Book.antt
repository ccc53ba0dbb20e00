-- The NURBS Book's own words for the basis functions (2.5), the span of a parameter (A2.1) and a curve's point (3.1), by the book's indices and each operation rounded once.
-- U are the knots, d the degree, and N_{k,d} is 0 on span s but for k from s - d to s. `proofs/Book` shows that `basis_at`, `span_of`, `span_on` and `curve_point` are these.
use Rattle.std.specs.Prelude.{◌≡◌, true, ◌&&◌, ℕ, zero, suc, ◌+◌, ◌-◌, ◌*◌, ◌≤◌, ◌<◌, cond, List, length, ltb, leb, Ok, Float}
use Rattle.std.specs.Float.Ieee.{lt, le}
use Rattle.geometry.specs.declared.Point.{Point}
use Rattle.geometry.specs.Doubles.{◌⊕◌, ◌⊖◌, ◌⊗◌, ◌⊘◌, nought, one, at, is_finite}
use Rattle.geometry.specs.Points.{point_at, weighted}
use Rattle.bspline.specs.Spans.{wide, clamp, first_parameter, last_parameter}
use Rattle.bspline.specs.Reader.{flat_knots, Reads}

-- ---- 2.5: N k is N_{k,p}(u) on span s, where U[s] <= u < U[s + 1]. The book takes 0 / 0 for 0: a term whose function of degree p is 0 on the span is left out.

-- N k / (U[k + p + 1] - U[k]); the width is added up around u, and its reciprocal is multiplied by
unfoldable pub over : List Float → Float → (ℕ → Float) → ℕ → ℕ → Float
over U u N p k = N k ⊗ (one ⊘ (at U (k + p + 1) ⊖ u ⊕ (u ⊖ at U k)))

-- N_{k,p+1} = (u - U[k]) / (U[k + p + 1] - U[k]) N_{k,p} + (U[k + p + 2] - u) / (U[k + p + 2] - U[k + 1]) N_{k+1,p}
unfoldable pub raised : List Float → Float → ℕ → (ℕ → Float) → ℕ → ℕ → Float
raised U u s N p k =
    let first = (u ⊖ at U k) ⊗ over U u N p k in
    let second = (at U (k + p + 2) ⊖ u) ⊗ over U u N p (k + 1) in
    cond (ltb k s) (cond (leb s (k + p)) first nought ⊕ second) first

-- N_{k,p}(u) for k from s - p to s
unfoldable pub book_basis : List Float → Float → ℕ → ℕ → ℕ → Float
book_basis U u s zero k = one
book_basis U u s (suc p) k = let N = book_basis U u s p in raised U u s N p k

-- the values are N_{s-d,d}(u), .., N_{s,d}(u)
pub record IsBasis (U : List Float) (d s : ℕ) (u : Float) (values : List Float) : Type 0 where
  pub count : length values ≡ d + 1
  pub value : (r : ℕ) → r ≤ d → at values r ≡ book_basis U u s d (s - d + r)

-- ---- A2.1, of a parameter in the range: U[s] <= u < U[s + 1]; at the range's end the last span, if it has a width
pub record IsSpan (U : List Float) (d : ℕ) (u : Float) (s : ℕ) : Type 0 where
  pub low : d ≤ s
  pub high : s + d + 2 ≤ length U
  pub from : le (at U s) u ≡ true
  pub to : lt u (last_parameter U d) ≡ true → lt u (at U (s + 1)) ≡ true
  pub at_end : le (last_parameter U d) u ≡ true → wide U (length U - d - 2) ≡ true → s + d + 2 ≡ length U

-- ---- 3.1: C(u) = N_{0,d}(u) P_0 + .. + N_{n,d}(u) P_n, added up in this order from 0

-- N_{k,d}(u) for every k
unfoldable pub everywhere : List Float → Float → ℕ → ℕ → ℕ → Float
everywhere U u s d k = cond (leb s (k + d) && leb k s) (book_basis U u s d k) nought

-- The curve's point at u by A3.1, which adds up from P_{s-d} to P_s alone; where the poles are finite the others add nothing.
pub record IsPoint (U : List Float) (d : ℕ) (poles : List Float) (u : Float) (q : Point) : Type 0 where
  pub span : ℕ
  pub is_span : IsSpan U d u span
  pub near : q ≡ weighted (d + 1) (λ a. book_basis U u span d (span - d + a)) (λ a. point_at poles (span - d + a))
  pub all : ((k : ℕ) → k < 3 * (length U - d - 1) → is_finite (at poles k) ≡ true) → q ≡ weighted (length U - d - 1) (everywhere U u span d) (point_at poles)

-- of every point that `read` answers: the curve's at the parameter moved into the range
abbrev pub ReadingByTheBook : Type 0
ReadingByTheBook =
    (poles : List Float) (d : ℕ) (knots : List Float) (mults : List ℕ) (u : Float) (q : Point) → Reads poles d knots mults u (Ok q)
    → let U = flat_knots knots mults in IsPoint U d poles (clamp u (first_parameter U d) (last_parameter U d)) q

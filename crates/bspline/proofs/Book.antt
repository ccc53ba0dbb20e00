-- The basis functions are those of The NURBS Book's equation 2.5, the spans those of A2.1, and the points that are read those of 3.1. Assumes nothing.
use mathlib.Core.Path.{◌≡◌, refl, sym, ap, ◌∙◌, subst}
use mathlib.Core.Logic.{◌⊎◌, inl, inr, ⊎_elim}
use mathlib.Core.Bool.{true, false, not, ◌&&◌, true≢false}
use mathlib.Core.List.{List}
use Prim.Native.Nat.{ℕ, zero, suc, ◌+◌, ◌-◌, ◌*◌, ◌≤◌, ◌<◌}
use native.Mathlib.Nat.{eq-or-lt_of_le, le_antisymm}
use native.Mathlib.Omega.{arith}
use lib.Dec.{T, leb}
use lib.Ieee.{Float, nan, lt, le, is_nan}
use lib.ListN.{length}
use borrow.Author.Tests.{lt-ltb, le-ltb, le-leb, lt-leb}
use Rattle.places.proofs.PlaceLaws.{list_of-at, le-or-lt}
use Rattle.std.specs.Prelude.{Ok, Err}
use Rattle.geometry.specs.declared.Point.{Point}
use Rattle.geometry.specs.Doubles.{◌⊖◌, ◌⊗◌, nought, at, is_finite}
use Rattle.geometry.specs.Points.{point_at, weighted}
use Rattle.geometry.proofs.PointLaws.{weighted-same}
use Rattle.bspline.specs.Basis.{share, rising, row, basis, left_of, right_of, basis_at}
use Rattle.bspline.specs.Refusals.{Verdict}
use Rattle.bspline.specs.Reader.{flat_knots, curve_point, reader_verdict, reading_of}
use Rattle.bspline.specs.Book.{over, raised, book_basis, everywhere, IsBasis, IsSpan, IsPoint, ReadingByTheBook}
use Rattle.geometry.proofs.FloatOrder.{lt-or-le, le_left, le_right, le_transitive, le_not_lt, holds, test, fails, refute}
use Rattle.bspline.specs.Spans.{span_on, span_before, span_at, span_of, wide, clamp, first_parameter, last_parameter, NeverFalls, InRange}
use Rattle.bspline.proofs.SpanLaws.{span_fits, span_of_in, span_before-in, span_before-next, begins-down}
use Rattle.bspline.proofs.HoldingLaws.{knots_order, range_order, clamp_holds, span_on_holds, span_of_holds, before_holds}
use Rattle.bspline.proofs.AgreeLaws.{span_from-ends, span_on-agrees}
use Rattle.bspline.proofs.Recurrence.{length-basis_at}
use Rattle.bspline.proofs.CheckLaws.{readable, taken}
use Rattle.bspline.proofs.ZeroLaws.{weighted_within}

-- ---- 2.5

module _ (U : List Float) (u : Float) (i : ℕ) where
  abbrev L : ℕ → Float
  L = left_of U i u

  abbrev R : ℕ → Float
  R = right_of U i u

  over_is : (N M : ℕ → Float) (d r k : ℕ) → d ≤ i → r ≤ d → k ≡ i - d + r → N r ≡ M k → share L R N (d + 1) r ≡ over U u M d k
  unfolding share left_of right_of over
  over_is N M d r k h g e n =
      let a : i + (r + 1) ≡ k + d + 1 = omega arith in
      let b : i + 1 - (d + 1 - r) ≡ k = omega arith in
      rw (n, a, b)

  first_is : (N M : ℕ → Float) (d r k : ℕ) → d ≤ i → r ≤ d → k ≡ i - d + r → N r ≡ M k → rising L R N (d + 1) (suc r) ≡ (u ⊖ at U k) ⊗ over U u M d k
  unfolding rising left_of
  first_is N M d r k h g e n =
      let b : i + 1 - (d + 1 - r) ≡ k = omega arith in
      rw (over_is N M d r k h g e n, b)

  second_is : (N M : ℕ → Float) (d r k : ℕ) → d < i + 1 → r ≤ d → k + 1 ≡ i - d + r → N r ≡ M (k + 1) → R (r + 1) ⊗ share L R N (d + 1) r ≡ (at U (k + d + 2) ⊖ u) ⊗ over U u M d (k + 1)
  unfolding right_of
  second_is N M d r k h g e n =
      let a : i + (r + 1) ≡ k + d + 2 = omega arith in
      rw (over_is N M d r (k + 1) (omega arith) g e n, a)

  -- one degree up
  row_is : (N M : ℕ → Float) (d : ℕ) → d + 1 ≤ i → ((r : ℕ) → r ≤ d → N r ≡ M (i - d + r)) → (r k : ℕ) → r ≤ d + 1 → k ≡ i - (d + 1) + r → row L R N (d + 1) r ≡ raised U u i M d k
  unfolding row raised rising
  row_is N M d h n zero k g e =
      let m : N 0 ≡ M (k + 1) = n 0 (omega arith) ∙ ap M (omega arith) in
      rw (lt-ltb 0 (d + 1) (omega arith), lt-ltb k i (omega arith), lt-leb i (k + d) (omega arith), ← second_is N M d 0 k (omega arith) (omega arith) (omega arith) m)
  row_is N M d h n (suc r) k g e = ⊎_elim last inner (eq-or-lt_of_le g)
    where
      m : N r ≡ M k
      m = n r (omega arith) ∙ ap M (omega arith)

      first : rising L R N (d + 1) (suc r) ≡ (u ⊖ at U k) ⊗ over U u M d k
      first = first_is N M d r k (omega arith) (omega arith) (omega arith) m

      last : suc r ≡ d + 1 → row L R N (d + 1) (suc r) ≡ raised U u i M d k
      last q = rw (le-ltb (suc r) (d + 1) (omega arith), le-ltb k i (omega arith)) first

      inner : suc r < d + 1 → row L R N (d + 1) (suc r) ≡ raised U u i M d k
      inner q =
          let m' : N (suc r) ≡ M (k + 1) = n (suc r) (omega arith) ∙ ap M (omega arith) in
          rw (lt-ltb (suc r) (d + 1) q, lt-ltb k i (omega arith), le-leb i (k + d) (omega arith), ← second_is N M d (suc r) k (omega arith) (omega arith) (omega arith) m', ← first)

  -- the r-th of the d + 1 functions on the span is the book's N_{i-d+r,d}(u)
  is_book : (d r : ℕ) → d ≤ i → r ≤ d → at (basis L R d) r ≡ book_basis U u i d (i - d + r)
  unfolding basis book_basis
  is_book zero zero h g = refl
  is_book zero (suc r) h g = absurd (omega arith)
  is_book (suc d) r h g =
      let two : suc d + 1 ≡ d + 2 = omega arith in
      list_of-at (d + 2) (row L R (at (basis L R d)) (d + 1)) r nan (omega arith)
      ∙ row_is (at (basis L R d)) (book_basis U u i d) d (omega arith) (λ s l. is_book d s (omega arith) l) r (i - suc d + r) (omega arith) (omega arith)

pub is_basis : (U : List Float) (d s : ℕ) (u : Float) → d ≤ s → IsBasis U d s u (basis_at U d s u)
unfolding basis_at
is_basis U d s u h = record { count = length-basis_at U d s u; value = λ r g. is_book U u s d r h g }

-- ---- A2.1

above : (x y : Float) → T (not (is_nan x)) → T (not (is_nan y)) → le x y ≡ false → lt y x ≡ true
above x y p q e = ⊎_elim (λ l. holds (lt y x) l) (λ l. absurd (refute e l)) (lt-or-le x y p q)

module _ (U : List Float) (rising : NeverFalls U) (d : ℕ) (u : Float) (inside : le u (last_parameter U d) ≡ true) where
  -- the fit's search, from a span that begins at or below u
  module _ (s : ℕ) (low : d ≤ s) (high : s + d + 2 ≤ length U) (opens : le (at U s) u ≡ true) where
    abbrev r : ℕ
    r = span_on U d s u

    fits : (d ≤ r) × (r + d + 2 ≤ length U)
    fits = span_fits U u d s r low high refl

    ends : (r + d + 2 ≡ length U) ⊎ (le (at U (r + 1)) u ≡ false)
    ends = ⊎_elim (λ q. inl (omega arith)) (λ q. inr q) (span_from-ends U u (length U - d - 2 - s) s)

    to : lt u (last_parameter U d) ≡ true → lt u (at U (r + 1)) ≡ true
    to h =
        let b = fits in
        let number = le_right (at U r) (at U (r + 1)) (test (rising r (omega arith))) in
        ⊎_elim (λ q. let e : r + 1 ≡ length U - 1 - d = omega arith in ap (λ (k : ℕ). lt u (at U k)) e ∙ h) (above (at U (r + 1)) u number (le_left u (last_parameter U d) (test inside))) ends

    at_end : le (last_parameter U d) u ≡ true → r + d + 2 ≡ length U
    at_end h =
        let b = fits in
        let number = le_left (last_parameter U d) u (test h) in
        let order = knots_order U rising (r + 1) (length U - 1 - d) (omega arith) (omega arith) number in
        ⊎_elim (λ q. q) (λ q. absurd (refute q (test (le_transitive (at U (r + 1)) (last_parameter U d) u order h)))) ends

    pub is_span_on : IsSpan U d u (span_on U d s u)
    is_span_on = record { low = fits.0; high = fits.1; from = (span_on_holds U rising d s u high opens inside).from; to = to; at_end = λ h w. at_end h }

  -- the reader's
  pub is_span_of : 2 * d + 2 ≤ length U → le (first_parameter U d) u ≡ true → IsSpan U d u (span_of U d u)
  is_span_of long opens =
      let b = span_of_in U d u long in
      let on = is_span_on d (omega arith) (omega arith) opens in
      let same : (le (last_parameter U d) u ≡ true → wide U (length U - d - 2) ≡ true) → span_on U d d u ≡ span_of U d u =
      λ end. span_on-agrees U rising d long u end d (omega arith) (omega arith) opens inside in
      record {
        low = b.0;
        high = omega arith;
        from = (span_of_holds U rising d u long opens inside).from;
        to = λ h.
            let before : le (last_parameter U d) u ≡ false = fails _ (λ l. le_not_lt (last_parameter U d) u l (test h)) in
            ap (λ (k : ℕ). lt u (at U (k + 1))) (sym (same (λ l. absurd (true≢false (sym l ∙ before))))) ∙ on.to h;
        at_end = λ h w. ap (λ (k : ℕ). k + d + 2) (sym (same (λ l. w))) ∙ on.at_end h w;
      }

-- a fit's, each from the span of the parameter before
pub is_span_at : (U : List Float) (d : ℕ) (params : List Float) → NeverFalls U → 2 * d + 2 ≤ length U → InRange U d params → (k : ℕ) → k < length params → IsSpan U d (at params k) (span_at U d params k)
is_span_at U d params rising long p k h =
    let b = span_before-in U d params k long in
    rw (span_before-next U d params k) (is_span_on U rising d (at params k) (p.to k h) (span_before U d params k) b.0 b.1 (before_holds U rising d params long p k h))

-- before the range's end only one span is so
pub one_span : (U : List Float) (d : ℕ) (u : Float) → NeverFalls U → lt u (last_parameter U d) ≡ true → (s t : ℕ) → IsSpan U d u s → IsSpan U d u t → s ≡ t
one_span U d u rising inside s t a b = le_antisymm (upto s t a b) (upto t s b a)
  where
    upto : (s t : ℕ) → IsSpan U d u s → IsSpan U d u t → s ≤ t
    upto s t a b =
        let past : t < s → s ≤ t = λ h.
        let high = a.high in
        absurd (le_not_lt (at U (t + 1)) u (test (begins-down U rising u (t + 1) s (omega arith) (omega arith) a.from)) (test (b.to inside))) in
        ⊎_elim (λ l. l) past (le-or-lt s t)

-- ---- 3.1

module _ (U : List Float) (d : ℕ) (poles : List Float) (u : Float) (s : ℕ) (span : IsSpan U d u s) where
  everywhere_zero : (k : ℕ) → (leb s (k + d) && leb k s) ≡ false → everywhere U u s d k ≡ nought
  unfolding everywhere
  everywhere_zero k e = rw e

  everywhere_here : (j : ℕ) → j < d + 1 → everywhere U u s d (s - d + j) ≡ book_basis U u s d (s - d + j)
  unfolding everywhere
  everywhere_here j h = let l = span.low in rw (le-leb s (s - d + j + d) (omega arith), le-leb (s - d + j) s (omega arith))

  all_poles : ((k : ℕ) → k < 3 * (length U - d - 1) → is_finite (at poles k) ≡ true)
      → weighted (length U - d - 1) (everywhere U u s d) (point_at poles) ≡ weighted (d + 1) (λ a. book_basis U u s d (s - d + a)) (λ a. point_at poles (s - d + a))
  unfolding point_at
  all_poles finite =
      let l = span.low in
      let rest = length U - d - 1 - (s + 1) in
      let e : length U - d - 1 ≡ s - d + (d + 1) + rest = omega (arith, l, span.high) in
      ap (λ (n : ℕ). weighted n (everywhere U u s d) (point_at poles)) e
      ∙ weighted_within (everywhere U u s d) (λ a. book_basis U u s d (s - d + a)) (point_at poles) (s - d) (d + 1) rest
      (λ j h. everywhere_zero j (rw (lt-leb s (j + d) (omega arith))))
      everywhere_here
      (λ j h. everywhere_zero (s - d + (d + 1) + j) (rw (le-leb s (s - d + (d + 1) + j + d) (omega arith), lt-leb (s - d + (d + 1) + j) s (omega arith))))
      (λ k h. (finite (3 * k) (omega arith), finite (3 * k + 1) (omega arith), finite (3 * k + 2) (omega arith)))

  -- of what weights the poles by the functions on the span
  pub point_on : (q : Point) → q ≡ weighted (d + 1) (at (basis_at U d s u)) (λ a. point_at poles (s - d + a)) → IsPoint U d poles u q
  point_on q e =
      let b = is_basis U d s u span.low in
      let near = e ∙ weighted-same (d + 1) (at (basis_at U d s u)) (λ a. book_basis U u s d (s - d + a)) (λ a. point_at poles (s - d + a)) (λ a. point_at poles (s - d + a)) (λ a h. b.value a (omega arith)) (λ a h. refl) in
      record { span = s; is_span = span; near = near; all = λ finite. near ∙ sym (all_poles finite) }

pub is_point : (U : List Float) → NeverFalls U → (d : ℕ) → 2 * d + 2 ≤ length U → (poles : List Float) (u : Float) → T (not (is_nan u))
    → IsPoint U d poles (clamp u (first_parameter U d) (last_parameter U d)) (curve_point U d poles u)
unfolding curve_point
is_point U rising d long poles u number =
    let x = clamp u (first_parameter U d) (last_parameter U d) in
    let c = clamp_holds u (first_parameter U d) (last_parameter U d) number (range_order U rising d long) in
    point_on U d poles x (span_of U d x) (is_span_of U rising d x c.1 long c.0) _ refl

pub reading_by_the_book : ReadingByTheBook
reading_by_the_book poles d knots mults u q reads = by_verdict (reader_verdict poles d knots mults u) refl reads.answer
  where
    U : List Float
    U = flat_knots knots mults

    by_verdict : (w : Verdict) → reader_verdict poles d knots mults u ≡ w → Ok q ≡ reading_of w (curve_point U d poles u) → IsPoint U d poles (clamp u (first_parameter U d) (last_parameter U d)) q
    by_verdict (Err c) e f = let z : ◌≡◌ {A = ℕ} 0 1 = cc in absurd (omega arith)
    by_verdict (Ok p) e f =
        let t = taken poles d knots mults u e in
        let number : T (not (is_nan u)) = rw (readable _ d knots mults u t.readable).number tt in
        let is : curve_point U d poles u ≡ q = cc in
        subst (IsPoint U d poles (clamp u (first_parameter U d) (last_parameter U d))) is (is_point U t.falls d t.long poles u number)

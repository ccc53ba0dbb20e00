-- The span that is found for a parameter in the range holds it: by the fit's search and by the reader's. Assumes nothing.
use mathlib.Core.Path.{◌≡◌, refl}
use mathlib.Core.Logic.{inl, inr}
use mathlib.Core.Bool.{Bool, true, false, not, ◌&&◌, cond}
use mathlib.Core.List.{List}
use Prim.Native.Nat.{ℕ, zero, suc, ◌+◌, ◌-◌, ◌*◌, ◌≤◌, ◌<◌}
use native.Mathlib.Nat.{add-zero}
use native.Mathlib.Omega.{arith}
use lib.Dec.{T}
use lib.ListN.{length}
use lib.Ieee.{Float, binary64, lt, le, fits, is_nan}
use lib.Ieee.Fits.{cond-fits}
use Rattle.std.specs.Float.{float_clamp}
use borrow.Author.Tests.{not-false}
use Rattle.geometry.specs.Doubles.{at}
use Rattle.geometry.proofs.FloatOrder.{lt-or-le, le_left, le_right, le_self, le_transitive, above-le, not-above, holds, test, refute}
use Rattle.bspline.specs.Spans.{span_from, span_on, span_before, span_at, clamp, last_with, begins, wide, span_of, first_parameter, last_parameter, NeverFalls, InSpan, InRange}
use Rattle.bspline.proofs.SpanLaws.{begins-down, span_before-next, span_before-in}

-- of two numbers, one that is not below the other is at or above it
not_below : (x y : Float) → T (not (is_nan x)) → T (not (is_nan y)) → lt y x ≡ false → le x y ≡ true
not_below x y p q e = elim (lt-or-le x y p q) [ inl l ↦ absurd (refute e l) | inr l ↦ holds (le x y) l ]

module _ (flat : List Float) (rising : NeverFalls flat) where
  -- a knot before another is a number, and at or below it
  knot_number : (s : ℕ) → s + 1 < length flat → T (not (is_nan (at flat s)))
  knot_number s h = le_left (at flat s) (at flat (s + 1)) (test (rising s h))

  pub knots_order : (s k : ℕ) → s ≤ k → k < length flat → T (not (is_nan (at flat k))) → le (at flat s) (at flat k) ≡ true
  knots_order s k h l n = begins-down flat rising (at flat k) s k h l (holds (le (at flat k) (at flat k)) (le_self (at flat k) n))

  -- the ends of the range are in order
  pub range_order : (d : ℕ) → 2 * d + 2 ≤ length flat → le (first_parameter flat d) (last_parameter flat d) ≡ true
  range_order d h =
      let end = length flat - 1 - d in
      let next : end - 1 + 1 ≡ end = omega arith in
      begins-down flat rising (at flat end) d (end - 1) (omega arith) (omega arith) (rw next at (rising (end - 1) (omega arith)))

  -- ---- the fit's search, from span s on
  span_from_holds : (t : Float) (n s : ℕ) → s + n + 1 < length flat → le (at flat s) t ≡ true → le t (at flat (s + n + 1)) ≡ true → InSpan flat (span_from flat t n s) t
  unfolding span_from
  span_from_holds t zero s h a b = record { from = a; to = rw add-zero at b }
  span_from_holds t (suc n) s h a b =
      let e : s + suc n + 1 ≡ s + 1 + n + 1 = omega arith in
      pick (le (at flat (s + 1)) t) refl (λ l. span_from_holds t n (s + 1) (omega arith) l (rw e at b))
    where
      pick : (c : Bool) → le (at flat (s + 1)) t ≡ c → (le (at flat (s + 1)) t ≡ true → InSpan flat (span_from flat t n (s + 1)) t)
          → InSpan flat (cond c (span_from flat t n (s + 1)) s) t
      pick true l later = later l
      pick false l later = record { from = a; to = above-le t (at flat (s + 1)) (le_right (at flat s) t (test a)) (knot_number (s + 1) (omega arith)) l }

  pub span_on_holds : (d s : ℕ) (t : Float) → s + d + 2 ≤ length flat → le (at flat s) t ≡ true → le t (last_parameter flat d) ≡ true → InSpan flat (span_on flat d s t) t
  span_on_holds d s t h a b =
      let e : length flat - 1 - d ≡ s + (length flat - d - 2 - s) + 1 = omega arith in
      span_from_holds t (length flat - d - 2 - s) s (omega arith) a (rw e at b)

  -- ---- the reader's search: the last span that begins at or below u and has a width
  last_with_holds : (u : Float) (lo n : ℕ) → lo + n + 1 < length flat → le (at flat lo) u ≡ true → le u (at flat (lo + n + 1)) ≡ true
      → InSpan flat (last_with (λ s. begins flat u s && wide flat s) lo n) u
  unfolding last_with
  last_with_holds u lo zero h a b = record { from = a; to = rw add-zero at b }
  last_with_holds u lo (suc n) h a b =
      let e : lo + suc n ≡ lo + n + 1 = omega arith in
      pick (begins flat u (lo + suc n)) (wide flat (lo + suc n)) refl refl (λ l. last_with_holds u lo n (omega arith) a (rw e at l))
    where
      pick : (p q : Bool) → begins flat u (lo + suc n) ≡ p → wide flat (lo + suc n) ≡ q
          → (le u (at flat (lo + suc n)) ≡ true → InSpan flat (last_with (λ s. begins flat u s && wide flat s) lo n) u)
          → InSpan flat (cond (p && q) (lo + suc n) (last_with (λ s. begins flat u s && wide flat s) lo n)) u
      pick true true l w earlier = record { from = l; to = b }
      pick true false l w earlier = earlier (le_transitive u (at flat (lo + suc n + 1)) (at flat (lo + suc n)) b (not-false _ w))
      pick false q l w earlier = earlier (above-le u (at flat (lo + suc n)) (le_right (at flat lo) u (test a)) (knot_number (lo + suc n) (omega arith)) l)

  pub span_of_holds : (d : ℕ) (u : Float) → 2 * d + 2 ≤ length flat → le (first_parameter flat d) u ≡ true → le u (last_parameter flat d) ≡ true → InSpan flat (span_of flat d u) u
  unfolding span_of
  span_of_holds d u h a b =
      let e : length flat - 1 - d ≡ d + (length flat - 1 - d - d - 1) + 1 = omega arith in
      last_with_holds u d (length flat - 1 - d - d - 1) (omega arith) a (rw e at b)

  -- ---- a table's searches, each from the span of the parameter before
  module _ (d : ℕ) (params : List Float) (h : 2 * d + 2 ≤ length flat) (p : InRange flat d params) where
    pub before_holds : (k : ℕ) → k < length params → le (at flat (span_before flat d params k)) (at params k) ≡ true
    unfolding span_before
    before_holds zero l = p.from 0 l
    before_holds (suc k) l =
        let s = span_before flat d params k in
        let e : k + 1 ≡ suc k = omega arith in
        let held = span_on_holds d s (at params k) (span_before-in flat d params k h).1 (before_holds k (omega arith)) (p.to k (omega arith)) in
        le_transitive (at flat (span_on flat d s (at params k))) (at params k) (at params (suc k)) held.from (rw e at (p.rise k (omega arith)))

    pub span_at_holds : (k : ℕ) → k < length params → InSpan flat (span_at flat d params k) (at params k)
    span_at_holds k l =
        rw (span_before-next flat d params k)
        (span_on_holds d (span_before flat d params k) (at params k) (span_before-in flat d params k h).1 (before_holds k l) (p.to k l))

-- ---- a parameter moved into the range from a to b lies in it, and one that is there stays

-- as the library's `clamp` has it
pub clamp_is : (u a b : Float) → le a b ≡ true → float_clamp u a b ≡ clamp u a b
unfolding clamp
clamp_is u a b h = go (lt u a)
  where
    go : (s : Bool) → cond s a (cond (lt b u) b u) ≡ cond (lt b (cond s a u)) b (cond s a u)
    go true = rw (not-above a b h)
    go false = refl

pub clamp-inside : (u a b : Float) → le a u ≡ true → le u b ≡ true → clamp u a b ≡ u
unfolding clamp
clamp-inside u a b h k = rw (not-above a u h, not-above u b k)

pub clamp_holds : (u a b : Float) → T (not (is_nan u)) → le a b ≡ true → (le a (clamp u a b) ≡ true) × (le (clamp u a b) b ≡ true)
unfolding clamp
clamp_holds u a b p h = go (lt u a) refl (lt b (cond (lt u a) a u)) refl
  where
    na : T (not (is_nan a))
    na = le_left a b (test h)

    nb : T (not (is_nan b))
    nb = le_right a b (test h)

    go : (s : Bool) → lt u a ≡ s → (t : Bool) → lt b (cond s a u) ≡ t → (le a (cond t b (cond s a u)) ≡ true) × (le (cond t b (cond s a u)) b ≡ true)
    go s e true f = (h, holds (le b b) (le_self b nb))
    go true e false f = (holds (le a a) (le_self a na), h)
    go false e false f = (not_below a u na p e, not_below u b p nb f)

pub clamp-fits : (u a b : Float) → T (fits binary64 u) → T (fits binary64 a) → T (fits binary64 b) → T (fits binary64 (clamp u a b))
unfolding clamp
clamp-fits u a b p q r = cond-fits binary64 (lt b (cond (lt u a) a u)) b (cond (lt u a) a u) r (cond-fits binary64 (lt u a) a u q p)

-- The fit's search and the reader's find the same span, on knots that never fall: the first begins at or below the parameter and is the last or ends above it, so it has a
-- width and none after it begins at or below the parameter. At the range's end this needs that the last span has a width. Assumes nothing.
use mathlib.Core.Path.{◌≡◌, refl, sym, ap, ◌∙◌}
use mathlib.Core.Logic.{◌⊎◌, inl, inr, ⊎_elim}
use mathlib.Core.Bool.{Bool, true, false, cond, not, ◌&&◌, true≢false}
use mathlib.Core.List.{List}
use Prim.Native.Nat.{ℕ, zero, suc, ◌+◌, ◌-◌, ◌*◌, ◌≤◌, ◌<◌}
use native.Mathlib.Omega.{arith}
use lib.Ieee.{Float, le}
use lib.ListN.{length}
use Rattle.geometry.specs.Doubles.{at}
use Rattle.geometry.proofs.FloatOrder.{le_transitive}
use Rattle.bspline.specs.Spans.{span_from, span_on, span_before, span_at, last_with, begins, wide, span_of, last_parameter, NeverFalls, InRange}
use Rattle.bspline.proofs.SpanLaws.{span_from_in, span_before-next, span_before-in, last_with-none, last_with_here, last_with_cut, begins-down}
use Rattle.bspline.proofs.HoldingLaws.{span_on_holds, before_holds}

-- the fit's search stops at its limit, or at a span that ends above u
pub span_from-ends : (flat : List Float) (u : Float) (m s : ℕ) → (span_from flat u m s ≡ s + m) ⊎ (le (at flat (span_from flat u m s + 1)) u ≡ false)
unfolding span_from
span_from-ends flat u zero s = inl (omega arith)
span_from-ends flat u (suc m) s = pick (le (at flat (s + 1)) u) refl (span_from-ends flat u m (s + 1))
  where
    pick : (b : Bool) → le (at flat (s + 1)) u ≡ b → (span_from flat u m (s + 1) ≡ s + 1 + m) ⊎ (le (at flat (span_from flat u m (s + 1) + 1)) u ≡ false)
        → (cond b (span_from flat u m (s + 1)) s ≡ s + suc m) ⊎ (le (at flat (cond b (span_from flat u m (s + 1)) s + 1)) u ≡ false)
    pick true f later = ⊎_elim (λ e. inl (omega arith)) (λ e. inr e) later
    pick false f later = inr f

module _ (flat : List Float) (rising : NeverFalls flat) (d : ℕ) (long : 2 * d + 2 ≤ length flat) where
  module _ (u : Float) (end : le (last_parameter flat d) u ≡ true → wide flat (length flat - d - 2) ≡ true) where
    module _ (r : ℕ) (low : d ≤ r) (up : r + d + 2 ≤ length flat) (opens : begins flat u r ≡ true) (ends : (r + d + 2 ≡ length flat) ⊎ (le (at flat (r + 1)) u ≡ false)) where
      has_width : wide flat r ≡ true
      has_width = pick (le (at flat (r + 1)) u) refl
        where
          thin : (b : Bool) → le (at flat (r + 1)) (at flat r) ≡ b → le (at flat (r + 1)) u ≡ false → not b ≡ true
          thin true e f = absurd (true≢false (sym (le_transitive (at flat (r + 1)) (at flat r) u e opens) ∙ f))
          thin false e f = refl

          at_end : le (at flat (r + 1)) u ≡ true → r + d + 2 ≡ length flat → wide flat r ≡ true
          at_end f q =
              let x : length flat - 1 - d ≡ r + 1 = omega arith in
              let y : length flat - d - 2 ≡ r = omega arith in
              ap (wide flat) (sym y) ∙ end (ap (λ (i : ℕ). le (at flat i) u) x ∙ f)

          pick : (b : Bool) → le (at flat (r + 1)) u ≡ b → wide flat r ≡ true
          pick false f = thin (le (at flat (r + 1)) (at flat r)) refl f
          pick true f = ⊎_elim (at_end f) (λ g. absurd (true≢false (sym f ∙ g))) ends

      none_after : (t : ℕ) → r < t → t + d + 2 ≤ length flat → begins flat u t && wide flat t ≡ false
      none_after t h l = pick (begins flat u t) refl
        where
          pick : (b : Bool) → begins flat u t ≡ b → b && wide flat t ≡ false
          pick false e = refl
          pick true e = ⊎_elim (λ q. absurd (omega arith)) (λ f. absurd (true≢false (sym (begins-down flat rising u (r + 1) t (omega arith) (omega arith) e) ∙ f))) ends

      is_span : r ≡ span_of flat d u
      unfolding span_of
      is_span =
          let n = length flat - 1 - d - d - 1 in
          let m = r - d in
          let a : n ≡ m + (n - m) = omega (arith, long) in
          let b : d + m ≡ r = omega arith in
          sym (last_with_cut (λ s. begins flat u s && wide flat s) d n m (n - m) a (λ t h l. none_after t (omega arith) (omega (arith, long))) ∙ here m b)
        where
          here : (m : ℕ) → d + m ≡ r → last_with (λ s. begins flat u s && wide flat s) d m ≡ r
          here zero b = last_with-none (λ s. begins flat u s && wide flat s) d zero refl ∙ omega arith
          here (suc m) b = last_with_here (λ s. begins flat u s && wide flat s) d (suc m) r (omega arith) (sym b) (rw (opens, has_width))

    -- from any span that begins at or below u
    pub span_on-agrees : (s : ℕ) → d ≤ s → s + d + 2 ≤ length flat → le (at flat s) u ≡ true → le u (last_parameter flat d) ≡ true → span_on flat d s u ≡ span_of flat d u
    span_on-agrees s low up a b =
        let m = length flat - d - 2 - s in
        let i = span_from_in flat u m s in
        is_span (span_on flat d s u) (omega arith) (omega arith) (span_on_holds flat rising d s u up a b).from (⊎_elim (λ q. inl (omega arith)) (λ q. inr q) (span_from-ends flat u m s))

  -- a table's searches, each from the span of the parameter before
  pub spans_agree : (params : List Float) → InRange flat d params → (k : ℕ) → k < length params
      → (le (last_parameter flat d) (at params k) ≡ true → wide flat (length flat - d - 2) ≡ true) → span_at flat d params k ≡ span_of flat d (at params k)
  spans_agree params p k h end =
      let b = span_before-in flat d params k long in
      span_before-next flat d params k ∙ span_on-agrees (at params k) end (span_before flat d params k) b.0 b.1 (before_holds flat rising d params long p k h) (p.to k h)

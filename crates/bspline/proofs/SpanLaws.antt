-- Laws of the search for a span, the fit's and the reader's. Assumes nothing.
use Prim.Native.Nat.{ℕ, zero, suc, ◌+◌, ◌-◌, ◌*◌, ◌≤◌, ◌<◌}
use native.Mathlib.Omega.{arith}
use native.Mathlib.Numerals.{add-one}
use native.Mathlib.Nat.{add-zero, add-suc}
use mathlib.Core.Path.{◌≡◌, refl, sym, ap, ◌∙◌}
use mathlib.Core.Bool.{Bool, true, false, cond, ◌&&◌}
use mathlib.Core.List.{List}
use lib.Ieee.{Float, nan, le}
use lib.ListN.{length, take, drop}
use lib.Seq.{drop-cons}
use Rattle.std.specs.List.{prefix_len}
use Rattle.geometry.specs.Doubles.{at}
use Rattle.geometry.proofs.FloatOrder.{le_transitive}
use Rattle.bspline.specs.Spans.{span_from, span_on, span_before, last_with, begins, wide, NeverFalls, span_of}

module _ (flat : List Float) (t : Float) where
  -- as many spans on as the knots after s that are at or below t, up to the first that is not
  pub span_from_is : (n s : ℕ) → s + 1 + n ≤ length flat → s + prefix_len (λ x. le x t) (take n (drop (s + 1) flat)) ≡ span_from flat t n s
  unfolding span_from
  span_from_is zero s h = omega arith
  span_from_is (suc n) s h =
      let next : suc (s + 1) ≡ s + 1 + 1 = omega arith in
      rw (drop-cons flat (s + 1) nan (omega arith), next) (pick (le (at flat (s + 1)) t) _ _ (span_from_is n (s + 1) (omega arith)))
    where
      pick : (b : Bool) (k r : ℕ) → s + 1 + k ≡ r → s + cond b (1 + k) 0 ≡ cond b r s
      pick true k r e = omega arith
      pick false k r e = omega arith

  -- between where it starts and its limit
  pub span_from_in : (n s : ℕ) → (s ≤ span_from flat t n s) × (span_from flat t n s ≤ s + n)
  unfolding span_from
  span_from_in zero s = (omega arith, omega arith)
  span_from_in (suc n) s = pick (le (at flat (s + 1)) t) (span_from_in n (s + 1))
    where
      pick : (b : Bool) → (s + 1 ≤ span_from flat t n (s + 1)) × (span_from flat t n (s + 1) ≤ s + 1 + n)
          → (s ≤ cond b (span_from flat t n (s + 1)) s) × (cond b (span_from flat t n (s + 1)) s ≤ s + suc n)
      pick true h = (omega arith, omega arith)
      pick false h = (omega arith, omega arith)

-- the span that a search finds is one from which the next can start
pub span_fits : (flat : List Float) (t : Float) (d s r : ℕ) → d ≤ s → s + d + 2 ≤ length flat → r ≡ span_on flat d s t → (d ≤ r) × (r + d + 2 ≤ length flat)
span_fits flat t d s r low up e =
    let b = span_from_in flat t (length flat - d - 2 - s) s in
    (omega arith, omega arith)

pub span_before-next : (flat : List Float) (d : ℕ) (params : List Float) (k : ℕ) → span_before flat d params (k + 1) ≡ span_on flat d (span_before flat d params k) (at params k)
unfolding span_before
span_before-next flat d params k = rw add-one

-- the span at which the search stands has d knots on either side
pub span_before-in : (flat : List Float) (d : ℕ) (params : List Float) (k : ℕ) → 2 * d + 2 ≤ length flat → (d ≤ span_before flat d params k) × (span_before flat d params k + d + 2 ≤ length flat)
unfolding span_before
span_before-in flat d params zero h = (omega arith, omega arith)
span_before-in flat d params (suc k) h =
    let b = span_before-in flat d params k h in
    span_fits flat (at params k) d (span_before flat d params k) _ b.0 b.1 refl

-- ---- the reader's search: the last span with a property

module _ (p : ℕ → Bool) (lo : ℕ) where
  pub last_with-none : (n : ℕ) → n ≡ 0 → last_with p lo n ≡ lo
  unfolding last_with
  last_with-none n e = rw e

  -- the last one has the property; it has not; and none beyond m has
  pub last_with_here : (n s : ℕ) → 1 ≤ n → s ≡ lo + n → p s ≡ true → last_with p lo n ≡ s
  unfolding last_with
  last_with_here zero s h q e = absurd (omega arith)
  last_with_here (suc n) s h q e = rw (← q, e)

  pub last_with-back : (n m s : ℕ) → n ≡ m + 1 → s ≡ lo + n → p s ≡ false → last_with p lo n ≡ last_with p lo m
  unfolding last_with
  last_with-back n m s q r e =
      let f : p (lo + suc m) ≡ false = rw (← add-one m, ← q, ← r) e in
      rw (q, add-one m, f)

  cut : (k m : ℕ) → ((s : ℕ) → lo + m < s → s ≤ lo + m + k → p s ≡ false) → last_with p lo (m + k) ≡ last_with p lo m
  unfolding last_with
  cut zero m none = rw add-zero
  cut (suc k) m none =
      let here : p (lo + suc (m + k)) ≡ false = none (lo + suc (m + k)) (omega arith) (omega arith) in
      rw (add-suc m k, here) (cut k m (λ s a b. none s a (omega arith)))

  pub last_with_cut : (n m k : ℕ) → n ≡ m + k → ((s : ℕ) → lo + m < s → s ≤ lo + n → p s ≡ false) → last_with p lo n ≡ last_with p lo m
  last_with_cut n m k q none = rw q (cut k m (λ s a b. none s a (omega arith)))

  -- the place at which those with the property end
  pub last_with-point : (m n : ℕ) → n ≤ m → ((s : ℕ) → lo < s → s ≤ lo + n → p s ≡ true) → ((s : ℕ) → lo + n < s → s ≤ lo + m → p s ≡ false) → last_with p lo m ≡ lo + n
  last_with-point m n h with_p none = last_with_cut m n (m - n) (omega arith) none ∙ at_end n with_p
    where
      at_end : (n : ℕ) → ((s : ℕ) → lo < s → s ≤ lo + n → p s ≡ true) → last_with p lo n ≡ lo + n
      at_end zero with_p = last_with-none zero refl ∙ omega arith
      at_end (suc n) with_p = last_with_here (suc n) (lo + suc n) (omega arith) refl (with_p (lo + suc n) (omega arith) (omega arith))

  pub last_with_in : (n : ℕ) → (lo ≤ last_with p lo n) × (last_with p lo n ≤ lo + n)
  unfolding last_with
  last_with_in zero = (omega arith, omega arith)
  last_with_in (suc n) = pick (p (lo + suc n)) (last_with_in n)
    where
      pick : (b : Bool) → (lo ≤ last_with p lo n) × (last_with p lo n ≤ lo + n)
          → (lo ≤ cond b (lo + suc n) (last_with p lo n)) × (cond b (lo + suc n) (last_with p lo n) ≤ lo + suc n)
      pick true h = (omega arith, omega arith)
      pick false h = (omega arith, omega arith)

-- Two searches, one after the other, are one, where p holds up to the place that it finds.
module _ (p q : ℕ → Bool) (lo : ℕ) where
  -- below a place up to which p holds, only q decides
  pub last_with_q : (n : ℕ) → ((s : ℕ) → lo < s → s ≤ lo + n → p s ≡ true) → last_with (λ s. p s && q s) lo n ≡ last_with q lo n
  unfolding last_with
  last_with_q zero h = refl
  last_with_q (suc n) h =
      rw (h (lo + suc n) (omega arith) (omega arith), last_with_q n (λ s a b. h s a (omega arith)))

  pub last_with-two : (n : ℕ) → ((s k : ℕ) → s ≤ k → k ≤ lo + n → p k ≡ true → p s ≡ true)
      → last_with q lo (last_with p lo n - lo) ≡ last_with (λ s. p s && q s) lo n
  unfolding last_with
  last_with-two zero closed = last_with-none q lo (lo - lo) (omega arith)
  last_with-two (suc n) closed =
      pick (p (lo + suc n)) refl (last_with-two n (λ s k a b. closed s k a (omega arith)))
    where
      pick : (b : Bool) → p (lo + suc n) ≡ b → last_with q lo (last_with p lo n - lo) ≡ last_with (λ s. p s && q s) lo n
          → last_with q lo (last_with p lo (suc n) - lo) ≡ last_with (λ s. p s && q s) lo (suc n)
      pick true e ih =
          let back : lo + suc n - lo ≡ suc n = omega arith in
          ap (λ m. last_with q lo (m - lo)) (last_with_here p lo (suc n) (lo + suc n) (omega arith) refl e)
          ∙ ap (last_with q lo) back ∙ sym (last_with_q (suc n) (λ s a b. closed s (lo + suc n) b (omega arith) e))
      pick false e ih = rw e ih

-- ---- where no knot is below the one before it, the spans that begin at or below u stand first

module _ (flat : List Float) (rising : NeverFalls flat) (u : Float) where
  down_from : (d s : ℕ) → s + d < length flat → le (at flat (s + d)) u ≡ true → le (at flat s) u ≡ true
  down_from zero s h e = rw add-zero at e
  down_from (suc d) s h e =
      let place : s + suc d ≡ s + d + 1 = omega arith in
      down_from d s (omega arith) (le_transitive (at flat (s + d)) (at flat (s + d + 1)) u (rising (s + d) (omega arith)) (rw place at e))

  pub begins-down : (s k : ℕ) → s ≤ k → k < length flat → begins flat u k ≡ true → begins flat u s ≡ true
  begins-down s k h l e =
      let place : k ≡ s + (k - s) = omega arith in
      down_from (k - s) s (omega arith) (rw place at e)

-- the span lies among those that have d knots on either side
pub span_of_in : (flat : List Float) (d : ℕ) (u : Float) → 2 * d + 2 ≤ length flat → (d ≤ span_of flat d u) × (span_of flat d u + d + 1 < length flat)
unfolding span_of
span_of_in flat d u h =
    let b = last_with_in (λ s. begins flat u s && wide flat s) d (length flat - 1 - d - d - 1) in
    (omega arith, omega arith)

-- Flat knots come back from the distinct knots and multiplicities that are handed out, where the reader takes these. Assumes nothing.
use mathlib.Core.Path.{◌≡◌, refl, sym, ap, ◌∙◌, subst}
use mathlib.Core.Logic.{⊎_elim}
use mathlib.Core.Bool.{Bool, true, false, not, true≢false}
use mathlib.Core.List.{List}
use Prim.Native.Nat.{ℕ, zero, suc, ◌+◌, ◌-◌, ◌*◌, ◌<◌, ◌≤◌}
use native.Mathlib.Numerals.{add-one}
use native.Mathlib.Omega.{arith}
use lib.Dec.{T}
use lib.ListN.{length}
use lib.Ieee.{Float, lt, le, eq, is_nan, of_bits}
use Rattle.places.specs.Places.{list_of}
use Rattle.geometry.specs.Doubles.{nought, one, at}
use Rattle.geometry.proofs.ExactLaws.{equal_same}
use Rattle.geometry.proofs.FloatOrder.{holds, test, lt-or-le, lt-le, le_lt_trans, le_self, le_transitive, refute}
use Rattle.bspline.specs.Spans.{wide, NeverFalls}
use Rattle.bspline.specs.Reader.{flat_knots}
use Rattle.bspline.proofs.SpanLaws.{begins-down}
use Rattle.knots.specs.Knots.{run_length, run_start, distinct_knots, knot_at, multiplicity_at}
use Rattle.knots.proofs.CompressedLaws.{same_runs, read_back}
use Rattle.knots.proofs.KnotLaws.{Ends}
use Rattle.knots.proofs.RunLaws.{run-least, start-more, run_equal, runs_end, run_from}

-- ---- knots that the reader takes: the first d + 1 flat knots are 0 and the last d + 1 are 1, distinct knots rise, and neither end stands more than d + 1 times

module _ (flat : List Float) (d : ℕ) (ends : Ends d flat)
    (number : (k : ℕ) → k < distinct_knots flat → T (not (is_nan (knot_at flat k))))
    (rises : (k : ℕ) → k + 1 < distinct_knots flat → le (knot_at flat (k + 1)) (knot_at flat k) ≡ false)
    (two : 2 ≤ distinct_knots flat) (at_first : multiplicity_at flat 0 ≤ d + 1) (at_last : multiplicity_at flat (distinct_knots flat - 1) ≤ d + 1) where
  above : (k : ℕ) → k + 1 < distinct_knots flat → T (lt nought (knot_at flat (k + 1)))
  unfolding knot_at run_start is_nan of_bits
  above k h = next k h (lower k h)
    where
      next : (k : ℕ) → k + 1 < distinct_knots flat → T (le nought (knot_at flat k)) → T (lt nought (knot_at flat (k + 1)))
      next k h l =
          ⊎_elim (λ (g : T (lt (knot_at flat k) (knot_at flat (k + 1)))). le_lt_trans nought (knot_at flat k) (knot_at flat (k + 1)) l g) (λ g. absurd (refute (rises k h) g))
          (lt-or-le (knot_at flat (k + 1)) (knot_at flat k) (number (k + 1) h) (number k (omega arith)))

      lower : (k : ℕ) → k + 1 < distinct_knots flat → T (le nought (knot_at flat k))
      lower zero h = subst (λ (x : Float). T (le nought x)) (sym (ends.first 0 (omega arith))) (le_self nought tt)
      lower (suc k) h = let e : k + 1 ≡ suc k = add-one k in lt-le nought (knot_at flat (suc k)) (subst (λ (j : ℕ). T (lt nought (knot_at flat j))) e (next k (omega arith) (lower k (omega arith))))

  run-same : (j : ℕ) → j < distinct_knots flat → (r : ℕ) → r < run_length flat (run_start flat j) → at flat (run_start flat j + r) ≡ at flat (run_start flat j)
  unfolding run_start multiplicity_at knot_at
  run-same zero h r l =
      let e : 0 + r ≡ r = omega arith in
      ap (at flat) e ∙ ends.first r (omega arith) ∙ sym (ends.first 0 (omega arith))
  run-same (suc j) h r l =
      ⊎_elim (λ (z : r ≡ 0). let e : run_start flat (suc j) + r ≡ run_start flat (suc j) = omega arith in ap (at flat) e)
      (λ (e : eq (at flat (run_start flat (suc j))) (at flat (run_start flat (suc j) + r)) ≡ true).
      sym (equal_same (at flat (run_start flat (suc j))) (at flat (run_start flat (suc j) + r)) (subst (λ (k : ℕ). T (lt nought (knot_at flat k))) (add-one j) (above j (omega arith))) (ends.held _) (ends.held _) (test e)))
      (run_equal flat (run_start flat (suc j)) r l)

  pub same-flat : flat_knots (list_of (distinct_knots flat) (knot_at flat)) (list_of (distinct_knots flat) (multiplicity_at flat)) ≡ flat
  same-flat = read_back flat (distinct_knots flat) (knot_at flat) (multiplicity_at flat) (same_runs flat run-same)

  -- the first run starts the list and is of zeros, the last ends it and is of ones
  abbrev s : ℕ
  s = run_start flat (distinct_knots flat - 1)

  whole : s + run_length flat s ≡ length flat
  whole = let n : distinct_knots flat - 1 + 1 ≡ distinct_knots flat = omega (arith, two) in sym (start-more flat (distinct_knots flat - 1)) ∙ ap (run_start flat) n ∙ runs_end flat

  far : length flat ≤ s + d + 1
  unfolding multiplicity_at
  far = omega (arith, whole, at_last)

  pub first-knot : knot_at flat 0 ≡ nought
  unfolding knot_at run_start
  first-knot = ends.first 0 (omega arith)

  pub last-knot : knot_at flat (distinct_knots flat - 1) ≡ one
  unfolding knot_at
  last-knot = ends.last s far (omega (arith, whole, run-least flat s))

  -- so the last span has a width
  pub last-wide : 2 * d + 2 ≤ length flat → NeverFalls flat → wide flat (length flat - d - 2) ≡ true
  unfolding knot_at
  last-wide long falls = pick (le (at flat (i + 1)) (at flat i)) refl
    where
      i : ℕ
      i = length flat - d - 2

      b : ℕ
      b = run_start flat (distinct_knots flat - 2)

      n : distinct_knots flat - 2 + 1 ≡ distinct_knots flat - 1
      n = omega (arith, two)

      joins : s ≡ b + run_length flat b
      joins = sym (ap (run_start flat) n) ∙ start-more flat (distinct_knots flat - 2)

      -- the value before the last run is that of the run before
      value : at flat (s - 1) ≡ at flat b
      value =
          let some = run-least flat b in
          let before : b + (run_length flat b - 1) ≡ s - 1 = omega (arith, joins, some) in
          ap (at flat) (sym before) ∙ run-same (distinct_knots flat - 2) (omega (arith, two)) (run_length flat b - 1) (omega (arith, some))

      -- a last span without a width would have the last knot at or below the one before
      thin : le (at flat (i + 1)) (at flat i) ≡ true → le (at flat s) (at flat b) ≡ true
      thin e =
          let most = run-least flat s in
          let at_s : at flat s ≡ one = ends.last s far (omega (arith, whole, most)) in
          let at_i : at flat (i + 1) ≡ one = ends.last (i + 1) (omega (arith, long)) (omega (arith, long)) in
          let up : le (at flat i) (at flat (s - 1)) ≡ true =
          begins-down flat falls (at flat (s - 1)) i (s - 1) (omega (arith, far, long)) (omega (arith, whole, most))
          (holds _ (le_self (at flat (s - 1)) (subst (λ (x : Float). T (not (is_nan x))) (sym value) (number (distinct_knots flat - 2) (omega (arith, two)))))) in
          rw (at_s, ← value, ← at_i) (le_transitive (at flat (i + 1)) (at flat i) (at flat (s - 1)) e up)

      pick : (w : Bool) → le (at flat (i + 1)) (at flat i) ≡ w → not w ≡ true
      pick false e = refl
      pick true e = absurd (true≢false (sym (thin e) ∙ ap (λ (k : ℕ). le (at flat (run_start flat k)) (at flat b)) (sym n) ∙ rises (distinct_knots flat - 2) (omega (arith, two))))

  -- and the first knot stands d + 1 times
  pub first-mult : 2 * d + 2 ≤ length flat → multiplicity_at flat 0 ≡ d + 1
  unfolding multiplicity_at run_start eq of_bits
  first-mult long =
      let least = run_from flat d (omega arith) (λ r l. rw (ends.first 0 (omega arith), ends.first r l) refl) in
      omega (arith, least, at_first)

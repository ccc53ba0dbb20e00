-- The parameters of a ladder and of a grid are those of the textbook, one by one. Assumes nothing.
use mathlib.Core.Path.{◌≡◌, refl, sym, ◌∙◌, ap}
use mathlib.Core.Bool.{Bool, true, false, cond, not}
use mathlib.Core.List.{List, ◌∷◌}
use mathlib.Core.Option.{none, some}
use Prim.Native.Nat.{ℕ, zero, suc, ◌+◌, ◌-◌, ◌<◌, ◌≤◌}
use native.Mathlib.Nat.{ne_of_lt, ne_of_gt}
use native.Mathlib.Numerals.{add-one}
use native.Mathlib.Omega.{arith}
use borrow.Author.Tests.{ne_eqb, eqb-false}
use lib.Dec.{eqb}
use lib.ListN.{length, get_or-replicate}
use lib.Ieee.{Float, nan, le}
use Rattle.places.specs.Places.{list_of, count_below}
use Rattle.places.proofs.PlaceLaws.{list_of-at, some_false, or_false}
use Rattle.geometry.specs.declared.Point.{Point}
use Rattle.geometry.specs.Doubles.{◌⊕◌, ◌⊗◌, ◌⊘◌, nought, one, at, sum_below, sum_over}
use Rattle.geometry.proofs.PointLaws.{sum_same}
use Rattle.knots.specs.declared.Metric.{Metric}
use Rattle.knots.specs.declared.Spacing.{Spacing}
use Rattle.knots.specs.declared.Spacing.TheVariants.{Chordal, Centripetal}
use Rattle.knots.specs.Parameters.{confusion, chords, step_of, step_sums, from_zero_to_one, point_parameters, Lines, add_line, added_lines, shared_parameters}
use Rattle.knots.specs.Textbook.{chord, along_by, along, part_along, IsSpaced, counts, AreAverages}
use Rattle.knots.proofs.ParameterLaws.{sum_to, sum-none, sum_more, sums_at, length-zero_to-one, zero_to-one-ends}
use Rattle.knots.proofs.SharedLaws.{added-none, added_more}

-- ---- one line

chord-at : (v : Metric) (n : ℕ) (point : ℕ → Point) (k : ℕ) → k < n - 1 → at (chords v.factor n point) k ≡ chord v point k
unfolding chords
chord-at v n point k h = list_of-at (n - 1) (chord v point) k nan h

summed : (f : ℕ → Float) (k : ℕ) → sum_to f k ≡ sum_below k f
unfolding sum_below
summed f zero = sum-none f
summed f (suc k) = ap (sum_to f) (sym (add-one k)) ∙ sum_more f k ∙ ap (λ (s : Float). s ⊕ f k) (summed f k)

steps_along : (s : Spacing) (ds : List Float) (chord : ℕ → Float) (n k : ℕ) → k ≤ n - 1 → ((j : ℕ) → j < n - 1 → at ds j ≡ chord j) → at (step_sums s n ds) k ≡ along_by s chord k
unfolding step_sums step_of along_by
steps_along Chordal ds chord n k h e = sums_at (at ds) (n - 1) k h ∙ summed (at ds) k ∙ sum_same k _ _ (λ j l. e j (omega arith))
steps_along Centripetal ds chord n k h e =
    sums_at (λ j. step_of Centripetal (at ds j)) (n - 1) k h ∙ summed _ k ∙ sum_same k _ _ (λ j l. ap (step_of Centripetal) (e j (omega arith)))

along_is : (v : Metric) (n : ℕ) (point : ℕ → Point) (k : ℕ) → k ≤ n - 1 → at (step_sums v.spacing n (chords v.factor n point)) k ≡ along v point k
along_is v n point k h = steps_along v.spacing (chords v.factor n point) (chord v point) n k h (chord-at v n point)

-- a parameter between the first and the last
inner_is : (n : ℕ) (f : ℕ → Float) (k : ℕ) → 0 < k → k < n - 1 → at (from_zero_to_one n f) k ≡ f k
unfolding from_zero_to_one
inner_is n f k a b = list_of-at n (λ k. cond (eqb k 0) nought (cond (eqb k (n - 1)) one (f k))) k nan (omega arith) ∙ rw (ne_eqb k 0 (ne_of_gt a), ne_eqb k (n - 1) (ne_of_lt b))

-- ---- a ladder

passed : {A : Type 0} (b : Bool) (x y : A) → cond b none (some x) ≡ some y → (x ≡ y) × (b ≡ false)
passed true x y e = let z : ◌≡◌ {A = ℕ} 0 1 = cc in absurd (omega arith)
passed false x y e = (cc, refl)

pub is_spaced : (v : Metric) (n : ℕ) (point : ℕ → Point) (params : List Float) → 2 ≤ n → point_parameters v n point ≡ some params → IsSpaced v n point params
unfolding point_parameters part_along
is_spaced v n point params two e =
    let g = passed _ (from_zero_to_one n _) params e in
    let ends = zero_to-one-ends n _ two in
    record {
      apart = λ k h. ap (λ (d : Float). le d confusion) (sym (chord-at v n point k h)) ∙ some_false (n - 1) _ g.1 k h;
      long = ap length (sym g.0) ∙ length-zero_to-one n _;
      first = ap (λ (l : List Float). at l 0) (sym g.0) ∙ ends.0;
      inner = λ k a b. ap (λ (l : List Float). at l k) (sym g.0) ∙ inner_is n _ k a b ∙ rw (along_is v n point k (omega arith), along_is v n point (n - 1) (omega arith));
      last = ap (λ (l : List Float). at l (n - 1)) (sym g.0) ∙ ends.1;
    }

-- ---- the lines of a grid

module _ (v : Metric) (n : ℕ) (point : ℕ → Point) (lines : Lines) where
  abbrev skipped : Bool
  skipped = le (sum_below (n - 1) (chord v point)) confusion

  chords_sum : le (sum_below (n - 1) (at (chords v.factor n point))) confusion ≡ skipped
  chords_sum = ap (λ (s : Float). le s confusion) (sum_same (n - 1) (at (chords v.factor n point)) (chord v point) (λ k h. chord-at v n point k h))

  abbrev term : ℕ → Float
  term k = let sums = step_sums v.spacing n (chords v.factor n point) in at lines.sums (k + 1) ⊕ at sums (k + 1) ⊗ (one ⊘ at sums (n - 1))

  abbrev more : Lines
  more = record { used = lines.used + 1; sums = nought ∷ list_of (n - 1) term }

  used_next : (add_line v n point lines).used ≡ lines.used + cond (counts v n point) 1 0
  unfolding add_line counts
  used_next = pick (le (sum_below (n - 1) (at (chords v.factor n point))) confusion) chords_sum
    where
      pick : (b : Bool) → b ≡ skipped → (cond b lines more).used ≡ lines.used + cond (not skipped) 1 0
      pick true e = rw (← e) (omega arith)
      pick false e = rw (← e)

  sum_next : (k : ℕ) → 0 < k → k < n → at (add_line v n point lines).sums k ≡ cond (counts v n point) (at lines.sums k ⊕ part_along v n point k) (at lines.sums k)
  unfolding add_line counts part_along
  sum_next zero a b = absurd (omega arith)
  sum_next (suc k) a b = pick (le (sum_below (n - 1) (at (chords v.factor n point))) confusion) chords_sum
    where
      made : at more.sums (suc k) ≡ at lines.sums (suc k) ⊕ part_along v n point (suc k)
      made = list_of-at (n - 1) term k nan (omega arith) ∙ rw (along_is v n point (k + 1) (omega arith), along_is v n point (n - 1) (omega arith), add-one k)

      pick : (b : Bool) → b ≡ skipped → at (cond b lines more).sums (suc k) ≡ cond (not skipped) (at lines.sums (suc k) ⊕ part_along v n point (suc k)) (at lines.sums (suc k))
      pick true e = rw (← e)
      pick false e = rw (← e) made

module _ (v : Metric) (n : ℕ) (point : ℕ → ℕ → Point) where
  abbrev counted : ℕ → Bool
  counted r = counts v n (point r)

  more_lines : (m : ℕ) → added_lines v (suc m) n point ≡ add_line v n (point m) (added_lines v m n point)
  more_lines m = ap (λ (j : ℕ). added_lines v j n point) (sym (add-one m)) ∙ added_more v m n point

  used_is : (m : ℕ) → (added_lines v m n point).used ≡ count_below m counted
  unfolding count_below
  used_is zero = ap (λ (l : Lines). l.used) (sym (added-none v n point))
  used_is (suc m) = ap (λ (l : Lines). l.used) (more_lines m) ∙ used_next v n (point m) (added_lines v m n point) ∙ ap (λ (j : ℕ). j + cond (counted m) 1 0) (used_is m)

  sum_is : (m k : ℕ) → 0 < k → k < n → at (added_lines v m n point).sums k ≡ sum_over m counted (λ r. part_along v n (point r) k)
  unfolding sum_over
  sum_is zero k a b = ap (λ (l : Lines). at l.sums k) (sym (added-none v n point)) ∙ get_or-replicate n k nought nan b
  sum_is (suc m) k a b =
      ap (λ (l : Lines). at l.sums k) (more_lines m)
      ∙ sum_next v n (point m) (added_lines v m n point) k a b
      ∙ ap (λ (s : Float). cond (counted m) (s ⊕ part_along v n (point m) k) s) (sum_is m k a b)

pub are_averages : (v : Metric) (lines n : ℕ) (point : ℕ → ℕ → Point) (params : List Float) → 2 ≤ n → shared_parameters v lines n point ≡ some params → AreAverages v lines n point params
unfolding shared_parameters
are_averages v lines n point params two e =
    let g = passed _ (from_zero_to_one n _) params e in
    let o = or_false _ _ g.1 in
    let ends = zero_to-one-ends n _ two in
    record {
      some = above _ (eqb-false _ 0 o.0) (used_is v n point lines);
      long = ap length (sym g.0) ∙ length-zero_to-one n _;
      first = ap (λ (l : List Float). at l 0) (sym g.0) ∙ ends.0;
      inner = λ k a b. ap (λ (l : List Float). at l k) (sym g.0) ∙ inner_is n _ k a b ∙ rw (sum_is v n point lines k a (omega arith), used_is v n point lines);
      last = ap (λ (l : List Float). at l (n - 1)) (sym g.0) ∙ ends.1;
      rising = λ k h. ap (λ (l : List Float). le (at l (k + 1)) (at l k)) (sym g.0) ∙ some_false (n - 1) _ o.1 k h;
    }
  where
    above : (u : ℕ) → (u ≡ 0 → ⊥) → u ≡ count_below lines (λ r. counts v n (point r)) → 0 < count_below lines (λ r. counts v n (point r))
    above zero h q = absurd (h refl)
    above (suc u) h q = omega arith

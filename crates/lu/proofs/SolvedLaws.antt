-- The two substitutions satisfy the textbook's equations. Step k of L y = b takes a multiple of point k, which is final by then, off the points after it. Coordinate by
-- coordinate. Assumes nothing.
use mathlib.Core.Path.{◌≡◌, refl, sym, ◌∙◌, ap}
use mathlib.Core.Bool.{cond}
use mathlib.Core.List.{List}
use mathlib.Core.Logic.{◌⊎◌, inl, inr, ⊎_elim}
use Prim.Native.Nat.{ℕ, zero, suc, ◌+◌, ◌-◌, ◌*◌, ◌<◌, ◌≤◌}
use native.Mathlib.Numerals.{add-one}
use native.Mathlib.Omega.{arith}
use lib.ListN.{length}
use lib.Ieee.{Float, eq}
use Rattle.places.specs.Loops.{each, down}
use Rattle.places.proofs.LoopLaws.{each_done, each_last, each_only, each_same, each_split, cond_shift}
use Rattle.places.proofs.PlaceLaws.{le-or-lt}
use Rattle.places.proofs.RegionLaws.{length-each, length-down}
use Rattle.geometry.specs.declared.Point.{Point}
use Rattle.geometry.specs.Doubles.{◌⊖◌, ◌⊗◌, ◌⊘◌, nought, one, at}
use Rattle.geometry.specs.Points.{point_at, put_point, less_scaled}
use Rattle.geometry.proofs.PointLaws.{point_put}
use Rattle.bands.specs.Bands.{reach}
use Rattle.bands.proofs.InPlace.{coordinate, coordinate_at, coordinate_less, rows_down}
use Rattle.lu.specs.BandLu.{band_entry, less_point, forward_step, back_band_point, back_band_row, substitute_band}
use Rattle.lu.specs.Textbook.{less_unless_zero, IsForward, IsBack, Solves}
use Rattle.lu.proofs.NarrowLaws.{less_stays}
use Rattle.lu.proofs.Lengths.{length_less-point, length_forward_step, length-back_band-row}

-- ---- L y = b: coordinate c of point i
module _ (h n : ℕ) (F : List Float) (c : ℕ) (three : c < 3) where
  abbrev now : List Float → ℕ → Float
  now l i = at l (3 * i + c)

  less_keeps : (i j : ℕ) (f : Float) (q : Point) (l : List Float) → (j < i) ⊎ (i < j) → now (less_point i f q l) j ≡ now l j
  less_keeps i j f q l o = sym (coordinate_at (less_point i f q l) j c three) ∙ ap (coordinate c) (less_stays i j f q l o) ∙ coordinate_at l j c three

  less_puts : (i : ℕ) (f : Float) (q : Point) (l : List Float) → 3 * i + 3 ≤ length l → now (less_point i f q l) i ≡ cond (eq f nought) (now l i) (now l i ⊖ f ⊗ coordinate c q)
  unfolding less_point
  less_puts i f q l fits =
      let r : Point = less_scaled (point_at l i) f q in
      let put : now (put_point i r l) i ≡ now l i ⊖ f ⊗ coordinate c q =
      sym (coordinate_at _ i c three) ∙ ap (coordinate c) (point_put i r l fits) ∙ coordinate_less c (point_at l i) f q three ∙ rw (coordinate_at l i c three) in
      sym (cond_shift (λ x. now x i) (eq f nought) l (put_point i r l)) ∙ rw put

  step_stays : (k i : ℕ) (l : List Float) → (i ≤ k) ⊎ (reach h n k ≤ i) → now (forward_step h n F k l) i ≡ now l i
  unfolding forward_step
  step_stays k i l o =
      each_same (λ x. now x i) (λ j. less_point j (band_entry h F j k) (point_at l k)) (k + 1) (reach h n k) l
      (λ j t a b. less_keeps j i (band_entry h F j k) (point_at l k) t (⊎_elim (λ u. inl (omega arith)) (λ u. inr (omega arith)) o))

  -- what one product does to a coordinate
  abbrev less : ℕ → ℕ → Float → Float → Float
  less i k y v = cond (eq (band_entry h F i k) nought) v (v ⊖ band_entry h F i k ⊗ y)

  step_turn : (k i : ℕ) (l : List Float) → k < i → i < reach h n k → 3 * n ≤ length l → now (forward_step h n F k l) i ≡ less i k (now l k) (now l i)
  unfolding forward_step
  step_turn k i l a b fits =
      let q : Point = point_at l k in
      let turn : ℕ → List Float → List Float = λ j. less_point j (band_entry h F j k) q in
      let before : List Float = each (k + 1) i turn l in
      each_only (λ x. now x i) turn (k + 1) i (reach h n k) l (omega arith) b (λ j t u v. less_keeps j i (band_entry h F j k) q t (inl u))
      ∙ less_puts i (band_entry h F i k) q before (omega (arith, length-each turn (λ j x. length_less-point j (band_entry h F j k) q x) (k + 1) i l))
      ∙ rw (coordinate_at l k c three, each_same (λ x. now x i) turn (k + 1) i l (λ j t u v. less_keeps j i (band_entry h F j k) q t (inr v)))

  module _ (B : List Float) (fits : 3 * n ≤ length B) where
    abbrev to : ℕ → List Float
    to k = each 0 k (forward_step h n F) B

    -- point k is final when its own step comes
    final : (k : ℕ) → k ≤ n → now (to n) k ≡ now (to k) k
    final k a =
        ap (λ (x : List Float). now x k) (each_split 0 k n (forward_step h n F) B (omega arith) a)
        ∙ each_same (λ x. now x k) (forward_step h n F) k n (to k) (λ j t u v. step_stays j k t (inl u))

    passed : (i : ℕ) → i < n → (m : ℕ) → m ≤ i → now (to m) i ≡ each (i - h) m (λ k. less i k (now (to n) k)) (now B i)
    passed i below zero a =
        let turn : ℕ → Float → Float = λ k. less i k (now (to n) k) in
        ap (λ (x : List Float). now x i) (each_done 0 0 (forward_step h n F) B (omega arith)) ∙ sym (each_done (i - h) 0 turn (now B i) (omega arith))
    passed i below (suc m) a =
        let turn : ℕ → Float → Float = λ k. less i k (now (to n) k) in
        let before : now (to m) i ≡ each (i - h) m turn (now B i) = passed i below m (omega arith) in
        rw (← add-one m)
        (ap (λ (x : List Float). now x i) (each_last 0 m (forward_step h n F) B (omega arith))
        ∙ ⊎_elim
        (λ u. step_turn m i (to m) (omega arith) (omega arith) (omega (arith, length-each (forward_step h n F) (length_forward_step h n F) 0 m B))
        ∙ rw (← final m (omega arith), before, each_last (i - h) m turn (now B i) u))
        (λ u. step_stays m i (to m) (inr (omega arith)) ∙ before ∙ each_done (i - h) m turn (now B i) (omega arith) ∙ sym (each_done (i - h) (m + 1) turn (now B i) (omega arith)))
        (le-or-lt (i - h) m))

pub is_forward : (h n : ℕ) (F B : List Float) → 3 * n ≤ length B → IsForward h n F B (each 0 n (forward_step h n F) B)
unfolding less_unless_zero
is_forward h n F B fits =
    record {
      row = λ i c below three. final h n F c three B fits i (omega arith) ∙ passed h n F c three B fits i below i (omega arith);
      long = length-each (forward_step h n F) (length_forward_step h n F) 0 n B;
    }

-- ---- U x = y
pub is_back : (h n : ℕ) (F Y : List Float) → 3 * n ≤ length Y → IsBack h n F Y (down n (back_band_row h n F) Y)
unfolding back_band_row back_band_point
is_back h n F Y fits =
    record {
      row = λ i c below three.
          rows_down (λ i. i + 1) (reach h n) (λ i k. band_entry h F i k) (λ i. one ⊘ band_entry h F i i) (back_band_row h n F) (λ i l. refl) n Y fits i c below three (omega arith);
      long = length-down (back_band_row h n F) (length-back_band-row h n F) n Y;
    }

-- of the definition that the contracts cite
pub solves : (h n : ℕ) (F B : List Float) → 3 * n ≤ length B → Solves h n F B (substitute_band h n F B)
unfolding substitute_band
solves h n F B fits =
    let f = is_forward h n F B fits in
    record {
      between = each 0 n (forward_step h n F) B;
      forward = f;
      back = is_back h n F (each 0 n (forward_step h n F) B) (omega (arith, f.long));
    }

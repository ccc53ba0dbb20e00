-- A factorization that went through satisfies Cholesky's equations. The places are written in rising order, so what a step reads of the factor is final,
-- and what it reads of the matrix is still there. Assumes nothing.
use mathlib.Core.Path.{◌≡◌, refl, sym, ◌∙◌, ap, subst}
use mathlib.Core.Bool.{Bool, true, false, cond}
use mathlib.Core.List.{List}
use mathlib.Core.Logic.{inl, inr, ⊎_elim}
use Prim.Native.Nat.{ℕ, zero, suc, ◌+◌, ◌-◌, ◌*◌, ◌<◌, ◌≤◌}
use native.Mathlib.Nat.{eq-or-lt_of_le}
use native.Mathlib.Numerals.{add-one}
use native.Mathlib.Omega.{arith}
use lib.Dec.{T}
use lib.ListN.{length, take, drop, length-set}
use lib.Seq.{take-set-le, drop-set-lt, get_or-take, get_or-drop, get_or-set_same}
use lib.Ieee.{Float, nan, le, lt, is_nan}
use Rattle.places.specs.Loops.{each, outcome, each_while}
use Rattle.places.proofs.LoopLaws.{each_step, each_split, each_same, each_cong, each_went, while-same}
use Rattle.places.proofs.PlaceLaws.{row_inside, or_false}
use Rattle.geometry.specs.Doubles.{◌⊖◌, ◌⊗◌, ◌⊘◌, nought, at, larger}
use Rattle.geometry.specs.Root.{sqrt_of}
use Rattle.geometry.proofs.FloatOrder.{le_trans_float, le_not_lt, lt-le, le_right, le_self, le_lt_trans, holds, test, fails, refute}
use Rattle.geometry.proofs.Folds.{zero-le-zero, largest-none, largest-more}
use Rattle.bands.specs.Bands.{place, put_entry}
use Rattle.bands.specs.Sums.{less_sum}
use Rattle.cholesky.specs.Cholesky.{lower_entry, less_products, reduced_entry, factor_entry, factor_left, undetermined, factor_diagonal, factor_row, largest_diagonal, factor_symmetric_band}
use Rattle.cholesky.specs.Textbook.{remaining, IsLargest, IsFactor}

reduced_is : (h : ℕ) (l : List Float) (i j : ℕ) → reduced_entry h l i j ≡ less_products h l i j (lower_entry h l i j)
unfolding reduced_entry
reduced_is h l i j = refl

-- the same values up to a place, and from a place on
same-before : (t : ℕ) (l m : List Float) → take t l ≡ take t m → (x : ℕ) → x < t → at l x ≡ at m x
same-before t l m e x h = sym (get_or-take t l x nan h) ∙ ap (λ (y : List Float). at y x) e ∙ get_or-take t m x nan h

same_from : (t : ℕ) (l m : List Float) → drop t l ≡ drop t m → at l t ≡ at m t
same_from t l m e =
    let z : t + 0 ≡ t = omega arith in
    rw z at (sym (get_or-drop t l 0 nan) ∙ ap (λ (y : List Float). at y 0) e ∙ get_or-drop t m 0 nan)

-- a row that went through
row_done : (b : Bool) (x y l : List Float) → cond b (outcome false x) (outcome true y) ≡ outcome true l → (y ≡ l) × (b ≡ false)
row_done true x y l e = (cc, cc)
row_done false x y l e = (cc, refl)

module _ (h : ℕ) (floor : Float) (i : ℕ) (l m : List Float) (row : factor_row h floor i l ≡ outcome true m) where
  row_is : m ≡ put_entry (h + 1) h i i (sqrt_of (reduced_entry h (factor_left h i l) i i)) (factor_left h i l)
  unfolding factor_row factor_diagonal
  row_is = sym (row_done (undetermined floor (reduced_entry h (factor_left h i l) i i)) (factor_left h i l) _ m row).0

  row_pivot : undetermined floor (reduced_entry h (factor_left h i l) i i) ≡ false
  unfolding factor_row factor_diagonal
  row_pivot = (row_done (undetermined floor (reduced_entry h (factor_left h i l) i i)) (factor_left h i l) _ m row).1

  -- what a row leaves alone: the places before it, those after it, and their number
  row_before : (t : ℕ) → t ≤ i * (h + 1) → take t m ≡ take t l
  unfolding factor_left factor_entry
  row_before t k =
      rw row_is
      (take-set-le t (factor_left h i l) _ _ (omega arith)
      ∙ each_same (take t) (factor_entry h i) (i - h) i l (λ j x a b. take-set-le t x _ _ (omega arith)))

  row-after : (t : ℕ) → i * (h + 1) + (h + 1) ≤ t → drop t m ≡ drop t l
  unfolding factor_left factor_entry
  row-after t k =
      rw row_is
      (drop-set-lt t (factor_left h i l) _ _ (omega arith)
      ∙ each_same (drop t) (factor_entry h i) (i - h) i l (λ j x a b. drop-set-lt t x _ _ (omega arith)))

  row-length : length m ≡ length l
  unfolding factor_left factor_entry
  row-length =
      rw row_is
      (length-set (factor_left h i l) _ _
      ∙ each_same length (factor_entry h i) (i - h) i l (λ j x a b. length-set x _ _))

-- what entry (i, j) reads of row j stands before it
earlier : (h i j k : ℕ) → j ≤ i → i ≤ j + h → i - h ≤ k → k < j → place (h + 1) h j k < place (h + 1) h i j
earlier h i j k a b c d =
    ⊎_elim
    (λ e. subst (λ (x : ℕ). place (h + 1) h j k < place (h + 1) h x j) e (omega arith))
    (λ e. omega (arith, row_inside j i (h + 1) e))
    (eq-or-lt_of_le a)

-- Row i of n: the list before it is l, after it m, and at the end L
module _ (h : ℕ) (floor : Float) (n i : ℕ) (A L l m : List Float)
    (start : each_while 0 i (factor_row h floor) A ≡ outcome true l)
    (row : factor_row h floor i l ≡ outcome true m)
    (rest : each_while (i + 1) n (factor_row h floor) m ≡ outcome true L) where
  -- the list before entry (i, j)
  before : ℕ → List Float
  before j = each (i - h) j (factor_entry h i) l

  final-row : (t : ℕ) → t ≤ i * (h + 1) + (h + 1) → take t L ≡ take t m
  final-row t k =
      while-same (factor_row h floor) (take t) (i + 1) n m L rest
      (λ q u v a b e. row_before h floor q u v e t (omega (arith, row_inside i q (h + 1) (omega arith))))

  length_before : (j : ℕ) → length (before j) ≡ length A
  unfolding before factor_entry
  length_before j =
      each_same length (factor_entry h i) (i - h) j l (λ k x a b. length-set x _ _)
      ∙ while-same (factor_row h floor) length 0 i A l start (λ k u v a b e. row-length h floor k u v e)

  -- before entry (i, j) the places before it are final
  final-before : (j : ℕ) → j ≤ i → i ≤ j + h → take (place (h + 1) h i j) L ≡ take (place (h + 1) h i j) (before j)
  unfolding before factor_left factor_entry
  final-before j a b =
      final-row (place (h + 1) h i j) (omega arith)
      ∙ rw (row_is h floor i l m row) (take-set-le (place (h + 1) h i j) (factor_left h i l) _ _ (omega arith))
      ∙ ap (take (place (h + 1) h i j)) (each_split (i - h) j i (factor_entry h i) l (omega arith) a)
      ∙ each_same (take (place (h + 1) h i j)) (factor_entry h i) j i (before j) (λ k x c d. take-set-le (place (h + 1) h i j) x _ _ (omega arith))

  -- and its own place holds the matrix's entry
  still : (j : ℕ) → j ≤ i → i ≤ j + h → lower_entry h (before j) i j ≡ lower_entry h A i j
  unfolding before factor_entry
  still j a b =
      same_from (place (h + 1) h i j) (before j) A (
      each_same (drop (place (h + 1) h i j)) (factor_entry h i) (i - h) j l (λ k x c d. drop-set-lt (place (h + 1) h i j) x _ _ (omega arith))
      ∙ while-same (factor_row h floor) (drop (place (h + 1) h i j)) 0 i A l start (λ k u v c d e. row-after h floor k u v e (place (h + 1) h i j) (omega (arith, row_inside k i (h + 1) d))))

  -- so what is reduced is the matrix's entry by the factor's rows
  reduced_final : (j : ℕ) → j ≤ i → i ≤ j + h → reduced_entry h (before j) i j ≡ less_products h L i j (lower_entry h A i j)
  reduced_final j a b =
      let same = same-before (place (h + 1) h i j) L (before j) (final-before j a b) in
      reduced_is h (before j) i j
      ∙ ap (less_products h (before j) i j) (still j a b)
      ∙ each_cong _ _ (i - h) j (lower_entry h A i j) (λ k s c d.
      let p : place (h + 1) h i k < place (h + 1) h i j = omega arith in
      let q : place (h + 1) h j k < place (h + 1) h i j = earlier h i j k a b c d in
      ap (λ (x : Float). s ⊖ x) (rw (same _ p, same _ q)))

  pivot-entry : undetermined floor (less_products h L i i (lower_entry h A i i)) ≡ false
  unfolding before factor_left
  pivot-entry = rw (reduced_final i (omega arith) (omega arith)) at (row_pivot h floor i l m row)

  module _ (big : i * (h + 1) + (h + 1) ≤ length A) where
    left-entry : (j : ℕ) → j < i → i ≤ j + h → lower_entry h L i j ≡ less_products h L i j (lower_entry h A i j) ⊘ lower_entry h L j j
    unfolding before factor_left factor_entry
    left-entry j a b =
        let p : ℕ = place (h + 1) h i j in
        let same = same-before p L (before j) (final-before j (omega arith) b) in
        let d : place (h + 1) h j j < place (h + 1) h i j = omega (arith, row_inside j i (h + 1) a) in
        same-before (p + 1) L (factor_entry h i j (before j)) (
        final-row (p + 1) (omega arith)
        ∙ rw (row_is h floor i l m row) (take-set-le (p + 1) (factor_left h i l) _ _ (omega arith))
        ∙ ap (take (p + 1)) (each_split (i - h) j i (factor_entry h i) l (omega arith) (omega arith) ∙ each_step j i (factor_entry h i) (before j) a)
        ∙ each_same (take (p + 1)) (factor_entry h i) (j + 1) i (factor_entry h i j (before j)) (λ k x c e. take-set-le (p + 1) x _ _ (omega arith))) p (omega arith)
        ∙ get_or-set_same (before j) p _ nan (omega (arith, length_before j))
        ∙ rw (reduced_final j (omega arith) b, same _ d)

    diagonal-entry : lower_entry h L i i ≡ sqrt_of (less_products h L i i (lower_entry h A i i))
    unfolding before factor_left
    diagonal-entry =
        let p : ℕ = place (h + 1) h i i in
        same-before (p + 1) L m (final-row (p + 1) (omega arith)) p (omega arith)
        ∙ ap (λ (x : List Float). at x p) (row_is h floor i l m row)
        ∙ get_or-set_same (before i) p _ nan (omega (arith, length_before i))
        ∙ ap sqrt_of (reduced_final i (omega arith) (omega arith))

-- ---- in the textbook's words
remaining_is : (h : ℕ) (A L : List Float) (i j : ℕ) → less_products h L i j (lower_entry h A i j) ≡ remaining h A L i j
unfolding less_sum
remaining_is h A L i j = refl

determined : (floor s : Float) → undetermined floor s ≡ false → (is_nan s ≡ false) × (le s floor ≡ false)
unfolding undetermined
determined floor s e = or_false (is_nan s) (le s floor) e

-- one entry more
larger_is : (h n : ℕ) (A : List Float) (g : Float) → IsLargest h n A g → IsLargest h (n + 1) A (larger g (lower_entry h A n n))
unfolding larger
larger_is h n A g is = pick (lt g d) refl
  where
    d : Float
    d = lower_entry h A n n

    pick : (b : Bool) → lt g d ≡ b → IsLargest h (n + 1) A (cond b d g)
    pick true e =
        let up : T (le g d) = lt-le g d (test e) in
        let self : T (le d d) = le_self d (le_right g d up) in
        record {
          from_nought = holds _ (le_trans_float nought g d (test is.from_nought) up);
          none_above = λ i h. ⊎_elim
              (λ z. rw z (fails _ (le_not_lt d d self)))
              (λ l. fails _ (λ k. refute (is.none_above i l) (le_lt_trans g d _ up k)))
              (eq-or-lt_of_le (omega arith));
          one_of = inr (n, omega arith, refl);
        }
    pick false e =
        record {
          from_nought = is.from_nought;
          none_above = λ i h. ⊎_elim (λ z. rw z e) (λ l. is.none_above i l) (eq-or-lt_of_le (omega arith));
          one_of = ⊎_elim (λ z. inl z) (λ w. inr (w.0, omega (arith, w.1), w.2)) is.one_of;
        }

is_largest : (h n : ℕ) (A : List Float) → IsLargest h n A (largest_diagonal h n A)
unfolding largest_diagonal
is_largest h zero A = rw largest-none (record { from_nought = holds _ zero-le-zero; none_above = λ i h. absurd (omega arith); one_of = inl refl })
is_largest h (suc n) A = rw (← add-one n, largest-more) (larger_is h n A _ (is_largest h n A))

pub is_factor : (h n : ℕ) (relative : Float) (A L : List Float) → n * (h + 1) ≤ length A → factor_symmetric_band h n relative A ≡ outcome true L → IsFactor h n relative A L
unfolding factor_symmetric_band
is_factor h n relative A L big done =
    let floor : Float = relative ⊗ largest_diagonal h n A in
    let pivot : (i : ℕ) → i < n → (is_nan (remaining h A L i i) ≡ false) × (le (remaining h A L i i) floor ≡ false) =
    λ i a.
    let g = each_went (factor_row h floor) i n A L a done in
    rw (remaining_is h A L i i) at (determined floor _ (pivot-entry h floor n i A L g.0 g.1 g.2 g.3 g.4)) in
    record {
      left = λ i j a b c.
          let g = each_went (factor_row h floor) i n A L a done in
          left-entry h floor n i A L g.0 g.1 g.2 g.3 g.4 (omega (arith, row_inside i n (h + 1) a)) j b c ∙ rw (remaining_is h A L i j);
      diagonal = λ i a.
          let g = each_went (factor_row h floor) i n A L a done in
          diagonal-entry h floor n i A L g.0 g.1 g.2 g.3 g.4 (omega (arith, row_inside i n (h + 1) a)) ∙ ap sqrt_of (remaining_is h A L i i);
      number = λ i a. (pivot i a).0;
      largest = largest_diagonal h n A;
      is_largest = is_largest h n A;
      above = λ i a. (pivot i a).1;
    }

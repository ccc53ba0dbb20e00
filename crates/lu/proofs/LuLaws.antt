-- The factors that elimination leaves satisfy Doolittle's equations. Pivot k writes the rows below it alone, and of them the columns from k on: so a row is
-- final once its own pivot's turn comes, a column once its pivot's turn is over, and in between each pivot takes off one product. Assumes nothing.
use mathlib.Core.Path.{◌≡◌, sym, ◌∙◌, ap}
use mathlib.Core.Bool.{cond}
use mathlib.Core.List.{List}
use mathlib.Core.Logic.{◌⊎◌, inl, inr, ⊎_elim}
use Prim.Native.Nat.{ℕ, zero, suc, ◌+◌, ◌-◌, ◌*◌, ◌<◌, ◌≤◌}
use native.Mathlib.Numerals.{add-one}
use native.Mathlib.Omega.{arith}
use lib.ListN.{length, length-set}
use lib.Seq.{get_or-set_same, get_or-set_other}
use lib.Ieee.{Float, nan, eq}
use Rattle.places.specs.Loops.{each}
use Rattle.places.proofs.LoopLaws.{each_only, each_done, each_last, each_split, each_same, cond_shift, cond_both}
use Rattle.places.proofs.PlaceLaws.{row_inside, le-or-lt}
use Rattle.geometry.specs.Doubles.{◌⊖◌, ◌⊗◌, ◌⊘◌, nought, one, at}
use Rattle.bands.specs.Bands.{place, put_entry, reach}
use Rattle.lu.specs.BandLu.{band_entry, less_pivot, less_multiple, eliminate_row, eliminate, factor_band}
use Rattle.lu.specs.Textbook.{less_unless_zero, IsLu}

-- ---- one row below pivot k
module _ (h n k : ℕ) (i : ℕ) (f : Float) (l : List Float) where
  abbrev put : List Float
  put = put_entry (2 * h + 1) h i k f l

  abbrev less : ℕ → List Float
  less j = each (k + 1) j (less_pivot h k i f) put

  length_less : (j : ℕ) → length (less j) ≡ length l
  unfolding less_pivot
  length_less j = each_same length (less_pivot h k i f) (k + 1) j put (λ c t a b. length-set t _ _) ∙ length-set l _ f

  length-row : length (less_multiple h n k i f l) ≡ length l
  unfolding less_multiple
  length-row = cond_both length (eq f nought) put (less (reach h n k)) (length l) (length-set l _ f) (length_less (reach h n k))

  -- a place that is none of the columns k .. j - 1 of the row
  less_keeps : (j x : ℕ) → k < j → ((c : ℕ) → k ≤ c → c < j → x ≡ place (2 * h + 1) h i c → ⊥) → (at put x ≡ at l x) × (at (less j) x ≡ at l x)
  unfolding less_pivot
  less_keeps j x a apart =
      let stored : at put x ≡ at l x = get_or-set_other l (place (2 * h + 1) h i k) x f nan (apart k (omega arith) a) in
      (stored, each_same (λ t. at t x) (less_pivot h k i f) (k + 1) j put (λ c t u v. get_or-set_other t (place (2 * h + 1) h i c) x _ nan (apart c (omega arith) v)) ∙ stored)

  row_keeps : (x : ℕ) → k < reach h n k → ((c : ℕ) → k ≤ c → c < reach h n k → x ≡ place (2 * h + 1) h i c → ⊥) → at (less_multiple h n k i f l) x ≡ at l x
  unfolding less_multiple
  row_keeps x a apart =
      let kept = less_keeps (reach h n k) x a apart in
      cond_both (λ (l : List Float). at l x) (eq f nought) put (less (reach h n k)) (at l x) kept.0 kept.1

  module _ (below : k < i) (near : i ≤ k + h) (fits : i * (2 * h + 1) + (2 * h + 1) ≤ length l) where
    -- the multiplier, in the pivot's column
    row_multiplier : band_entry h (less_multiple h n k i f l) i k ≡ f
    unfolding less_multiple less_pivot
    row_multiplier =
        let x : ℕ = place (2 * h + 1) h i k in
        let stored : at put x ≡ f = get_or-set_same l x f nan (omega arith) in
        cond_both (λ (l : List Float). at l x) (eq f nought) put (less (reach h n k)) f stored
        (each_same (λ t. at t x) (less_pivot h k i f) (k + 1) (reach h n k) put (λ c t u v. get_or-set_other t (place (2 * h + 1) h i c) x _ nan (λ e. omega arith)) ∙ stored)

    -- a product less, in the columns after it
    row_less : (j : ℕ) → k < j → j < reach h n k → band_entry h (less_multiple h n k i f l) i j ≡ cond (eq f nought) (band_entry h l i j) (band_entry h l i j ⊖ f ⊗ band_entry h l k j)
    unfolding less_multiple less_pivot
    row_less j a b =
        let x : ℕ = place (2 * h + 1) h i j in
        let y : ℕ = place (2 * h + 1) h k j in
        let kept = less_keeps j x a (λ c u v e. omega arith) in
        let pivot = less_keeps j y a (λ c u v e. omega (arith, row_inside k i (2 * h + 1) below)) in
        let turned : at (less (reach h n k)) x ≡ at l x ⊖ f ⊗ at l y =
        each_only (λ t. at t x) (less_pivot h k i f) (k + 1) j (reach h n k) put (omega arith) b (λ c t u v. get_or-set_other t (place (2 * h + 1) h i c) x _ nan (λ e. omega arith))
        ∙ get_or-set_same (less j) x _ nan (omega (arith, length_less j))
        ∙ rw (kept.1, pivot.1) in
        sym (cond_shift (λ t. at t x) (eq f nought) put (less (reach h n k))) ∙ rw (turned, kept.0)

-- ---- one pivot
module _ (h n k : ℕ) (l : List Float) (k<n : k < n) where
  abbrev rows_to : ℕ → List Float
  rows_to i = each (k + 1) i (eliminate_row h n k) l

  abbrev factor : ℕ → Float
  factor i = band_entry h l i k ⊗ (one ⊘ band_entry h l k k)

  length-rows : (i : ℕ) → length (rows_to i) ≡ length l
  unfolding eliminate_row
  length-rows i = each_same length (eliminate_row h n k) (k + 1) i l (λ q t a b. length-row h n k q _ t)

  length_pivot : length (eliminate h n k l) ≡ length l
  unfolding eliminate
  length_pivot = length-rows (reach h n k)

  -- the rows before row i leave a row alone that is none of them
  rows_keep : (i r x : ℕ) → i ≤ reach h n k → (r ≤ k) ⊎ (i ≤ r) → r * (2 * h + 1) ≤ x → x < r * (2 * h + 1) + (2 * h + 1) → at (rows_to i) x ≡ at l x
  unfolding eliminate_row
  rows_keep i r x a b u v =
      each_same (λ t. at t x) (eliminate_row h n k) (k + 1) i l
      (λ q t c d. row_keeps h n k q _ t x (omega arith)
      (λ m e g z. ⊎_elim (λ y. omega (arith, row_inside r q (2 * h + 1) (omega arith))) (λ y. omega (arith, row_inside q r (2 * h + 1) (omega arith))) b))

  row_kept : (i j : ℕ) → i ≤ j + h → j ≤ i + h → (i ≤ k) ⊎ (reach h n k ≤ i) → band_entry h (eliminate h n k l) i j ≡ band_entry h l i j
  unfolding eliminate
  row_kept i j a b c = rows_keep (reach h n k) i (place (2 * h + 1) h i j) (omega arith) c (omega arith) (omega arith)

  -- row i below the pivot: its own turn decides
  row-turn : (i x : ℕ) → k < i → i < reach h n k → i * (2 * h + 1) ≤ x → x < i * (2 * h + 1) + (2 * h + 1) → at (eliminate h n k l) x ≡ at (less_multiple h n k i (factor i) (rows_to i)) x
  unfolding eliminate eliminate_row
  row-turn i x a b u v =
      each_only (λ t. at t x) (eliminate_row h n k) (k + 1) i (reach h n k) l (omega arith) b
      (λ q t c d. row_keeps h n k q _ t x (omega arith) (λ m e g z. omega (arith, row_inside i q (2 * h + 1) c)))
      ∙ rw (rows_keep i i (place (2 * h + 1) h i k) (omega arith) (inr (omega arith)) (omega arith) (omega arith), rows_keep i k (place (2 * h + 1) h k k) (omega arith) (inl (omega arith)) (omega arith) (omega arith))

  column-kept : (i j : ℕ) → i ≤ j + h → j ≤ i + h → (j < k) ⊎ (reach h n k ≤ j) → band_entry h (eliminate h n k l) i j ≡ band_entry h l i j
  column-kept i j a b c =
      let x : ℕ = place (2 * h + 1) h i j in
      ⊎_elim
      (λ u. row_kept i j a b (inl u))
      (λ u. ⊎_elim
      (λ v. row_kept i j a b (inr v))
      (λ v. row-turn i x u v (omega arith) (omega arith)
      ∙ row_keeps h n k i (factor i) (rows_to i) x (omega arith) (λ m e g z. ⊎_elim (λ y. omega arith) (λ y. omega arith) c)
      ∙ rows_keep i i x (omega arith) (inr (omega arith)) (omega arith) (omega arith))
      (le-or-lt (reach h n k) i))
      (le-or-lt i k)

  module _ (big : n * (2 * h + 1) ≤ length l) (i : ℕ) (below : k < i) (near : i < reach h n k) where
    fits : i * (2 * h + 1) + (2 * h + 1) ≤ length (rows_to i)
    fits = omega (arith, length-rows i, row_inside i n (2 * h + 1) (omega arith))

    column-turn : band_entry h (eliminate h n k l) i k ≡ factor i
    column-turn =
        row-turn i (place (2 * h + 1) h i k) below near (omega arith) (omega arith)
        ∙ row_multiplier h n k i (factor i) (rows_to i) below (omega arith) fits

    inside-turn : (j : ℕ) → k < j → j < reach h n k → band_entry h (eliminate h n k l) i j ≡ cond (eq (factor i) nought) (band_entry h l i j) (band_entry h l i j ⊖ factor i ⊗ band_entry h l k j)
    inside-turn j a b =
        row-turn i (place (2 * h + 1) h i j) below near (omega arith) (omega arith)
        ∙ row_less h n k i (factor i) (rows_to i) below (omega arith) fits j a b
        ∙ rw (rows_keep i i (place (2 * h + 1) h i j) (omega arith) (inr (omega arith)) (omega arith) (omega arith), rows_keep i k (place (2 * h + 1) h k j) (omega arith) (inl (omega arith)) (omega arith) (omega arith))

-- ---- all pivots
module _ (h n : ℕ) (A : List Float) (big : n * (2 * h + 1) ≤ length A) where
  abbrev pivots : ℕ → List Float
  pivots k = each 0 k (eliminate h n) A

  abbrev F : List Float
  F = pivots n

  big-at : (k : ℕ) → k ≤ n → n * (2 * h + 1) ≤ length (pivots k)
  big-at k a = omega (arith, each_same length (eliminate h n) 0 k A (λ q t u v. length_pivot h n q t (omega arith)))

  row_final : (i j : ℕ) → i < n → i ≤ j + h → j ≤ i + h → band_entry h F i j ≡ band_entry h (pivots i) i j
  row_final i j a b c =
      ap (λ (t : List Float). band_entry h t i j) (each_split 0 i n (eliminate h n) A (omega arith) (omega arith))
      ∙ each_same (λ t. band_entry h t i j) (eliminate h n) i n (pivots i) (λ q t u v. row_kept h n q t v i j b c (inl u))

  -- the multiplier, as pivot j leaves it
  multiplier : (i j : ℕ) → i < n → j < i → i ≤ j + h → band_entry h F i j ≡ band_entry h (pivots j) i j ⊗ (one ⊘ band_entry h (pivots j) j j)
  multiplier i j a b c =
      each_only (λ t. band_entry h t i j) (eliminate h n) 0 j n A (omega arith) (omega arith) (λ q t u v. column-kept h n q t v i j c (omega arith) (inl u))
      ∙ column-turn h n j (pivots j) (omega arith) (big-at j (omega arith)) i b (omega arith)

  module _ (i j s : ℕ) (i<n : i < n) (j<n : j < n) (left : i ≤ j + h) (right : j ≤ i + h)
      (near : (m : ℕ) → s ≤ m → (i ≤ m + h) × (j ≤ m + h)) (far : (m : ℕ) → m < s → (m + h < i) ⊎ (m + h < j)) where
    abbrev turn : ℕ → Float → Float
    turn k v = cond (eq (band_entry h F i k) nought) v (v ⊖ band_entry h F i k ⊗ band_entry h F k j)

    -- a pivot that reaches entry (i, j), and one that does not
    inside : (m : ℕ) → m < i → m < j → s ≤ m → band_entry h (eliminate h n m (pivots m)) i j ≡ turn m (band_entry h (pivots m) i j)
    inside m a b c =
        let d = near m c in
        inside-turn h n m (pivots m) (omega arith) (big-at m (omega arith)) i a (omega arith) j b (omega arith)
        ∙ rw (← multiplier i m i<n a d.0, ← row_final m j (omega arith) (omega arith) d.1)

    outside : (m : ℕ) → m < n → m < s → band_entry h (eliminate h n m (pivots m)) i j ≡ band_entry h (pivots m) i j
    outside m a b =
        ⊎_elim
        (λ u. row_kept h n m (pivots m) a i j left right (inr (omega arith)))
        (λ u. column-kept h n m (pivots m) a i j left right (inr (omega arith)))
        (far m b)

    passed : (m : ℕ) → m ≤ i → m ≤ j → band_entry h (pivots m) i j ≡ each s m turn (band_entry h A i j)
    passed zero a b =
        ap (λ (t : List Float). band_entry h t i j) (each_done 0 0 (eliminate h n) A (omega arith)) ∙ sym (each_done s 0 turn (band_entry h A i j) (omega arith))
    passed (suc m) a b =
        let before : band_entry h (pivots m) i j ≡ each s m turn (band_entry h A i j) = passed m (omega arith) (omega arith) in
        rw (← add-one m)
        (ap (λ (t : List Float). band_entry h t i j) (each_last 0 m (eliminate h n) A (omega arith))
        ∙ ⊎_elim
        (λ u. inside m (omega arith) (omega arith) u ∙ ap (turn m) before ∙ sym (each_last s m turn (band_entry h A i j) u))
        (λ u. outside m (omega arith) u ∙ before ∙ each_done s m turn (band_entry h A i j) (omega arith) ∙ sym (each_done s (m + 1) turn (band_entry h A i j) (omega arith)))
        (le-or-lt s m))

pub is_lu : (h n : ℕ) (A : List Float) → n * (2 * h + 1) ≤ length A → IsLu h n A (factor_band h n A)
unfolding factor_band less_unless_zero
is_lu h n A big =
    record {
      upper = λ i j a b c.
          row_final h n A big i j (omega arith) (omega arith) c
          ∙ passed h n A big i j (j - h) (omega arith) a (omega arith) c (λ m u. (omega arith, omega arith)) (λ m u. inr (omega arith)) i (omega arith) b;
      lower = λ i j a b c.
          multiplier h n A big i j a b c
          ∙ rw (← row_final h n A big j j (omega arith) (omega arith) (omega arith), passed h n A big i j (i - h) a (omega arith) c (omega arith) (λ m u. (omega arith, omega arith)) (λ m u. inl (omega arith)) j (omega arith) (omega arith));
    }

-- What the program does to the rows below the pivot, which stand in a slice of their own, is `BandLu.eliminate` of the whole band. Assumes nothing.
use mathlib.Core.Path.{◌≡◌, refl, sym, ◌∙◌, ap}
use mathlib.Core.List.{List, ◌++◌}
use Prim.Native.Nat.{ℕ, ◌+◌, ◌-◌, ◌*◌, ◌≤◌, ◌<◌}
use native.Mathlib.Omega.{arith}
use lib.ListN.{length, set, length-set, get_or-append}
use lib.Seq.{get_or-append-add}
use lib.Ieee.{Float, nan, eq}
use Rattle.places.specs.Loops.{each}
use Rattle.places.proofs.LoopLaws.{each_shift, cond_shift, cond_both}
use Rattle.places.proofs.RegionLaws.{length-each, length_part, set-append-add, get_d_part}
use Rattle.geometry.specs.Doubles.{◌⊘◌, nought, one, at}
use Rattle.bands.specs.Bands.{place, put_entry, reach}
use Rattle.lu.specs.BandLu.{band_entry, less_pivot, less_multiple, eliminate_row, eliminate}
use Rattle.lu.specs.BelowPivot.{after_pivot, pivot_row, less_place, less_places, clear_row, clear_below}

-- each step keeps the number of places
length_less-place : (from : ℕ) (factor : Float) (pivot : List Float) (m : ℕ) (rest : List Float) → length (less_place from factor pivot m rest) ≡ length rest
unfolding less_place
length_less-place from factor pivot m rest = length-set rest _ _

length_less-places : (from count : ℕ) (pivot : List Float) (factor : Float) (rest : List Float) → length (less_places from count pivot factor rest) ≡ length rest
unfolding less_places
length_less-places from count pivot factor rest =
    let put : List Float = set rest from factor in
    cond_both length (eq factor nought) put (each 0 count (less_place from factor pivot) put) (length rest) (length-set rest from factor)
    (length-each (less_place from factor pivot) (λ m x. length_less-place from factor pivot m x) 0 count put ∙ length-set rest from factor)

length_clear-row : (w h count : ℕ) (pivot : List Float) (inverse : Float) (d : ℕ) (rest : List Float) → length (clear_row w h count pivot inverse d rest) ≡ length rest
unfolding clear_row
length_clear-row w h count pivot inverse d rest = length_less-places _ count pivot _ rest

-- a row and a column that pivot k reaches
reached : (h n k c m : ℕ) → c < reach h n k → c ≡ k + 1 + m → m < after_pivot h n k
reached h n k c m i e = omega arith

turns : (h n k : ℕ) → reach h n k - (k + 1) ≡ after_pivot h n k - 0
turns h n k = omega arith

-- Pivot k of n rows: `front` has the rows up to its own, `back` the rows below it, and `pivot` row k's entries after its diagonal
module _ (h n k : ℕ) (front back pivot : List Float) (k<n : k < n) (split : length front ≡ k * (2 * h + 1) + (2 * h + 1)) (rows : n * (2 * h + 1) ≤ length (front ++ back))
    (same : (m : ℕ) → m < after_pivot h n k → at pivot m ≡ band_entry h (front ++ back) k (k + 1 + m)) where
  abbrev w : ℕ
  w = 2 * h + 1

  abbrev count : ℕ
  count = after_pivot h n k

  abbrev inverse : Float
  inverse = one ⊘ band_entry h (front ++ back) k k

  abbrev whole : List Float → List Float
  whole rest = front ++ rest

  abbrev Rest : List Float → Type 0
  Rest rest = length rest ≡ length back

  -- the place of row d in the pivot's column
  abbrev from : ℕ → ℕ
  from d = d * w + (h - d - 1)

  -- where column c of row d stands: at place p of the rest, and in the band as A[k + 1 + d][c]
  module _ (d c p : ℕ) (i : d < count) (j : k ≤ c) (b : c ≤ k + count) (e : p + k ≡ from d + c) where
    place-below : place w h (k + 1 + d) c ≡ length front + p
    place-below = omega arith

    module _ (rest : List Float) (z : Rest rest) where
      entry-below : band_entry h (whole rest) (k + 1 + d) c ≡ at rest p
      entry-below = ap (λ (x : ℕ). at (whole rest) x) place-below ∙ get_or-append-add front rest p nan

      put-below : (v : Float) → put_entry w h (k + 1 + d) c v (whole rest) ≡ whole (set rest p v)
      put-below v = ap (λ (x : ℕ). set (whole rest) x v) place-below ∙ set-append-add front rest p v

  entry_pivot : (rest : List Float) (c : ℕ) → c ≤ k + h → band_entry h (whole rest) k c ≡ band_entry h (front ++ back) k c
  entry_pivot rest c j = let in_front : place w h k c < length front = omega arith in get_or-append front rest nan (place w h k c) in_front ∙ sym (get_or-append front back nan (place w h k c) in_front)

  module _ (rest : List Float) (z : Rest rest) where
    less_pivot-below : (d m : ℕ) (factor : Float) → d < count → m < count
        → less_pivot h k (k + 1 + d) factor (k + 1 + m) (whole rest) ≡ whole (less_place (from d) factor pivot m rest)
    unfolding less_pivot less_place
    less_pivot-below d m factor i j =
        let c : ℕ = k + 1 + m in
        let p : ℕ = from d + 1 + m in
        rw (entry-below d c p i (omega arith) (omega arith) (omega arith) rest z, entry_pivot rest c (omega arith), same m j)
        (put-below d c p i (omega arith) (omega arith) (omega arith) rest z _)

  module _ (rest : List Float) (z : Rest rest) where
    less_multiple-below : (d : ℕ) (factor : Float) → d < count
        → less_multiple h n k (k + 1 + d) factor (whole rest) ≡ whole (less_places (from d) count pivot factor rest)
    unfolding less_multiple less_places
    less_multiple-below d factor i =
        let put : List Float = set rest (from d) factor in
        let stored : put_entry w h (k + 1 + d) k factor (whole rest) ≡ whole put = put-below d k (from d) i (omega arith) (omega arith) (omega arith) rest z factor in
        let zs : Rest put = length-set rest (from d) factor ∙ z in
        let less : each (k + 1) (reach h n k) (less_pivot h k (k + 1 + d) factor) (whole put) ≡ whole (each 0 count (less_place (from d) factor pivot) put) =
        each_shift whole Rest (less_pivot h k (k + 1 + d) factor) (less_place (from d) factor pivot) (k + 1) (reach h n k) 0 count put (turns h n k) zs
        (λ c m x u v r q. let e : c ≡ k + 1 + m = omega arith in (rw e (less_pivot-below x q d m factor i (reached h n k c m v e)), length_less-place (from d) factor pivot m x ∙ q)) in
        rw (stored, less) (cond_shift whole (eq factor nought) put (each 0 count (less_place (from d) factor pivot) put))

    eliminate-row-below : (d : ℕ) → d < count → eliminate_row h n k (k + 1 + d) (whole rest) ≡ whole (clear_row w h count pivot inverse d rest)
    unfolding eliminate_row clear_row
    eliminate-row-below d i =
        rw (entry-below d k (from d) i (omega arith) (omega arith) (omega arith) rest z, entry_pivot rest k (omega arith)) (less_multiple-below d _ i)

  -- the rows below the pivot
  eliminate-below : whole (clear_below w h count pivot inverse back) ≡ eliminate h n k (front ++ back)
  unfolding eliminate clear_below
  eliminate-below =
      let row : ℕ → List Float → List Float = clear_row w h count pivot inverse in
      sym (each_shift whole Rest (eliminate_row h n k) row (k + 1) (reach h n k) 0 count back (turns h n k) refl
      (λ i d x u v r q. let e : i ≡ k + 1 + d = omega arith in (rw e (eliminate-row-below x q d (reached h n k i d v e)), length_clear-row w h count pivot inverse d x ∙ q)))

-- with the pivot's row lent from the front
module _ (h n k : ℕ) (front : List Float) (k<n : k < n) (split : length front ≡ k * (2 * h + 1) + (2 * h + 1)) where
  pub length_pivot-row : length (pivot_row h n k front) ≡ after_pivot h n k
  length_pivot-row = length_part (k * (2 * h + 1) + h + 1) (k * (2 * h + 1) + h + 1 + after_pivot h n k) front (omega arith) ∙ omega arith

  pub eliminate_parts : (back : List Float) → n * (2 * h + 1) ≤ length (front ++ back)
      → front ++ clear_below (2 * h + 1) h (length (pivot_row h n k front)) (pivot_row h n k front) (one ⊘ band_entry h front k k) back ≡ eliminate h n k (front ++ back)
  eliminate_parts back rows =
      let start : ℕ = k * (2 * h + 1) + h + 1 in
      let pivot : List Float = pivot_row h n k front in
      let stands : (x : ℕ) → x < length front → at front x ≡ at (front ++ back) x = λ x i. sym (get_or-append front back nan x i) in
      rw (length_pivot-row, stands (place (2 * h + 1) h k k) (omega arith))
      (eliminate-below h n k front back pivot k<n split rows
      (λ m b. let e : start + m ≡ place (2 * h + 1) h k (k + 1 + m) = omega arith in
      get_d_part start (start + after_pivot h n k) front m nan (omega arith) ∙ stands (start + m) (omega arith) ∙ ap (λ (x : ℕ). at (front ++ back) x) e))

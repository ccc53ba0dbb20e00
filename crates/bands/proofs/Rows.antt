-- Where the rows of a band stand, and what the loops over them cite. Assumes nothing.
use mathlib.Core.Path.{◌≡◌}
use mathlib.Core.Logic.{◌⊎◌, inl, inr, ⊎_elim}
use Prim.Native.Nat.{ℕ, ◌+◌, ◌*◌, ◌<◌, ◌≤◌}
use native.Mathlib.Nat.{eq-or-lt_of_le, mul-le-mul_right, suc-mul, add-mul}
use native.Mathlib.Numerals.{add-one}
use native.Mathlib.Omega.{arith}
use Rattle.places.specs.Loops.{down}
use Rattle.places.proofs.LoopLaws.{each_step, each_done, down_step, down_done}
use Rattle.places.proofs.PlaceLaws.{row_inside, le-or-lt}
use Rattle.bands.specs.Bands.{place}

-- r rows after row k of n
pub rows-after : (w k r n : ℕ) → k + 1 + r ≤ n → k * w + w + r * w ≤ n * w
rows-after w k r n h = rw (add-one, add-mul, suc-mul) at (mul-le-mul_right {m = k + 1 + r} {n = n} w h)

-- no two entries of a band stand in one place
pub place_one : (w h i j i' j' : ℕ) → i ≤ j + h → j + h < i + w → i' ≤ j' + h → j' + h < i' + w → place w h i j ≡ place w h i' j' → (i ≡ i') × (j ≡ j')
place_one w h i j i' j' a b c d e =
    ⊎_elim
    (λ (z : i ≡ i'). (z, omega (arith, rw z at e, rw z at a)))
    (λ o. absurd (⊎_elim (λ (l : i < i'). omega (arith, row_inside i i' w l)) (λ (l : i' < i). omega (arith, row_inside i' i w l)) o))
    (same-or i i')
  where
    same-or : (m n : ℕ) → (m ≡ n) ⊎ ((m < n) ⊎ (n < m))
    same-or m n = ⊎_elim (λ u. ⊎_elim (λ z. inl z) (λ l. inr (inl l)) (eq-or-lt_of_le u)) (λ l. inr (inr l)) (le-or-lt m n)

-- a loop that has counted down
pub down_none : {S : Type 0} (k : ℕ) (f : ℕ → S → S) (s : S) → k ≤ 0 → down k f s ≡ s
down_none k f s h = let z : k ≡ 0 = omega arith in rw z (down_done f s)

-- a turn of a loop over rows, its end, and a row's places within those of all
pub ruleset loops = (each_step, each_done, down_step, down_none, row_inside)

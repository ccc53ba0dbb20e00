-- The total order of doubles, that of Rust's `f64::total_cmp`, and sorting by it. Definitions only.
use Rattle.std.specs.Prelude.{◌≡◌, ℕ, ◌+◌, ◌-◌, ◌^◌, ◌<◌, ◌≤◌, Bool, true, false, cond, List, [], ◌∷◌, nat_lt, count_by, pos, T, is_nan, to_bits, Float}
use Rattle.std.specs.Float.{nan, fin, binary64}
use Rattle.std.specs.Float.Ieee.{fits, lt}

-- A double's rank in the total order. Bit patterns without the sign rank by their number, above those with it, which rank the other way round:
-- so -0 is below +0, and the one NaN is above all.
unfoldable pub rank_of : Float → ℕ
rank_of x = let b = to_bits binary64 x in cond (nat_lt b (2 ^ 63)) (2 ^ 63 + b) (2 ^ 64 - 1 - b)

-- v put before the first value that ranks above it
unfoldable pub inserted : Float → List Float → List Float
inserted v [] = v ∷ []
inserted v (x ∷ xs) = let rest = inserted v xs in cond (nat_lt (rank_of v) (rank_of x)) (v ∷ x ∷ xs) (x ∷ rest)

-- the values of a list put, one after the other, into one that is sorted
unfoldable pub sorted_onto : List Float → List Float → List Float
sorted_onto done [] = done
sorted_onto done (v ∷ vs) = sorted_onto (inserted v done) vs

unfoldable pub sorted : List Float → List Float
sorted xs = sorted_onto [] xs

-- no value of the list ranks below v; and none below one that stands before it
abbrev pub NoneBelow : Float → List Float → Type 0
NoneBelow v [] = Unit {0}
NoneBelow v (x ∷ xs) = (rank_of v ≤ rank_of x) × NoneBelow v xs

abbrev pub Ascending : List Float → Type 0
Ascending [] = Unit {0}
Ascending (x ∷ xs) = NoneBelow x xs × Ascending xs

-- What makes numbers the ranks of IEEE 754's total order (5.10) of all doubles, the infinities and the one NaN too: what is less ranks below, -0 below 0, every number below
-- the NaN, and no two share a rank. `proofs/OrderLaws` shows that `rank_of` is so (`total_order`).
pub record IsTotalOrder (rank : Float → ℕ) : Type 0 where
  pub less : (x y : Float) → T (fits binary64 x) → T (fits binary64 y) → lt x y ≡ true → rank x < rank y
  pub zeros : rank (fin true 0 (pos 0)) < rank (fin false 0 (pos 0))
  pub nan_last : (x : Float) → T (fits binary64 x) → is_nan x ≡ false → rank x < rank nan
  pub alone : (x y : Float) → T (fits binary64 x) → T (fits binary64 y) → rank x ≡ rank y → x ≡ y

-- ys is xs sorted: it ascends, and as many of its values pass any test as of those of xs. `proofs/OrderLaws` shows that `sorted xs` is so (`is_sorted`).
pub record IsSorted (xs ys : List Float) : Type 0 where
  pub ascending : Ascending ys
  pub same : (p : Float → Bool) → count_by p ys ≡ count_by p xs

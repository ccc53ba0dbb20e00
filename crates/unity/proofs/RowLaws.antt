-- One degree of the basis functions' recurrence: where the degree before has no negative value and no value above 2, none of its own is negative, and the exact sum
-- strays by ten parts in 2 ^ 53 and 75 units a function. Assumes nothing.
use mathlib.Core.Path.{◌≡◌, refl, sym, ap, subst}
use mathlib.Core.Logic.{◌⊎◌, inl, inr}
use Prim.Native.Nat.{ℕ, zero, suc, ◌+◌, ◌-◌, ◌*◌, ◌/◌, ◌^◌, ◌≤◌, ◌<◌}
use native.Mathlib.Nat.{le_refl, le_trans, eq-or-lt_of_le, add-le-add, mul-le-mul, mul-le-mul_right, mul-le-mul_left, le_of_mul-le-mul_right, le_of_mul-le-mul_left}
use native.Mathlib.Omega.{arith}
use lib.Dec.{lit<, lit≤}
use lib.Pow.{pow_pos}
use lib.Ieee.{Float}
use Rattle.geometry.specs.Doubles.{◌⊕◌, ◌⊗◌, ◌⊘◌, one}
use Rattle.geometry.specs.Nearest.{units_in_one, in_units}
use Rattle.bspline.specs.Basis.{share, rising, row}
use Rattle.bspline.proofs.Recurrence.{row_next, row_last}
use Rattle.unity.specs.Unity.{least_width}
use Rattle.geometry.proofs.ErrorLaws.{Close, near_twice}
use Rattle.unity.proofs.SumLaws.{total}
use Rattle.geometry.proofs.UnitLaws.{units_pos, NonNegative, nought_nonnegative, nought_units, one_nonnegative, one_units}
use Rattle.geometry.proofs.OperationLaws.{big, add_close, mul_close, div_close}
use Rattle.unity.proofs.SharingLaws.{shared, row_close}

-- ---- sizes on whole numbers: 1 is o units, and two distances come to at least q units
module _ (o q : ℕ) (O : 0 < o) (Q : o ≤ 4194304 * q) (Q' : 4 ≤ q) where
  sum_hi : (l r : ℕ) → l ≤ 4 * o → r ≤ 4 * o → r + l ≤ 8 * o
  sum_hi l r h k = omega arith

  width_hi : (s w : ℕ) → s ≤ 8 * o → w ≤ 2 * (s + 1) → w ≤ 32 * o
  width_hi s w h k = omega arith

  width_lo : (s w : ℕ) → q ≤ s → s ≤ 2 * (w + 1) → o ≤ 16777216 * w
  width_lo s w h k = omega arith

  width_pos : (w : ℕ) → o ≤ 16777216 * w → 0 < w
  width_pos w h = omega arith

  inverse_hi : (w i : ℕ) → 0 < w → o ≤ 16777216 * w → i * w ≤ 2 * (o * o + w) → i ≤ 67108864 * o
  inverse_hi w i W h k =
      let m : o * o ≤ 16777216 * w * o = mul-le-mul_right o h in
      let n : w * 1 ≤ w * o = mul-le-mul_left w O in
      le_of_mul-le-mul_right {m = i} {n = 67108864 * o} {k = w} (omega arith) W

  share_hi : (n i t : ℕ) → n ≤ 2 * o → i ≤ 67108864 * o → t * o ≤ 2 * (n * i + o) → t ≤ 2 ^ 29 * o
  share_hi n i t h l k =
      let m : n * i ≤ 2 * o * i = mul-le-mul_right i h in
      let x : 2 * o * i ≤ 2 * o * (67108864 * o) = mul-le-mul_left (2 * o) l in
      let y : o * 1 ≤ o * o = mul-le-mul_left o O in
      le_of_mul-le-mul_right {m = t} {n = 2 ^ 29 * o} {k = o} (omega arith) O

  term_hi : (l t a : ℕ) → l ≤ 4 * o → t ≤ 2 ^ 29 * o → a * o ≤ 2 * (l * t + o) → a ≤ 2 ^ 33 * o
  term_hi l t a h k m =
      let n : l * t ≤ 4 * o * (2 ^ 29 * o) = mul-le-mul h k in
      let y : o * 1 ≤ o * o = mul-le-mul_left o O in
      le_of_mul-le-mul_right {m = a} {n = 2 ^ 33 * o} {k = o} (omega arith) O

  -- a product of numbers that are at most m and n is below the bound b, and so is 1 / w
  under : (m n x y b : ℕ) → x ≤ m * o → y ≤ n * o → m * n * o ≤ b → x * y ≤ b * o
  under m n x y b h k l =
      let u : x * y ≤ m * o * (n * o) = mul-le-mul h k in
      let v : m * n * o * o ≤ b * o = mul-le-mul_right o l in
      omega arith

  under_inverse : (w b : ℕ) → o ≤ 16777216 * w → 16777216 * o ≤ b → o * o ≤ b * w
  under_inverse w b h l =
      let u : o * o ≤ 16777216 * w * o = mul-le-mul_right o h in
      let v : 16777216 * o * w ≤ b * w = mul-le-mul_right w l in
      omega arith

-- ---- one value x, shared by the distances L and R

-- two distances are together at least a quarter of a span
abbrev pub least : ℕ
least = least_width / 4

abbrev portion : Float → Float → Float → Float
portion x L R = x ⊗ (one ⊘ (R ⊕ L))

record Shared (x L R : Float) : Type 0 where
  left_nonnegative : NonNegative (L ⊗ portion x L R)
  right_nonnegative : NonNegative (R ⊗ portion x L R)
  left_le : in_units (L ⊗ portion x L R) ≤ 2 ^ 33 * units_in_one
  right_le : in_units (R ⊗ portion x L R) ≤ 2 ^ 33 * units_in_one
  close : Close (2 ^ 53) 8 74 (in_units (L ⊗ portion x L R) + in_units (R ⊗ portion x L R)) (in_units x)

share_close : (x L R : Float) → NonNegative x → NonNegative L → NonNegative R
    → in_units x ≤ 2 * units_in_one → in_units L ≤ 4 * units_in_one → in_units R ≤ 4 * units_in_one → least ≤ in_units R + in_units L → Shared x L R
share_close x L R hx hL hR x-le L-le R-le wide =
    let p = 2 ^ 53 in
    let P : 0 < 2 ^ 53 = pow_pos 53 in
    let P1 : 1 ≤ 2 ^ 53 = lit≤ tt in
    let o = units_in_one in
    let O : 0 < o = units_pos in
    let Q : o ≤ 4194304 * least = lit≤ tt in
    let Q' : 4 ≤ least = lit≤ tt in
    let l = in_units L in
    let r = in_units R in
    let n = in_units x in
    let s-le = sum_hi o least O Q Q' l r L-le R-le in
    let aw = add_close R L hR hL (le_trans s-le (lit≤ tt)) in
    let w = in_units (R ⊕ L) in
    let w_le = width_hi o least O Q Q' (r + l) w s-le (near_twice p 1 1 w (r + l) P P1 aw.1.0) in
    let w-ge = width_lo o least O Q Q' (r + l) w wide (near_twice p 1 1 (r + l) w P P1 aw.1.1) in
    let w-pos = width_pos o least O Q Q' w w-ge in
    let ai = div_close one (R ⊕ L) one_nonnegative aw.0 w-pos (subst (λ (y : ℕ). y * o ≤ big * w) (sym one_units) (under_inverse o least O Q Q' w big w-ge (lit≤ tt))) in
    let i = in_units (one ⊘ (R ⊕ L)) in
    let ci : Close p 1 w (i * w) (o * o) = subst (λ (y : ℕ). Close p 1 w (i * w) (y * o)) one_units ai.1 in
    let i-le = inverse_hi o least O Q Q' w i w-pos w-ge (near_twice p 1 w (i * w) (o * o) P P1 ci.0) in
    let at = mul_close x (one ⊘ (R ⊕ L)) hx ai.0 (under o least O Q Q' 2 67108864 n i big x-le i-le (lit≤ tt)) in
    let t = in_units (portion x L R) in
    let t-le = share_hi o least O Q Q' n i t x-le i-le (near_twice p 1 o (t * o) (n * i) P P1 at.1.0) in
    let aa = mul_close L (portion x L R) hL at.0 (under o least O Q Q' 4 (2 ^ 29) l t big L-le t-le (lit≤ tt)) in
    let ab = mul_close R (portion x L R) hR at.0 (under o least O Q Q' 4 (2 ^ 29) r t big R-le t-le (lit≤ tt)) in
    let a = in_units (L ⊗ portion x L R) in
    let b = in_units (R ⊗ portion x L R) in
    record {
      left_nonnegative = aa.0;
      right_nonnegative = ab.0;
      left_le = term_hi o least O Q Q' l t a L-le t-le (near_twice p 1 o (a * o) (l * t) P P1 aa.1.0);
      right_le = term_hi o least O Q Q' r t b R-le t-le (near_twice p 1 o (b * o) (r * t) P P1 ab.1.0);
      close = shared p o l r w i t a b n (lit≤ tt) O aw.1 ci at.1 aa.1 ab.1 (le_trans (lit≤ tt) wide) (enough w w-ge) L-le R-le x-le w_le;
    }
  where
    enough : (w : ℕ) → units_in_one ≤ 16777216 * w → 2 ^ 53 + 1 ≤ w
    enough w h = le_of_mul-le-mul_left {m = 2 ^ 53 + 1} {n = w} {k = 16777216} (le_trans (lit≤ tt) h) (lit< tt)

-- ---- one degree

-- the distances 1 to d of a parameter from the knots below it and above it: not negative, not above 4, and together at least a quarter of a span
pub record Distances (left right : ℕ → Float) (d : ℕ) : Type 0 where
  pub left_nonnegative : (j : ℕ) → 1 ≤ j → j ≤ d → NonNegative (left j)
  pub right_nonnegative : (j : ℕ) → 1 ≤ j → j ≤ d → NonNegative (right j)
  pub left_le : (j : ℕ) → 1 ≤ j → j ≤ d → in_units (left j) ≤ 4 * units_in_one
  pub right_le : (j : ℕ) → 1 ≤ j → j ≤ d → in_units (right j) ≤ 4 * units_in_one
  pub wide : (j k : ℕ) → 1 ≤ j → j ≤ d → 1 ≤ k → k ≤ d → least ≤ in_units (right k) + in_units (left j)

module _ (left right N : ℕ → Float) (j : ℕ) (D : Distances left right j) (held : (r : ℕ) → r < j → NonNegative (N r)) (small : (r : ℕ) → r < j → in_units (N r) ≤ 2 * units_in_one) where
  shared_at : (r : ℕ) → r < j → Shared (N r) (left (j - r)) (right (r + 1))
  shared_at r h =
      let a : 1 ≤ j - r = omega arith in
      let b : j - r ≤ j = omega arith in
      let c : 1 ≤ r + 1 = omega arith in
      let d : r + 1 ≤ j = omega arith in
      share_close (N r) (left (j - r)) (right (r + 1)) (held r h) (D.left_nonnegative (j - r) a b) (D.right_nonnegative (r + 1) c d) (small r h)
      (D.left_le (j - r) a b) (D.right_le (r + 1) c d) (D.wide (j - r) (r + 1) a b c d)

  -- the two terms of a function: `rising`, and this one
  abbrev second : ℕ → Float
  second r = right (r + 1) ⊗ share left right N j r

  rising_held : (r : ℕ) → r ≤ j → NonNegative (rising left right N j r) × (in_units (rising left right N j r) ≤ 2 ^ 33 * units_in_one)
  unfolding rising share
  rising_held zero h = (nought_nonnegative, subst (λ (y : ℕ). y ≤ 2 ^ 33 * units_in_one) (sym nought_units) (lit≤ tt))
  rising_held (suc r) h = ((shared_at r h).left_nonnegative, (shared_at r h).left_le)

  second_held : (r : ℕ) → r < j → NonNegative (second r) × (in_units (second r) ≤ 2 ^ 33 * units_in_one)
  unfolding share
  second_held r h = ((shared_at r h).right_nonnegative, (shared_at r h).right_le)

  row_within : (r : ℕ) → r < j → rising left right N j r ⊕ second r ≡ row left right N j r
  unfolding share
  row_within r h = row_next left right N j r (left (j - r)) (right (r + 1)) (N r) refl refl refl (rising left right N j r) h refl

  row_added : (r : ℕ) → r < j → NonNegative (row left right N j r) × Close (2 ^ 53) 1 1 (in_units (row left right N j r)) (in_units (rising left right N j r) + in_units (second r))
  row_added r h =
      let x = rising_held r (omega arith) in
      let y = second_held r h in
      subst (λ (z : Float). NonNegative z × Close (2 ^ 53) 1 1 (in_units z) (in_units (rising left right N j r) + in_units (second r))) (row_within r h)
      (add_close (rising left right N j r) (second r) x.0 y.0 (le_trans (add-le-add x.1 y.1) (lit≤ tt)))

  pub row_nonnegative : (r : ℕ) → r ≤ j → NonNegative (row left right N j r)
  row_nonnegative r h = go (eq-or-lt_of_le h)
    where
      go : (r ≡ j) ⊎ (r < j) → NonNegative (row left right N j r)
      go (inl e) = rw (e, row_last left right N j) (rising_held j (le_refl j)).0
      go (inr l) = (row_added r l).0

  pub row_sum : Close (2 ^ 53) 10 (75 * j) (total (λ r. in_units (row left right N j r)) (suc j)) (total (λ r. in_units (N r)) j)
  unfolding rising share
  row_sum =
      row_close (2 ^ 53) (λ r. in_units (row left right N j r)) (λ r. in_units (rising left right N j r)) (λ r. in_units (left (j - r) ⊗ share left right N j r)) (λ r. in_units (second r)) (λ r. in_units (N r)) j
      (lit≤ tt) nought_units (λ r h. refl) (λ r h. (row_added r h).1) (λ r h. (shared_at r h).close) (ap in_units (row_last left right N j))

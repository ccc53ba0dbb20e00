-- The root grows with the number: the larger of two roots is the root of the larger number, so one root serves a whole list (`Roots`). Assumes nothing.
use Rattle.std.proofs.Common.{◌≡◌, ℕ, zero, suc, ◌+◌, ◌-◌, ◌*◌, ◌/◌, ◌^◌, ◌<◌, ◌≤◌, Bool, true, false, cond, not, ◌||◌, T, ltb, ◌⊎◌, ℤ, pos, negsuc, sym, refl, ap, ◌∙◌, subst, inl, inr, mul-le-mul_right, zero-lt-suc, eq-zero-or-pos, mul-pos, lt_of_not-le, le_of_mul-le-mul_right, arith, lit<, ltb→lt, lt→ltb, pow_pos}
use native.Mathlib.Decide.{dec_le}
use lib.Ieee.{Float, nan, inf, fin, binary64, up, down, size, odd, units, below, level, lt, le, is_nan, of_bits, fits}
use lib.Ieee.Fits.{up_pos, down_pos}
use lib.Ieee.Order.{le_of_values}
use lib.Ieee.Positive.{positive, positive_of_value, value_pos, values_of_le}
use Rattle.geometry.specs.Doubles.{nought, larger}
use Rattle.geometry.specs.Root.{sqrt_of, whole_root, nearest_root, root_units}
use Rattle.geometry.specs.Nearest.{plain, in_units, NearestToRoot}
use Rattle.geometry.proofs.Correct.{correct, same_units, positive-plain, plain_value, root_units_is}
use Rattle.geometry.proofs.FloatOrder.{le_not_lt, lt-or-le, lt-le, le_trans_float, holds, test, fails, not-above}

-- ---- two positive finite numbers: the units of the roots are ordered as those of the numbers
clash : (r s x y : ℕ) → x ≤ y → (r + s) * (r + s) < 4 * x → 4 * y < (s + r) * (s + r) → ⊥
clash r s x y h a b = omega arith

units_mono : (x y r s : Float) → NearestToRoot x r → NearestToRoot y s → in_units x ≤ in_units y → in_units r ≤ in_units s
units_mono x y r s R S h = go (dec_le (in_units r) (in_units s))
  where
    go : Dec (in_units r ≤ in_units s) → in_units r ≤ in_units s
    go (yes l) = l
    go (no f) =
        let l = lt_of_not-le f in
        absurd (clash (in_units r) (in_units s) (in_units x * 2 ^ 1074) (in_units y * 2 ^ 1074) (mul-le-mul_right (2 ^ 1074) h) (R.above s S.held S.is_plain l) (S.below r R.held R.is_plain l))

-- a root is above 0: the least positive value is no nearer to it than 0 is
root_units_pos : (x r : Float) → 0 < in_units x → NearestToRoot x r → 0 < in_units r
root_units_pos x r p R = go (eq-zero-or-pos (in_units r))
  where
    small : (a : ℕ) → 0 < a → 4 * a < (0 + 1) * (0 + 1) → ⊥
    small a p h = omega arith

    go : (in_units r ≡ 0) ⊎ (0 < in_units r) → 0 < in_units r
    go (inl z) =
        absurd (small (in_units x * 2 ^ 1074) (mul-pos p (pow_pos 1074))
        (subst (λ (n : ℕ). 4 * (in_units x * 2 ^ 1074) < (n + 1) * (n + 1)) z
        (R.below (fin false 1 (negsuc 1073)) (unfold fits in tt) tt (subst (λ (n : ℕ). n < 1) (sym z) (lit< tt)))))
    go (inr q) = q

module _ (x : Float) (h : T (fits binary64 x)) (p : T (positive x)) where
  number : 0 < in_units x
  number = value_pos x (in_units x) (2 ^ 1074) p (pow_pos 1074) (plain_value x h (positive-plain x p))

  root_positive : T (positive (sqrt_of x))
  root_positive =
      let R = correct x h p in
      positive_of_value (sqrt_of x) (in_units (sqrt_of x)) (2 ^ 1074) (plain_value (sqrt_of x) R.held R.is_plain) (root_units_pos x (sqrt_of x) number R)

is_positive : (m : ℕ) (e : ℤ) → T (positive (fin false (suc m) e))
is_positive m e = lt→ltb 0 (suc m) (zero-lt-suc m)

positive-number : (x : Float) → T (positive x) → T (not (is_nan x))
unfolding is_nan
positive-number nan p = absurd p
positive-number (inf s) p = absurd p
positive-number (fin s m e) p = tt

units_of-le : (x y : Float) → T (fits binary64 x) → T (positive x) → T (fits binary64 y) → T (positive y) → T (le x y) → in_units x ≤ in_units y
units_of-le x y hx px hy py l =
    le_of_mul-le-mul_right (values_of_le x y (in_units x) (2 ^ 1074) (in_units y) (2 ^ 1074) px py (plain_value x hx (positive-plain x px)) (plain_value y hy (positive-plain y py)) l) (pow_pos 1074)

le_of_units : (x y : Float) → T (fits binary64 x) → T (plain x) → T (fits binary64 y) → T (plain y) → in_units x ≤ in_units y → T (le x y)
le_of_units x y hx px hy py l =
    le_of_values x y (in_units x) (2 ^ 1074) (in_units y) (2 ^ 1074) (pow_pos 1074) (pow_pos 1074) (plain_value x hx px) (plain_value y hy py) (mul-le-mul_right (2 ^ 1074) l)

module _ (x y : Float) (hx : T (fits binary64 x)) (px : T (positive x)) (hy : T (fits binary64 y)) (py : T (positive y)) where
  abbrev X : NearestToRoot x (sqrt_of x)
  X = correct x hx px

  abbrev Y : NearestToRoot y (sqrt_of y)
  Y = correct y hy py

  mono : T (le x y) → in_units (sqrt_of x) ≤ in_units (sqrt_of y)
  mono l = units_mono x y (sqrt_of x) (sqrt_of y) X Y (units_of-le x y hx px hy py l)

  -- where the numbers are in order, the roots are, or they are one
  root-above : T (lt x y) → T (lt (sqrt_of x) (sqrt_of y)) ⊎ (sqrt_of x ≡ sqrt_of y)
  root-above l =
      elim (lt-or-le (sqrt_of y) (sqrt_of x) (positive-number (sqrt_of y) (root_positive y hy py)) (positive-number (sqrt_of x) (root_positive x hx px))) [
        | inl a ↦ inl a
        | inr a ↦ inr (same_units (sqrt_of x) (sqrt_of y) X.held X.is_plain Y.held Y.is_plain (meet (mono (lt-le x y l)) (units_of-le (sqrt_of y) (sqrt_of x) Y.held (root_positive y hy py) X.held (root_positive x hx px) a)))
      ]
    where
      meet : {a b : ℕ} → a ≤ b → b ≤ a → a ≡ b
      meet h k = omega arith

  root-not-below : T (le x y) → lt (sqrt_of y) (sqrt_of x) ≡ false
  root-not-below l = fails _ (le_not_lt (sqrt_of x) (sqrt_of y) (le_of_units (sqrt_of x) (sqrt_of y) X.held X.is_plain Y.held Y.is_plain (mono l)))

-- ---- the other values
lt_nan : (x : Float) → lt x nan ≡ false
unfolding lt
lt_nan nan = refl
lt_nan (inf s) = refl
lt_nan (fin s m e) = refl

lt_top : (x : Float) → lt (inf false) x ≡ false
unfolding lt
lt_top nan = refl
lt_top (inf s) = refl
lt_top (fin s m e) = refl

below_top : (x : Float) → T (positive x) → T (lt x (inf false))
unfolding lt
below_top nan p = absurd p
below_top (inf s) p = absurd p
below_top (fin s m e) p = tt

pub above_zero : (s : Bool) (e : ℤ) (x : Float) → T (positive x) → T (lt (fin s zero e) x)
unfolding lt
above_zero s e nan p = absurd p
above_zero s e (inf t) p = absurd p
above_zero s e (fin true m d) p = absurd p
above_zero true e (fin false m d) p = let l = mul-pos (mul-pos (ltb→lt 0 m p) (up_pos d)) (down_pos e) in lt→ltb 0 (0 * up e * down d + m * up d * down e) (omega arith)
above_zero false e (fin false m d) p = let l = mul-pos (mul-pos (ltb→lt 0 m p) (up_pos d)) (down_pos e) in lt→ltb (0 * up e * down d) (m * up d * down e) (omega arith)

pub negative : (m : ℕ) (e : ℤ) → T (lt (fin true (suc m) e) nought)
unfolding lt of_bits
negative m e = let l = mul-pos (mul-pos (zero-lt-suc m) (up_pos e)) (zero-lt-suc 0) in lt→ltb 0 (suc m * up e * 1 + 0 * 1 * down e) (omega arith)

zero-le : (t : Bool) (d : ℤ) → T (le (fin t zero d) nought)
unfolding le of_bits
zero-le t d = go t (0 * up d * 1) (0 * 1 * down d) (omega arith) (omega arith)
  where
    go : (t : Bool) (a b : ℕ) → a ≡ 0 → b ≡ 0 → T (below t a false b || level t a false b)
    go true a b e f = rw (e, f) tt
    go false a b e f = rw (e, f) tt

positive-above : (x : Float) → T (positive x) → T (le nought x)
unfolding of_bits
positive-above x p = lt-le nought x (above_zero false (pos 0) x p)

-- nothing from 0 on is below a negative number or a zero
not-below : (x y : Float) → T (le nought x) → T (le y nought) → lt x y ≡ false
not-below x y h k = fails (lt x y) (le_not_lt y x (le_trans_float y nought x k h))

-- a root is NaN where the number is one or is below 0
units_number : (q k : ℕ) → is_nan (units binary64 false q k) ≡ false
unfolding units is_nan
units_number q k = go (ltb (q * 2 ^ k) (2 ^ 2098)) q
  where
    go : (b : Bool) (q : ℕ) → is_nan (cond b (odd 54 false q k 1074) (inf false)) ≡ false
    go true zero = refl
    go true (suc q) = refl
    go false q = refl

root-number : (n : ℕ) → is_nan (root_units n) ≡ false
root-number n = ap is_nan (root_units_is n) ∙ units_number (nearest_root n (size (whole_root n) - 53)) (size (whole_root n) - 53)

pub root_nan : (s : Float) → is_nan (sqrt_of s) ≡ not (le nought s)
unfolding sqrt_of is_nan le of_bits
root_nan nan = refl
root_nan (inf true) = refl
root_nan (inf false) = refl
root_nan (fin t zero e) = ap not (sym (holds (le nought (fin t zero e)) (le-zero t e)))
  where
    le-zero : (t : Bool) (e : ℤ) → T (le nought (fin t zero e))
    le-zero t e = go t (0 * 1 * down e) (0 * up e * 1) (omega arith) (omega arith)
      where
        go : (t : Bool) (a b : ℕ) → a ≡ 0 → b ≡ 0 → T (below false a t b || level false a t b)
        go true a b e f = rw (e, f) tt
        go false a b e f = rw (e, f) tt
root_nan (fin true (suc m) e) = ap not (sym (fails (le nought (fin true (suc m) e)) (λ l. le_not_lt nought (fin true (suc m) e) l (negative m e))))
root_nan (fin false (suc m) e) = root-number (suc m * up e * 2 ^ 2148 / down e) ∙ ap not (sym (holds (le nought (fin false (suc m) e)) (positive-above (fin false (suc m) e) (is_positive m e))))

-- ---- the larger of two roots
pub root_from-zero : (a : Float) → T (fits binary64 a) → T (le nought a) → T (le nought (sqrt_of a))
unfolding sqrt_of le of_bits
root_from-zero nan h l = absurd l
root_from-zero (inf true) h l = absurd l
root_from-zero (inf false) h l = tt
root_from-zero (fin t zero e) h l = l
root_from-zero (fin true (suc m) e) h l = absurd (le_not_lt nought (fin true (suc m) e) l (negative m e))
root_from-zero (fin false (suc m) e) h l = positive-above (sqrt_of (fin false (suc m) e)) (root_positive (fin false (suc m) e) h (is_positive m e))

module _ (a s : Float) where
  second : T (lt a s) → T (lt (sqrt_of a) (sqrt_of s)) ⊎ (sqrt_of a ≡ sqrt_of s) → larger (sqrt_of a) (sqrt_of s) ≡ sqrt_of (larger a s)
  unfolding larger
  second l (inl r) = rw (holds (lt a s) l, holds (lt (sqrt_of a) (sqrt_of s)) r)
  second l (inr e) = rw (holds (lt a s) l, e) (one (lt (sqrt_of s) (sqrt_of s)))
    where
      one : (b : Bool) → cond b (sqrt_of s) (sqrt_of s) ≡ sqrt_of s
      one true = refl
      one false = refl

  first : lt a s ≡ false → lt (sqrt_of a) (sqrt_of s) ≡ false → larger (sqrt_of a) (sqrt_of s) ≡ sqrt_of (larger a s)
  unfolding larger
  first l r = rw (l, r)

ordered-larger : (a s : Float) → T (fits binary64 a) → T (positive a) → T (fits binary64 s) → T (positive s) → larger (sqrt_of a) (sqrt_of s) ≡ sqrt_of (larger a s)
ordered-larger a s ha pa hs ps =
    elim (lt-or-le s a (positive-number s ps) (positive-number a pa)) [
      | inl l ↦ second a s l (root-above a s ha pa hs ps l)
      | inr l ↦ first a s (not-above s a (holds _ l)) (root-not-below s a hs ps ha pa l)
    ]

with_top : (a : Float) → T (fits binary64 a) → T (le nought a) → larger (sqrt_of a) (sqrt_of (inf false)) ≡ sqrt_of (larger a (inf false))
unfolding sqrt_of le lt of_bits
with_top nan ha l = absurd l
with_top (inf true) ha l = absurd l
with_top (inf false) ha l = first (inf false) (inf false) refl refl
with_top (fin t zero e) ha l = second (fin t zero e) (inf false) tt (inl tt)
with_top (fin true (suc m) e) ha l = second (fin true (suc m) e) (inf false) tt (absurd (le_not_lt nought (fin true (suc m) e) l (negative m e)))
with_top (fin false (suc m) e) ha l = second (fin false (suc m) e) (inf false) tt (inl (below_top (sqrt_of (fin false (suc m) e)) (root_positive (fin false (suc m) e) ha (is_positive m e))))

with_positive : (a s : Float) → T (fits binary64 a) → T (le nought a) → T (fits binary64 s) → T (positive s) → larger (sqrt_of a) (sqrt_of s) ≡ sqrt_of (larger a s)
unfolding sqrt_of le of_bits
with_positive nan s ha l hs ps = absurd l
with_positive (inf true) s ha l hs ps = absurd l
with_positive (inf false) s ha l hs ps = first (inf false) s (lt_top s) (lt_top (sqrt_of s))
with_positive (fin t zero e) s ha l hs ps = second (fin t zero e) s (above_zero t e s ps) (inl (above_zero t e (sqrt_of s) (root_positive s hs ps)))
with_positive (fin true (suc m) e) s ha l hs ps = absurd (le_not_lt nought (fin true (suc m) e) l (negative m e))
with_positive (fin false (suc m) e) s ha l hs ps = ordered-larger (fin false (suc m) e) s ha (is_positive m e) hs ps

larger-T : (a s : Float) → T (fits binary64 a) → T (fits binary64 s) → T (le nought a) → larger (sqrt_of a) (sqrt_of s) ≡ sqrt_of (larger a s)
unfolding sqrt_of le of_bits
larger-T a nan ha hs l = first a nan (lt_nan a) (lt_nan (sqrt_of a))
larger-T a (inf true) ha hs l = first a (inf true) (not-below a (inf true) l tt) (lt_nan (sqrt_of a))
larger-T a (inf false) ha hs l = with_top a ha l
larger-T a (fin t zero d) ha hs l = first a (fin t zero d) (not-below a (fin t zero d) l (zero-le t d)) (not-below (sqrt_of a) (fin t zero d) (root_from-zero a ha l) (zero-le t d))
larger-T a (fin true (suc n) d) ha hs l = first a (fin true (suc n) d) (not-below a (fin true (suc n) d) l (lt-le (fin true (suc n) d) nought (negative n d))) (lt_nan (sqrt_of a))
larger-T a (fin false (suc n) d) ha hs l = with_positive a (fin false (suc n) d) ha l hs (is_positive n d)

pub root-larger : (a s : Float) → T (fits binary64 a) → T (fits binary64 s) → le nought a ≡ true → larger (sqrt_of a) (sqrt_of s) ≡ sqrt_of (larger a s)
root-larger a s ha hs l = larger-T a s ha hs (test l)

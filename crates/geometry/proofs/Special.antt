-- `sqrt_of` at a NaN, a zero, a negative value and the infinity, by the tests that `sqrt` makes, and at a positive value by its pattern. Assumes nothing.
use Rattle.std.proofs.Common.{◌≡◌, ℕ, zero, suc, ◌+◌, ◌*◌, ◌^◌, ◌<◌, ◌≤◌, Bool, true, false, not, T, eqb, ◌⊎◌, ℤ, sym, refl, ap, ◌∙◌, subst, inl, inr, true≢false, lt_irrefl, zero-lt-suc, eq-zero-or-pos, mul-pos, zero-mul, arith, eqb→eq, ltb-false, ltb-true}
use mathlib.Core.Bool.{false≢true}
use lib.Ieee.{Float, nan, inf, fin, binary64, up, down, of_bits, to_bits, nan_bits, div, lt, eq, is_nan, fits}
use lib.Ieee.Fits.{up_pos, and_l}
use lib.Ieee.Bits.{of_bits-to_bits}
use lib.Ieee.Exact.{HasValue}
use Rattle.geometry.specs.Root.{sqrt_of}
use Rattle.geometry.specs.RootSteps.{root_bits, pattern_units}
use Rattle.geometry.proofs.Patterns.{NotPositive, value_of, units_range, squared_range, root_pattern, root_no_nan, sqrt-at}

-- the size of m * 2 ^ e, m above 0, as `lt` and `eq` compare it with 0
size_pos : (m : ℕ) (e : ℤ) → 0 < suc m * up e * 1
size_pos m e = mul-pos (mul-pos (zero-lt-suc m) (up_pos e)) (zero-lt-suc 0)

of_true : {b : Bool} → b ≡ true → T b
of_true e = subst T (sym e) tt

pub at_nan : (x : Float) → is_nan x ≡ true → x ≡ sqrt_of x
unfolding is_nan sqrt_of
at_nan nan t = refl
at_nan (inf s) t = absurd (false≢true t)
at_nan (fin s m e) t = absurd (false≢true t)

pub at_zero : (x : Float) → eq x (of_bits binary64 0) ≡ true → x ≡ sqrt_of x
unfolding eq of_bits sqrt_of
at_zero nan t = refl
at_zero (inf true) t = absurd (false≢true t)
at_zero (inf false) t = refl
at_zero (fin s zero e) t = refl
at_zero (fin s (suc m) e) t =
    let a = suc m * up e * 1 in
    absurd (lt_irrefl 0 (subst (λ (x : ℕ). 0 < x) (eqb→eq a (0 * down e) (and_l (eqb a (0 * down e)) _ (of_true t)) ∙ zero-mul (down e)) (size_pos m e)))

pub at_negative : (x : Float) → lt x (of_bits binary64 0) ≡ true → div binary64 (of_bits binary64 0) (of_bits binary64 0) ≡ sqrt_of x
unfolding lt of_bits div sqrt_of
at_negative nan t = refl
at_negative (inf true) t = refl
at_negative (inf false) t = absurd (false≢true t)
at_negative (fin true zero e) t = let h = ltb-true 0 (0 * up e * 1 + 0 * down e) t in absurd (omega arith)
at_negative (fin true (suc m) e) t = refl
at_negative (fin false zero e) t = let h = ltb-true (0 * up e * 1) (0 * down e) t in absurd (omega arith)
at_negative (fin false (suc m) e) t = let h = ltb-true (suc m * up e * 1) (0 * down e) t in absurd (omega arith)

-- x is no zero, so its pattern is not 0
pub not-zero : (x : Float) → T (fits binary64 x) → eq x (of_bits binary64 0) ≡ false → 0 < to_bits binary64 x
not-zero x h t = go (eq-zero-or-pos (to_bits binary64 x))
  where
    zero_is-zero : eq (of_bits binary64 0) (of_bits binary64 0) ≡ true
    zero_is-zero = unfold eq of_bits in refl

    go : (to_bits binary64 x ≡ 0) ⊎ (0 < to_bits binary64 x) → 0 < to_bits binary64 x
    go (inl e) =
        let z : of_bits binary64 0 ≡ x = ap (of_bits binary64) (sym e) ∙ of_bits-to_bits binary64 x h in
        absurd (true≢false (sym zero_is-zero ∙ ap (λ (v : Float). eq v (of_bits binary64 0)) z ∙ t))
    go (inr p) = p

pub at_infinity : (x : Float) → lt x (of_bits binary64 0) ≡ false → NotPositive x → x ≡ sqrt_of x
unfolding lt of_bits sqrt_of
at_infinity nan t n = refl
at_infinity (inf true) t n = absurd (true≢false t)
at_infinity (inf false) t n = refl
at_infinity (fin s zero e) t n = refl
at_infinity (fin true (suc m) e) t n = let h = ltb-false 0 (suc m * up e * 1 + 0 * down e) t in let k = size_pos m e in absurd (omega arith)
at_infinity (fin false (suc m) e) t n = absurd n

-- the pattern of a positive finite value's root is that of a number, which is the root
module _ (b r : ℕ) (pos : 0 < b) (finite : b < 9218868437227405312) (e : r ≡ root_bits (pattern_units b * 2 ^ 1074)) where
  range : (2 ^ 1074 ≤ pattern_units b * 2 ^ 1074) × (pattern_units b * 2 ^ 1074 < 2 ^ 3172)
  range = let u = units_range b pos finite in squared_range (pattern_units b) u.0 u.1

  pub root_is-number : T (not (nan_bits binary64 r))
  root_is-number = subst (λ (t : Bool). T (not t)) (sym (ap (nan_bits binary64) e ∙ root_no_nan (pattern_units b * 2 ^ 1074) range.0 range.1)) tt

  pub at_positive : (x : Float) → T (fits binary64 x) → to_bits binary64 x ≡ b → of_bits binary64 r ≡ sqrt_of x
  at_positive x h same =
      let v : HasValue x false (pattern_units b) (2 ^ 1074) =
      subst (λ (y : Float). HasValue y false (pattern_units b) (2 ^ 1074)) (ap (of_bits binary64) (sym same) ∙ of_bits-to_bits binary64 x h) (value_of b finite) in
      ap (of_bits binary64) e ∙ root_pattern (pattern_units b * 2 ^ 1074) range.0 range.1 ∙ sym (sqrt-at x (pattern_units b) (units_range b pos finite).0 v)

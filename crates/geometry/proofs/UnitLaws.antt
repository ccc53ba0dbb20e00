-- Doubles that are finite and not negative (a zero may have either sign), and their order, by their exact values in units of 2 ^ -1074. Assumes nothing.
use mathlib.Core.Path.{◌≡◌, refl, sym, ap, ◌∙◌, subst}
use mathlib.Core.Logic.{◌⊎◌, inl, inr}
use Prim.Native.Nat.{ℕ, zero, suc, ◌*◌, ◌/◌, ◌≤◌, ◌<◌, zero-le}
use native.Mathlib.Nat.{le_trans, le_of_eq, zero-lt-suc, eq-zero-or-pos, zero-mul, mul-pos, mul-div_cancel, eq_of_mul-eq-mul_right, le_of_mul-le-mul_right}
use native.Mathlib.Omega.{arith}
use mathlib.Core.Bool.{Bool, true, false, ◌||◌}
use lib.IntN.{ℤ}
use lib.Dec.{T, eqb, eqb→eq}
use lib.Pow.{pow_pos}
use lib.Ieee.{Float, nan, inf, fin, binary64, up, down, below, level, le, fits, of_bits}
use lib.Ieee.Digits.{Equals}
use lib.Ieee.Exact.{HasValue}
use lib.Ieee.Fits.{up_pos, down_pos, and_l}
use lib.Ieee.Order.{le_of_values}
use lib.Ieee.Positive.{positive, above_of_le, positive_of_value, values_of_le}
use Rattle.geometry.specs.Doubles.{nought, one}
use Rattle.geometry.specs.Nearest.{units_in_one, in_units}
use Rattle.geometry.proofs.Correct.{plain_value}
use Rattle.geometry.proofs.FloatOrder.{test}

pub units_pos : 0 < units_in_one
units_pos = pow_pos 1074

-- x is finite, not negative, and exactly a units: a minus sign stands only at a zero
abbrev pub Units : Float → ℕ → Type 0
Units nan a = ⊥
Units (inf s) a = ⊥
Units (fin s m e) a = (m * up e * units_in_one ≡ a * down e) × (T s → a ≡ 0)

abbrev pub NonNegative : Float → Type 0
NonNegative x = Units x (in_units x)

pub units_are : (x : Float) (a : ℕ) → Units x a → in_units x ≡ a
units_are nan a h = absurd h
units_are (inf s) a h = absurd h
units_are (fin s m e) a h = ap (λ (y : ℕ). y / down e) h.0 ∙ mul-div_cancel a (down_pos e)

pub nonnegative_of : (x : Float) (a : ℕ) → Units x a → NonNegative x
nonnegative_of x a h = subst (Units x) (sym (units_are x a h)) h

pub nonnegative_exact : (x : Float) → NonNegative x → Equals x (in_units x) units_in_one
nonnegative_exact nan h = absurd h
nonnegative_exact (inf s) h = absurd h
nonnegative_exact (fin s m e) h = h.0

-- X / e is a / o: none of the one is none of the other
pub vanish : (X a e o : ℕ) → 0 < o → X * o ≡ a * e → a ≡ 0 → X ≡ 0
vanish X a e o O p z = eq_of_mul-eq-mul_right o O X 0 (p ∙ ap (λ (y : ℕ). y * e) z ∙ zero-mul e ∙ sym (zero-mul o))

some : (a : ℕ) → 0 < a → a ≡ 0 → ⊥
some a p z = omega arith

-- ---- 0 and 1

pub nought_nonnegative : NonNegative nought
unfolding of_bits
nought_nonnegative = (refl, λ t. absurd t)

pub nought_units : in_units nought ≡ 0
unfolding of_bits
nought_units = refl

pub one_nonnegative : NonNegative one
unfolding of_bits
one_nonnegative = (refl, λ t. absurd t)

pub one_units : in_units one ≡ units_in_one
unfolding of_bits
one_units = refl

-- ---- the order

-- what is above 0 has no minus sign
positive_of : (x : Float) → NonNegative x → 0 < in_units x → T (positive x) × HasValue x false (in_units x) units_in_one
positive_of nan h p = absurd h
positive_of (inf s) h p = absurd h
positive_of (fin true m e) h p = absurd (some (in_units (fin true m e)) p (h.1 tt))
positive_of (fin false m e) h p = (positive_of_value (fin false m e) (in_units (fin false m e)) units_in_one (refl, h.0) p, (refl, h.0))

positive_above : (x y : Float) → NonNegative y → T (positive x) → T (le x y) → T (positive y) × HasValue y false (in_units y) units_in_one
positive_above x nan k p l = absurd k
positive_above x (inf s) k p l = absurd k
positive_above x (fin true n d) k p l = absurd (above_of_le x (fin true n d) p l)
positive_above x (fin false n d) k p l = (above_of_le x (fin false n d) p l, (refl, k.0))

pub units_order : (x y : Float) → NonNegative x → NonNegative y → le x y ≡ true → in_units x ≤ in_units y
units_order x y h k l = go (eq-zero-or-pos (in_units x))
  where
    go : (in_units x ≡ 0) ⊎ (0 < in_units x) → in_units x ≤ in_units y
    go (inl z) = le_trans (le_of_eq z) zero-le
    go (inr p) =
        let a = positive_of x h p in
        let b = positive_above x y k a.0 (test l) in
        le_of_mul-le-mul_right (values_of_le x y (in_units x) units_in_one (in_units y) units_in_one a.0 b.0 a.1 b.1 (test l)) units_pos

-- ---- what lies from 0 to 1

-- an `f64` is a whole number of units
whole_units : (s : Bool) (m : ℕ) (e : ℤ) → T (fits binary64 (fin s m e)) → m * up e * units_in_one ≡ in_units (fin s m e) * down e
unfolding fits
whole_units s zero e h = (plain_value (fin false zero e) h tt).1
whole_units s (suc m) e h = (plain_value (fin false (suc m) e) h tt).1

not_from_zero : (m : ℕ) (e : ℤ) → T (le nought (fin true (suc m) e)) → ⊥
unfolding le of_bits
not_from_zero m e h =
    let B = suc m * up e * 1 in
    some B (mul-pos (mul-pos (zero-lt-suc m) (up_pos e)) (zero-lt-suc 0)) (sym (eqb→eq (0 * 1 * down e) B (and_l (eqb (0 * 1 * down e) B) _ h)) ∙ zero-mul (down e))

nothing : (e : ℤ) → in_units (fin true zero e) ≡ 0
nothing e = units_are (fin false zero e) 0 (ap (λ (x : ℕ). x * units_in_one) (zero-mul (up e)) ∙ zero-mul units_in_one ∙ sym (zero-mul (down e)), λ t. absurd t)

pub unit_interval : (x : Float) → T (fits binary64 x) → T (le nought x) → T (le x one) → NonNegative x
unfolding le of_bits
unit_interval nan f l r = absurd l
unit_interval (inf true) f l r = absurd l
unit_interval (inf false) f l r = absurd r
unit_interval (fin false m e) f l r = (whole_units false m e f, λ t. absurd t)
unit_interval (fin true zero e) f l r = (whole_units true zero e f, λ t. nothing e)
unit_interval (fin true (suc m) e) f l r = absurd (not_from_zero m e l)

-- ---- not negative, as the program tests it
zeros : (a b : ℕ) → a ≡ 0 → b ≡ 0 → T (below false a true b || level false a true b)
zeros a b p q = rw (p, q) tt

pub nonnegative_le : (x : Float) → NonNegative x → T (le nought x)
unfolding le of_bits
nonnegative_le nan h = absurd h
nonnegative_le (inf s) h = absurd h
nonnegative_le (fin false m e) h = le_of_values nought (fin false m e) 0 1 (in_units (fin false m e)) units_in_one (zero-lt-suc 0) units_pos (refl, refl) (refl, h.0) (le_trans (le_of_eq (zero-mul units_in_one)) zero-le)
nonnegative_le (fin true m e) h =
    zeros (0 * 1 * down e) (m * up e * 1) (zero-mul (down e))
    (ap (λ (w : ℕ). w * 1) (vanish (m * up e) (in_units (fin true m e)) (down e) units_in_one units_pos h.0 (h.1 tt)))

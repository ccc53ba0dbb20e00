-- Doubles without a minus sign by their exact values in units of 2 ^ -1074: their order, and what +, * and / round to. Assumes nothing.
use mathlib.Core.Path.{◌≡◌, refl, sym, ap, ◌∙◌, subst}
use Prim.Native.Nat.{ℕ, ◌+◌, ◌*◌, ◌^◌, ◌≤◌, ◌<◌}
use native.Mathlib.Nat.{le_trans, le_of_eq, mul-one, mul-pos, mul_right_comm, mul-le-mul_right, eq_of_mul-eq-mul_right, lt_irrefl}
use native.Mathlib.Omega.{arith}
use mathlib.Core.Bool.{Bool, true, false, cond, true≢false}
use lib.IntN.{ℤ}
use lib.Dec.{T, eqb, eqb→eq, ltb→lt, lit≤}
use lib.Pow.{pow_pos}
use lib.Ieee.{Float, nan, inf, fin, binary64, up, down, round, sum, add, mul, div, lt, le, eq, fits, of_bits}
use lib.Ieee.Back.{round_whole}
use lib.Ieee.Exact.{HasValue, units_val}
use lib.Ieee.Fits.{down_pos, round_is, and_l, and_r}
use lib.Ieee.Order.{drop, kept, le_of_values, round_mono}
use lib.Ieee.Positive.{first_pos}
use lib.Ieee.Scale.{grid, overflow, round_same, round_val}
use Rattle.geometry.specs.Doubles.{◌⊕◌, ◌⊗◌, ◌⊘◌, nought, one}
use Rattle.geometry.specs.Nearest.{plain, units_in_one, in_units}
use Rattle.geometry.proofs.Correct.{plain_value, same_units}
use Rattle.geometry.proofs.FloatOrder.{holds}
use Rattle.geometry.proofs.OperationLaws.{grid-fits, plus_cross, times_cross, over_cross}
use Rattle.geometry.proofs.UnitLaws.{units_pos, Units, units_are, nonnegative_of, units_order}

-- x is finite, has no minus sign, and is exactly a units
abbrev pub Exact : Float → ℕ → Type 0
Exact x a = HasValue x false a units_in_one

units_of : (x : Float) (a : ℕ) → Exact x a → Units x a
units_of nan a h = absurd h
units_of (inf s) a h = absurd h
units_of (fin s m e) a h = (h.1, λ t. absurd (subst T h.0 t))

pub exact_units : (x : Float) (a : ℕ) → Exact x a → in_units x ≡ a
exact_units x a h = units_are x a (units_of x a h)

pub exact-plain : (x : Float) (a : ℕ) → Exact x a → T (plain x)
exact-plain nan a h = absurd h
exact-plain (inf s) a h = absurd h
exact-plain (fin true m e) a h = absurd (true≢false h.0)
exact-plain (fin false m e) a h = tt

pub plain-exact : (x : Float) → T (fits binary64 x) → T (plain x) → Exact x (in_units x)
plain-exact x h p = plain_value x h p

-- two of the same value
pub exact_same : (x y : Float) (a : ℕ) → T (fits binary64 x) → T (fits binary64 y) → Exact x a → Exact y a → x ≡ y
exact_same x y a f g h k = same_units x y f (exact-plain x a h) g (exact-plain y a k) (exact_units x a h ∙ sym (exact_units y a k))

pub nought-exact : Exact nought 0
unfolding of_bits
nought-exact = (refl, refl)

pub one-exact : Exact one units_in_one
unfolding of_bits
one-exact = (refl, refl)

-- ---- the order

pub exact-le : (x y : Float) (a b : ℕ) → Exact x a → Exact y b → a ≤ b → T (le x y)
exact-le x y a b h k l = le_of_values x y a units_in_one b units_in_one units_pos units_pos h k (mul-le-mul_right units_in_one l)

pub le-exact : (x y : Float) (a b : ℕ) → Exact x a → Exact y b → T (le x y) → a ≤ b
le-exact x y a b h k l =
    let o = units_order x y (nonnegative_of x a (units_of x a h)) (nonnegative_of y b (units_of y b k)) (holds (le x y) l) in
    le_trans (le_of_eq (sym (exact_units x a h))) (le_trans o (le_of_eq (exact_units y b k)))

-- ---- one rounding, of at most a whole number b

-- the same value by another fraction
exact_whole : (y : Float) (b : ℕ) → HasValue y false b 1 → Exact y (b * units_in_one)
exact_whole nan b h = h
exact_whole (inf s) b h = h
exact_whole (fin s m e) b h = (h.0, ap (λ (x : ℕ). x * units_in_one) (sym (mul-one (m * up e)) ∙ h.1) ∙ mul_right_comm b (down e) units_in_one)

module _ (a c b : ℕ) (C : 0 < c) (h : a ≤ b * c) (few : b ≤ 2 ^ 53) where
  in_range : grid binary64 a c < overflow binary64
  in_range =
      grid-fits a c C
      (le_trans (mul-le-mul_right units_in_one h) (le_trans (le_of_eq (mul_right_comm b c units_in_one)) (mul-le-mul_right c (le_trans (mul-le-mul_right units_in_one few) (lit≤ tt)))))

  pub round_exact : Exact (round binary64 false a c) (grid binary64 a c)
  round_exact = round_val binary64 a c in_range

  pub round-most : grid binary64 a c ≤ b * units_in_one
  round-most =
      le-exact (round binary64 false a c) (round binary64 false b 1) (grid binary64 a c) (b * units_in_one) round_exact
      (exact_whole (round binary64 false b 1) b (round_whole binary64 false b few))
      (round_mono binary64 a c b 1 C (pow_pos 0) (le_trans (le_of_eq (mul-one a)) h))

  -- with either sign it is as large
  pub round_signed : (s : Bool) → HasValue (round binary64 s a c) s (grid binary64 a c) units_in_one
  round_signed s =
      subst (λ (z : Float). HasValue z s (grid binary64 a c) units_in_one) (sym (round_is binary64 s a c))
      (units_val binary64 s (kept 53 (a * 2 ^ 1074) c) (drop 53 (a * 2 ^ 1074) c) in_range)

-- ---- the operations

-- a law of two such doubles is one of finite ones
both_plain : (P : Float → Float → Type 0) (a b : ℕ)
    → ((m : ℕ) (e : ℤ) (n : ℕ) (d : ℤ) → m * up e * units_in_one ≡ a * down e → n * up d * units_in_one ≡ b * down d → P (fin false m e) (fin false n d))
    → (x y : Float) → Exact x a → Exact y b → P x y
both_plain P a b f nan y h k = absurd h
both_plain P a b f (inf s) y h k = absurd h
both_plain P a b f (fin true m e) y h k = absurd (true≢false h.0)
both_plain P a b f (fin false m e) nan h k = absurd k
both_plain P a b f (fin false m e) (inf t) h k = absurd k
both_plain P a b f (fin false m e) (fin true n d) h k = absurd (true≢false k.0)
both_plain P a b f (fin false m e) (fin false n d) h k = f m e n d h.1 k.1

pub add-exact : (x y : Float) (a b : ℕ) → Exact x a → Exact y b → x ⊕ y ≡ round binary64 false (a + b) units_in_one
unfolding add sum
add-exact x y a b h k =
    both_plain (λ x y. x ⊕ y ≡ round binary64 false (a + b) units_in_one) a b
    (λ m e n d p q.
    round_same binary64 false (m * up e * down d + n * up d * down e) (down e * down d) (a + b) units_in_one (mul-pos (down_pos e) (down_pos d)) units_pos
    (plus_cross (m * up e) (down e) (n * up d) (down d) a b units_in_one units_pos p q))
    x y h k

pub mul-exact : (x y : Float) (a b : ℕ) → Exact x a → Exact y b → x ⊗ y ≡ round binary64 false (a * b) (units_in_one * units_in_one)
unfolding mul
mul-exact x y a b h k =
    both_plain (λ x y. x ⊗ y ≡ round binary64 false (a * b) (units_in_one * units_in_one)) a b
    (λ m e n d p q.
    round_same binary64 false (m * up e * (n * up d)) (down e * down d) (a * b) (units_in_one * units_in_one) (mul-pos (down_pos e) (down_pos d)) (mul-pos units_pos units_pos)
    (times_cross (m * up e) (down e) (n * up d) (down d) a b units_in_one units_pos p q))
    x y h k

pub div-exact : (x y : Float) (a b : ℕ) → 0 < b → Exact x a → Exact y b → x ⊘ y ≡ round binary64 false a b
unfolding div
div-exact x y a b B h k = both_plain (λ x y. x ⊘ y ≡ round binary64 false a b) a b quotient x y h k
  where
    go : (w : Bool) (m n : ℕ) (z : Float) → (T w → n ≡ 0) → 0 < n → cond w (cond (eqb m 0) nan (inf false)) z ≡ z
    go true m n z p q = absurd (let r = p tt in omega arith)
    go false m n z p q = refl

    quotient : (m : ℕ) (e : ℤ) (n : ℕ) (d : ℤ) → m * up e * units_in_one ≡ a * down e → n * up d * units_in_one ≡ b * down d → fin false m e ⊘ fin false n d ≡ round binary64 false a b
    quotient m e n d p q =
        let Y : 0 < n * up d = first_pos (n * up d) units_in_one (subst (λ (z : ℕ). 0 < z) (sym q) (mul-pos B (down_pos d))) in
        go (eqb n 0) m n _ (eqb→eq n 0) (first_pos n (up d) Y)
        ∙ round_same binary64 false (m * up e * down d) (n * up d * down e) a b (mul-pos Y (down_pos e)) B (over_cross (m * up e) (down e) (n * up d) (down d) a b units_in_one units_pos p q)

-- ---- equal numbers above 0 are the same

level_cross : (X e Y d a o : ℕ) → 0 < e → X * d ≡ Y * e → X * o ≡ a * e → Y * o ≡ a * d
level_cross X e Y d a o E p q =
    eq_of_mul-eq-mul_right e E (Y * o) (a * d) (mul_right_comm Y o e ∙ ap (λ (z : ℕ). z * o) (sym p) ∙ mul_right_comm X d o ∙ ap (λ (z : ℕ). z * d) q ∙ mul_right_comm a e d)

above_zero : (m : ℕ) (e : ℤ) → T (lt nought (fin false m e)) → 0 < m * up e
unfolding lt of_bits
above_zero m e h = let l = ltb→lt (0 * 1 * down e) (m * up e * 1) h in omega arith

pub equal_same : (x y : Float) → T (lt nought x) → T (fits binary64 x) → T (fits binary64 y) → T (eq x y) → x ≡ y
unfolding eq lt of_bits
equal_same nan y l f g h = absurd h
equal_same (inf true) y l f g h = absurd l
equal_same (inf false) nan l f g h = absurd h
equal_same (inf false) (inf true) l f g h = absurd h
equal_same (inf false) (inf false) l f g h = refl
equal_same (inf false) (fin t n d) l f g h = absurd h
equal_same (fin true m e) y l f g h = absurd l
equal_same (fin false m e) nan l f g h = absurd h
equal_same (fin false m e) (inf t) l f g h = absurd h
equal_same (fin false m e) (fin true n d) l f g h =
    let A = m * up e * down d in
    let z : A ≡ 0 = eqb→eq A 0 (and_r (eqb A (n * up d * down e)) (eqb A 0) h) in
    absurd (lt_irrefl 0 (subst (λ (y : ℕ). 0 < y) z (mul-pos (above_zero m e l) (down_pos d))))
equal_same (fin false m e) (fin false n d) l f g h =
    let p : m * up e * down d ≡ n * up d * down e = eqb→eq (m * up e * down d) (n * up d * down e) (and_l (eqb (m * up e * down d) (n * up d * down e)) true h) in
    let x = plain-exact (fin false m e) f tt in
    exact_same (fin false m e) (fin false n d) (in_units (fin false m e)) f g x (refl, level_cross (m * up e) (down e) (n * up d) (down d) (in_units (fin false m e)) units_in_one (down_pos e) p x.1)

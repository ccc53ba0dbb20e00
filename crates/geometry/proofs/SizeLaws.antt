-- How large sums, differences, products and roots of doubles get, counted in whole numbers; and that a double is its own rounding. Assumes nothing.
use mathlib.Core.Path.{◌≡◌, sym, ap, ◌∙◌, subst}
use mathlib.Core.Logic.{◌⊎◌, inl, inr, ⊎_elim}
use Prim.Native.Nat.{ℕ, ◌+◌, ◌-◌, ◌*◌, ◌/◌, ◌%◌, ◌^◌, ◌≤◌, ◌<◌, zero-le}
use native.Mathlib.Nat.{le_refl, le_trans, le_of_eq, le_of_lt, lt_of_lt_of_le, lt_of_le_of_lt, eq-zero-or-pos, mul-one, mul-pos, mul_assoc, mul_right_comm, mul-mul-mul_comm, mul-le-mul, mul-le-mul_right, le_of_mul-le-mul_right}
use native.Mathlib.Omega.{arith}
use mathlib.Core.Bool.{Bool, true, false, ◌&&◌, cond, beq}
use lib.Dec.{T, ltb, lit<}
use lib.Ieee.{Float, nan, inf, fin, binary64, up, down, unlike, round, sum, add, sub, neg, mul, fits, of_bits, to_bits}
use lib.Ieee.Bits.{of_bits-to_bits, of_bits-fits}
use lib.Ieee.Exact.{HasValue}
use lib.Ieee.Exact as exact
use lib.Ieee.Fits.{down_pos, round-fits}
use lib.Ieee.Positive.{positive_of_value}
use lib.Ieee.Scale.{grid}
use Rattle.places.proofs.PlaceLaws.{le-or-lt}
use Rattle.geometry.specs.Doubles.{◌⊕◌, ◌⊖◌, ◌⊗◌, nought}
use Rattle.geometry.specs.Nearest.{plain, units_in_one, in_units, NearestToRoot}
use Rattle.geometry.specs.Root.{sqrt_of}
use Rattle.geometry.specs.RootSteps.{pattern_units}
use Rattle.geometry.proofs.Correct.{correct}
use Rattle.geometry.proofs.ExactLaws.{Exact, exact-plain, exact_units, exact_same, nought-exact, round_exact, round-most, round_signed, add-exact}
use Rattle.geometry.proofs.Patterns.{value_of, NotPositive, not_positive, units-low, units-high}
use Rattle.geometry.proofs.UnitLaws.{units_pos}
use Rattle.geometry.proofs.Whole.{sq-lt}

-- ---- a double is its own rounding

not_both : (x : Float) → T (plain x) → NotPositive x → ⊥
not_both nan p q = p
not_both (inf s) p q = p
not_both (fin true m e) p q = p
not_both (fin false m e) p q = q

-- of 53 digits: w * 2 ^ j units
digits : (x : Float) → T (fits binary64 x) → T (plain x) → (w : ℕ) × (j : ℕ) × (in_units x ≡ w * 2 ^ j) × (w < 2 ^ 53)
digits x f p = ⊎_elim none some (le-or-lt 9218868437227405312 (to_bits binary64 x))
  where
    b : ℕ
    b = to_bits binary64 x

    back : of_bits binary64 b ≡ x
    back = of_bits-to_bits binary64 x f

    none : 9218868437227405312 ≤ b → (w : ℕ) × (j : ℕ) × (in_units x ≡ w * 2 ^ j) × (w < 2 ^ 53)
    none h = absurd (not_both x p (subst NotPositive back (not_positive b h)))

    some : b < 9218868437227405312 → (w : ℕ) × (j : ℕ) × (in_units x ≡ w * 2 ^ j) × (w < 2 ^ 53)
    some h =
        let is : in_units x ≡ pattern_units b = exact_units x (pattern_units b) (subst (λ (z : Float). Exact z (pattern_units b)) back (value_of b h)) in
        ⊎_elim (λ l. (2 ^ 52 + b % 2 ^ 52, b / 2 ^ 52 - 1, is ∙ units-high b l, omega arith)) (λ l. (b, 0, is ∙ units-low b l ∙ sym (mul-one b), omega arith)) (le-or-lt (2 ^ 52) b)

pub round_again : (x : Float) (a : ℕ) → T (fits binary64 x) → Exact x a → a ≤ 2 ^ 40 * units_in_one → round binary64 false a units_in_one ≡ x
round_again x a f h l =
    let d = digits x f (exact-plain x a h) in
    let is : a ≡ d.0 * 2 ^ d.1 = sym (exact_units x a h) ∙ d.2 in
    exact_same (round binary64 false a units_in_one) x a (round-fits binary64 false a units_in_one) f
    (exact.round_exact binary64 false a units_in_one d.0 d.1 units_pos d.3 (subst (λ (n : ℕ). n < 2 ^ 2098) is (lt_of_le_of_lt l (lit< tt))) (ap (λ (n : ℕ). n * units_in_one) is))
    h

-- ---- sizes, of either sign: at most b, a whole number

abbrev pub Size : Float → ℕ → Type 0
Size nan b = ⊥
Size (inf s) b = ⊥
Size (fin s m e) b = m * up e ≤ b * down e

size_of : (x : Float) (s : Bool) (g b : ℕ) → HasValue x s g units_in_one → g ≤ b * units_in_one → Size x b
size_of nan s g b h l = h
size_of (inf t) s g b h l = h
size_of (fin t m e) s g b h l =
    le_of_mul-le-mul_right {m = m * up e} {n = b * down e} {k = units_in_one}
    (le_trans (le_of_eq h.1) (le_trans (mul-le-mul_right (down e) l) (le_of_eq (mul_right_comm b units_in_one (down e))))) units_pos

size-round : (s : Bool) (a c b : ℕ) → 0 < c → a ≤ b * c → b ≤ 2 ^ 53 → Size (round binary64 s a c) b
size-round s a c b C h few = size_of (round binary64 s a c) s (grid binary64 a c) b (round_signed a c b C h few s) (round-most a c b C h few)

size-sum : (s t : Bool) (A B c b : ℕ) → 0 < c → A + B ≤ b * c → b ≤ 2 ^ 53 → Size (sum binary64 s A t B c) b
unfolding sum
size-sum s t A B c b C h few = go (beq s t) (ltb A B)
  where
    go : (w v : Bool) → Size (cond w (round binary64 s (A + B) c) (cond v (round binary64 t (B - A) c) (round binary64 (s && ltb B A) (A - B) c))) b
    go true v = size-round s (A + B) c b C h few
    go false true = size-round t (B - A) c b C (omega arith) few
    go false false = size-round (s && ltb B A) (A - B) c b C (omega arith) few

size-add : (x y : Float) (b c : ℕ) → Size x b → Size y c → b + c ≤ 2 ^ 53 → Size (x ⊕ y) (b + c)
unfolding add
size-add nan y b c h k few = absurd h
size-add (inf s) y b c h k few = absurd h
size-add (fin s m e) nan b c h k few = absurd k
size-add (fin s m e) (inf t) b c h k few = absurd k
size-add (fin s m e) (fin t n d) b c h k few =
    let x : m * up e * down d ≤ b * down e * down d = mul-le-mul_right (down d) h in
    let y : n * up d * down e ≤ c * down d * down e = mul-le-mul_right (down e) k in
    size-sum s t (m * up e * down d) (n * up d * down e) (down e * down d) (b + c) (mul-pos (down_pos e) (down_pos d)) (omega arith) few

size-neg : (x : Float) (b : ℕ) → Size x b → Size (neg x) b
unfolding neg
size-neg nan b h = h
size-neg (inf s) b h = h
size-neg (fin s m e) b h = h

pub size-sub : (x y : Float) (b c : ℕ) → Size x b → Size y c → b + c ≤ 2 ^ 53 → Size (x ⊖ y) (b + c)
unfolding sub
size-sub x y b c h k few = size-add x (neg y) b c h (size-neg y c k) few

pub size-mul : (x y : Float) (b c : ℕ) → Size x b → Size y c → b * c ≤ 2 ^ 53 → Size (x ⊗ y) (b * c)
unfolding mul
size-mul nan y b c h k few = absurd h
size-mul (inf s) y b c h k few = absurd h
size-mul (fin s m e) nan b c h k few = absurd k
size-mul (fin s m e) (inf t) b c h k few = absurd k
size-mul (fin s m e) (fin t n d) b c h k few =
    size-round (unlike s t) (m * up e * (n * up d)) (down e * down d) (b * c) (mul-pos (down_pos e) (down_pos d)) (le_trans (mul-le-mul h k) (le_of_eq (mul-mul-mul_comm b (down e) c (down d)))) few

-- ---- exact sums and squares without a minus sign

pub sum-exact : (x y : Float) (a b c : ℕ) → Exact x a → Exact y b → a + b ≤ c * units_in_one → c ≤ 2 ^ 53 → (g : ℕ) × Exact (x ⊕ y) g × (g ≤ c * units_in_one)
sum-exact x y a b c h k l few =
    let is : x ⊕ y ≡ round binary64 false (a + b) units_in_one = add-exact x y a b h k in
    let g = grid binary64 (a + b) units_in_one in
    (g, subst (λ (z : Float). Exact z g) (sym is) (round_exact (a + b) units_in_one c units_pos l few), round-most (a + b) units_in_one c units_pos l few)

pub square-exact : (x : Float) (b : ℕ) → Size x b → b * b ≤ 2 ^ 53 → (g : ℕ) × Exact (x ⊗ x) g × (g ≤ b * b * units_in_one)
unfolding mul
square-exact nan b h few = absurd h
square-exact (inf s) b h few = absurd h
square-exact (fin s m e) b h few =
    let X = m * up e in
    let D = down e * down e in
    let pos : 0 < D = mul-pos (down_pos e) (down_pos e) in
    let most : X * X ≤ b * b * D = le_trans (mul-le-mul h h) (le_of_eq (mul-mul-mul_comm b (down e) b (down e))) in
    (grid binary64 (X * X) D, sign s (round_exact (X * X) D (b * b) pos most few), round-most (X * X) D (b * b) pos most few)
  where
    sign : (s : Bool) → Exact (round binary64 false (m * up e * (m * up e)) (down e * down e)) (grid binary64 (m * up e * (m * up e)) (down e * down e))
        → Exact (round binary64 (unlike s s) (m * up e * (m * up e)) (down e * down e)) (grid binary64 (m * up e * (m * up e)) (down e * down e))
    sign true h = h
    sign false h = h

-- ---- roots: that of a number of at most n * n is at most 2 n

four_squares : (a n u : ℕ) → a ≤ n * n * u → 4 * (a * u) ≤ 2 * n * u * (2 * n * u)
four_squares a n u h =
    le_trans (mul-le-mul {n₁ = 4} {n₂ = 4} (le_refl 4) (mul-le-mul_right u h))
    (le_of_eq
    (ap (λ (z : ℕ). 4 * z) (mul_assoc (n * n) u u)
    ∙ sym (mul_assoc 4 (n * n) (u * u))
    ∙ ap (λ (z : ℕ). z * (u * u)) (sym (mul-mul-mul_comm 2 n 2 n))
    ∙ sym (mul-mul-mul_comm (2 * n) u (2 * n) u)))

module _ (x : Float) (a : ℕ) (f : T (fits binary64 x)) (h : Exact x a) (some : 0 < a) where
  pub root_nearest : NearestToRoot x (sqrt_of x)
  root_nearest = correct x f (positive_of_value x a units_in_one h some)

  pub root-most : (n : ℕ) → a ≤ n * n * units_in_one → in_units (sqrt_of x) ≤ 2 * n * units_in_one
  root-most n l = go (eq-zero-or-pos R)
    where
      R : ℕ
      R = in_units (sqrt_of x)

      bare : (r : ℕ) → (r + 0) * (r + 0) ≡ r * r
      bare r = omega arith

      go : (R ≡ 0) ⊎ (0 < R) → R ≤ 2 * n * units_in_one
      go (inl z) = le_trans (le_of_eq z) zero-le
      go (inr p) =
          let none : in_units nought ≡ 0 = exact_units nought 0 nought-exact in
          let less = root_nearest.above nought (of_bits-fits binary64 0) (exact-plain nought 0 nought-exact) (subst (λ (y : ℕ). y < R) (sym none) p) in
          let less' : R * R < 4 * (a * units_in_one) =
          subst (λ (y : ℕ). y < 4 * (a * units_in_one)) (ap (λ (y : ℕ). (R + y) * (R + y)) none ∙ bare R)
          (subst (λ (y : ℕ). (R + in_units nought) * (R + in_units nought) < 4 * (y * units_in_one)) (exact_units x a h) less) in
          le_of_lt (sq-lt R (2 * n * units_in_one) (lt_of_lt_of_le less' (four_squares a n units_in_one l)))

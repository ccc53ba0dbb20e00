-- The arithmetic of the two steps to a root: the mean of a guess and m / guess, and the root of n * 4 ^ 26 from that of n. Assumes nothing.
use Rattle.std.proofs.Common.{◌≡◌, ℕ, zero, suc, ◌+◌, ◌-◌, ◌*◌, ◌/◌, ◌%◌, ◌^◌, ◌<◌, ◌≤◌, Bool, cond, ltb, sym, refl, ap, ◌∙◌, subst, lt_of_lt_of_le, lt_of_le_of_lt, le_of_lt, mul-le-mul_right, mod-lt, lt-suc_self, div-lt_iff_lt-mul, mul-le-mul, mul-lt-mul_of_pos_right, lt_of_not-le, div-add-mod', le_of_mul-le-mul_right, arith, lit<, pow-add, le-ltb, lt-ltb}
use native.Mathlib.Nat.{le_dest}
use native.Mathlib.Decide.{dec_le}
use Rattle.geometry.specs.RootSteps.{RootOf, root_bits}
use Rattle.geometry.proofs.Whole.{sq-lt, whole_of, scaled-bits}

-- ---- the mean
mean_of-le : (x e : ℕ) → 4 * (x * (x + e)) ≤ (x + (x + e)) * (x + (x + e))
mean_of-le x e = omega arith

-- the square of the mean is at least the product, all times 4
pub mean : (x y : ℕ) → 4 * (x * y) ≤ (x + y) * (x + y)
mean x y = either (dec_le x y)
  where
    at : (x y : ℕ) → x ≤ y → 4 * (x * y) ≤ (x + y) * (x + y)
    at x y h = subst (λ (z : ℕ). 4 * (x * z) ≤ (x + z) * (x + z)) (le_dest h).1 (mean_of-le x (le_dest h).0)

    either : Dec (x ≤ y) → 4 * (x * y) ≤ (x + y) * (x + y)
    either (yes h) = at x y h
    either (no f) = omega (arith, at y x (le_of_lt (lt_of_not-le f)))

pub mean-above : (m g : ℕ) → 0 < g → m < ((g + m / g) / 2 + 1) * ((g + m / g) / 2 + 1)
mean-above m g G =
    let d = m / g in
    let r = (g + d) / 2 + 1 in
    let a : m < suc d * g = (div-lt_iff_lt-mul G).0 (lt-suc_self d) in
    let b : suc d + g ≤ 2 * r = omega arith in
    let c : (suc d + g) * (suc d + g) ≤ 2 * r * (2 * r) = mul-le-mul b b in
    let e = mean (suc d) g in
    omega arith

pub quotient-lt : (m g : ℕ) → m < 2 ^ 54 → 2 ^ 25 ≤ g → m / g < 2 ^ 29
quotient-lt m g h l = (div-lt_iff_lt-mul (lt_of_lt_of_le (lit< tt) l)).1 (omega arith)

pub at_least : (m r : ℕ) → 2 ^ 52 ≤ m → m < (r + 1) * (r + 1) → 2 ^ 25 ≤ r
at_least m r h l = let k : 2 ^ 26 < r + 1 = sq-lt (2 ^ 26) (r + 1) (lt_of_le_of_lt h l) in omega arith

-- ---- the steps down to the root
pub small_square : (q : ℕ) → q < 2 ^ 29 → q * q < 2 ^ 64
small_square q h = lt_of_le_of_lt (mul-le-mul (le_of_lt h) (le_of_lt h)) (lit< tt)

pub above_zero : (m q : ℕ) → m < q * q → 1 ≤ q
above_zero m zero h = omega arith
above_zero m (suc q) h = omega arith

pub one_down : (m q : ℕ) → m < q * q → m < (q - 1 + 1) * (q - 1 + 1)
one_down m q h = subst (λ (x : ℕ). m < x * x) (omega (arith, above_zero m q h)) h

pub found : (m q : ℕ) → q * q ≤ m → m < (q + 1) * (q + 1) → RootOf m q (m - q * q)
found m q h l = record { whole = omega arith; small = omega arith }

-- ---- from the root s of n, with the rest r, to that of n * 2 ^ 52: with r * 2 ^ 26 = u * 2s + v it is s * 2 ^ 26 + u, or one less where u * u is above v * 2 ^ 26
abbrev pub Limits : ℕ → ℕ → Type 0
Limits s r =
    let u = r * 67108864 / (s * 2) in
    let v = r * 67108864 % (s * 2) in
    (u ≤ 67108864) × (v < s * 2) × (u * u ≤ 2 ^ 52)

module _ (s r : ℕ) (small : r ≤ 2 * s) (lo : 2 ^ 26 ≤ s) (hi : s < 2 ^ 27) where
  abbrev U : ℕ
  U = r * 67108864 / (s * 2)

  abbrev W : ℕ
  W = r * 67108864 % (s * 2)

  abbrev Q : ℕ
  Q = s * 67108864 + U

  pos : 0 < s * 2
  pos = omega arith

  parts : U * (s * 2) + W ≡ r * 67108864
  parts = div-add-mod' (r * 67108864) (s * 2)

  W-lt : W < s * 2
  W-lt = mod-lt (r * 67108864) pos

  U-le : U ≤ 67108864
  U-le = le_of_mul-le-mul_right {m = U} {n = 67108864} {k = s * 2} (let e = parts in omega arith) pos

  U-square : U * U ≤ 2 ^ 52
  U-square = mul-le-mul U-le U-le

  pub limits : Limits s r
  limits = (U-le, W-lt, U-square)

  whole_law : (u v q : ℕ) → q ≡ s * 67108864 + u → u * (s * 2) + v ≡ r * 67108864 → q * q + v * 67108864 ≡ (s * s + r) * 2 ^ 52 + u * u
  whole_law u v q e p = subst (λ (q : ℕ). q * q + v * 67108864 ≡ (s * s + r) * 2 ^ 52 + u * u) (sym e) (omega arith)

  pub as_is : U * U ≤ W * 67108864 → RootOf ((s * s + r) * 2 ^ 52) Q (W * 67108864 - U * U)
  as_is h =
      let w = whole_law U W Q refl parts in
      let l = W-lt in
      record { whole = omega arith; small = omega arith }

  down_square : (q w : ℕ) → 1 ≤ q → q * q ≡ w → (q - 1) * (q - 1) + (2 * q - 1) ≡ w
  down_square zero w h e = absurd (omega arith)
  down_square (suc q) w h e =
      let p : q ≡ suc q - 1 = omega arith in
      subst (λ (x : ℕ). x * x + (2 * suc q - 1) ≡ w) p (omega arith)

  pub one_less : W * 67108864 < U * U → RootOf ((s * s + r) * 2 ^ 52) (Q - 1) (W * 67108864 + (2 * Q - 1) - U * U)
  one_less h =
      let q1 : 1 ≤ Q = omega arith in
      let w = whole_law U W Q refl parts in
      let d = down_square Q (Q * Q) q1 refl in
      let b = U-square in
      record { whole = omega arith; small = omega arith }

-- ---- the root's range
pub root_range : (a b n q rest : ℕ) → RootOf n q rest → a * a ≤ n → n < b * b → (a ≤ q) × (q < b)
root_range a b n q rest r lo hi =
    let w = whole_of r in
    let x : a < q + 1 = sq-lt a (q + 1) (lt_of_le_of_lt lo w.1) in
    (omega arith, sq-lt q b (lt_of_le_of_lt w.0 hi))

-- ---- s * 2 ^ (p + 52), with an even power of two taken out
halves : (p : ℕ) → 2 ^ p ≡ (1 + p % 2) * (2 ^ (p / 2) * 2 ^ (p / 2))
halves p =
    let e : p ≡ p % 2 + (p / 2 + p / 2) = omega arith in
    ap (λ (x : ℕ). 2 ^ x) e
    ∙ pow-add 2 (p % 2) (p / 2 + p / 2)
    ∙ ap (λ (x : ℕ). 2 ^ (p % 2) * x) (pow-add 2 (p / 2) (p / 2))
    ∙ ap (λ (x : ℕ). x * (2 ^ (p / 2) * 2 ^ (p / 2))) (bit (p % 2) (mod-lt p (lit< tt)))
  where
    bit : (b : ℕ) → b < 2 → 2 ^ b ≡ 1 + b
    bit zero h = refl
    bit (suc zero) h = refl
    bit (suc (suc b)) h = absurd (omega arith)

pub even_power : (s p : ℕ) → s * (1 + p % 2) * 2 ^ 52 * (2 ^ (p / 2) * 2 ^ (p / 2)) ≡ s * 2 ^ (p + 52)
even_power s p = sym (ap (λ (x : ℕ). s * x) (pow-add 2 p 52 ∙ ap (λ (x : ℕ). x * 2 ^ 52) (halves p)) ∙ omega arith)

pub doubled : (s p : ℕ) → 2 ^ 52 ≤ s → s < 2 ^ 53 → (2 ^ 52 ≤ s * (1 + p % 2)) × (s * (1 + p % 2) < 2 ^ 54)
doubled s p lo hi = go (p % 2) (mod-lt p (lit< tt))
  where
    go : (b : ℕ) → b < 2 → (2 ^ 52 ≤ s * (1 + b)) × (s * (1 + b) < 2 ^ 54)
    go zero h = omega arith
    go (suc zero) h = omega arith
    go (suc (suc b)) h = absurd (omega arith)

-- ---- all of `root_bits`, from what the two roots give
pub short_range : (m q rest : ℕ) → (2 ^ 52 ≤ m) × (m < 2 ^ 54) → RootOf m q rest → (rest ≤ 2 * q) × (2 ^ 26 ≤ q) × (q < 2 ^ 27)
short_range m q rest b r =
    let w = root_range (2 ^ 26) (2 ^ 27) m q rest r b.0 b.1 in
    (r.small, w.0, w.1)

pub both : (n a b q rest : ℕ) → RootOf n a b → RootOf ((a * a + b) * 2 ^ 52) q rest → RootOf (n * 2 ^ 52) q rest
both n a b q rest short long = subst (λ (n : ℕ). RootOf (n * 2 ^ 52) q rest) short.whole long

module _ (s p q rest : ℕ) (lo : 2 ^ 52 ≤ s) (hi : s < 2 ^ 53) (all : RootOf (s * (1 + p % 2) * 2 ^ 52) q rest) where
  pub long_range : (2 ^ 52 ≤ q) × (q < 2 ^ 53)
  long_range =
      let d = doubled s p lo hi in
      root_range (2 ^ 52) (2 ^ 53) (s * (1 + p % 2) * 2 ^ 52) q rest all (mul-le-mul_right (2 ^ 52) d.0) (mul-lt-mul_of_pos_right d.1 (lit< tt))

  bits : root_bits (s * 2 ^ (p + 52)) ≡ p / 2 * 2 ^ 52 + cond (ltb q rest) (q + 1) q
  bits = ap root_bits (sym (even_power s p)) ∙ scaled-bits (s * (1 + p % 2) * 2 ^ 52) q rest (p / 2) all long_range.0 long_range.1

  pub bits_up : q < rest → p / 2 * 2 ^ 52 + q + 1 ≡ root_bits (s * 2 ^ (p + 52))
  bits_up h = sym (bits ∙ ap (λ (t : Bool). p / 2 * 2 ^ 52 + cond t (q + 1) q) (lt-ltb q rest h) ∙ omega arith)

  pub bits-down : rest ≤ q → p / 2 * 2 ^ 52 + q ≡ root_bits (s * 2 ^ (p + 52))
  bits-down h = sym (bits ∙ ap (λ (t : Bool). p / 2 * 2 ^ 52 + cond t (q + 1) q) (le-ltb q rest h))

-- The arithmetic of the quick way to a root: no product is too large whatever the guess, and the last test leaves the nearest whole number alone. Assumes nothing.
use Rattle.std.proofs.Common.{◌≡◌, ℕ, zero, suc, ◌+◌, ◌-◌, ◌*◌, ◌/◌, ◌%◌, ◌^◌, ◌<◌, ◌≤◌, ◌∙◌, lt_of_le_of_lt, le_of_lt, mul-le-mul_right, mod-lt, mul-le-mul, lt_of_not-le, arith, lit<}
use native.Mathlib.Decide.{dec_le}
use Rattle.geometry.specs.RootSteps.{root_bits, nearest_to}
use Rattle.geometry.proofs.Steps.{mean, doubled, bits_up, bits-down}

-- ---- sizes
product : (a b A B L : ℕ) → a ≤ A → b ≤ B → A * B < L → a * b < L
product a b A B L h k l = lt_of_le_of_lt (mul-le-mul h k) l

module _ (t : ℕ) (near : t < 2 ^ 23) where
  pub fall-fits : (word : ℕ) → t * (word % 4294967296) < 2 ^ 64
  fall-fits word = product t (word % 4294967296) 8388607 4294967295 (2 ^ 64) (omega arith) (omega arith) (lit< tt)

  pub away-fits : t * t < 2 ^ 46
  away-fits = product t t 8388607 8388607 (2 ^ 46) (omega arith) (omega arith) (lit< tt)

  pub bend-fits : (word : ℕ) → t * t / 2 ^ 10 * (word % 2048) < 2 ^ 64
  bend-fits word = let a = away-fits in product (t * t / 2 ^ 10) (word % 2048) 68719476735 2047 (2 ^ 64) (omega arith) (omega arith) (lit< tt)

module _ (n y : ℕ) (numbers : n < 2 ^ 62) (guess : y < 2 ^ 32) where
  pub root-fits : n / 2 ^ 30 * y < 2 ^ 64
  root-fits = product (n / 2 ^ 30) y 4294967295 4294967295 (2 ^ 64) (omega arith) (omega arith) (lit< tt)

  pub root-below : n / 2 ^ 30 * y / 2 ^ 32 < 2 ^ 32
  root-below = let f = root-fits in omega arith

pub square-fits : (q : ℕ) → q < 2 ^ 32 → q * q < 2 ^ 64
square-fits q h = product q q 4294967295 4294967295 (2 ^ 64) (omega arith) (omega arith) (lit< tt)

-- the two sides of the test, with what the square of the other digits is at most and at least
module _ (n q r c f : ℕ) (whole : r + q * q ≡ n) (exact : f + (r * 4194304 + 16777216) ≡ 2 * ((q + 2) * c) + q) where
  lower : c * c ≤ 2 ^ 24 * c → f + 16777216 < 2 * q → (q * 4194304 + c) * (q * 4194304 + c) < n * 2 ^ 44 + (q * 4194304 + c)
  lower most test = omega arith

  upper : 4 * (c * 2 ^ 23) ≤ (c + 2 ^ 23) * (c + 2 ^ 23) → n * 2 ^ 44 ≤ (q * 4194304 + c) * (q * 4194304 + c) + (q * 4194304 + c)
  upper least = omega arith

-- where the rest is small, the leading digits are 31 or nearly so
module _ (n q r : ℕ) (lo : 2 ^ 60 ≤ n) (hi : n < 2 ^ 62) (leading : q < 2 ^ 32) (rest : (r + q * q) % 2 ^ 64 ≡ n) (small : r / 2 ^ 3 < q) where
  whole : r + q * q ≡ n
  whole = let s = square-fits q leading in omega arith

  pub leading-below : q < 2 ^ 31
  leading-below = either (dec_le (2 ^ 31) q)
    where
      either : Dec (2 ^ 31 ≤ q) → q < 2 ^ 31
      either (yes h) =
          let s : 2 ^ 31 * 2 ^ 31 ≤ q * q = mul-le-mul h h in
          let w = whole in
          absurd (omega arith)
      either (no f) = lt_of_not-le f

  pub leading-above : 2 ^ 29 ≤ q
  leading-above = either (dec_le (2 ^ 29) q)
    where
      either : Dec (2 ^ 29 ≤ q) → 2 ^ 29 ≤ q
      either (yes h) = h
      either (no f) =
          let h = le_of_lt (lt_of_not-le f) in
          let s : q * q ≤ 2 ^ 29 * 2 ^ 29 = mul-le-mul h h in
          let w = whole in
          absurd (omega arith)

  pub step_fits : (y : ℕ) → y < 2 ^ 32 → r / 2 ^ 3 * y < 2 ^ 63
  step_fits y h = let l = leading-below in product (r / 2 ^ 3) y 2147483647 4294967295 (2 ^ 63) (omega arith) (omega arith) (lit< tt)

  -- ---- the test
  module _ (c f : ℕ) (above : (f + (r * 4194304 + 16777216)) % 2 ^ 64 ≡ 2 * ((q + 2) * c) + q) (test : f < 2 * q - 16777216) where
    exact : f + (r * 4194304 + 16777216) ≡ 2 * ((q + 2) * c) + q
    exact = omega arith

    others_below : c ≤ 2 ^ 24
    others_below = either (dec_le c (2 ^ 24))
      where
        either : Dec (c ≤ 2 ^ 24) → c ≤ 2 ^ 24
        either (yes h) = h
        either (no g) =
            let h = lt_of_not-le g in
            let m : (2 ^ 24 + 1) * q ≤ c * q = mul-le-mul_right q h in
            let x = exact in
            absurd (omega arith)

    pub is_nearest : nearest_to (n * 2 ^ 44) (q * 4194304 + c)
    is_nearest =
        (lower n q r c f whole exact (mul-le-mul_right c others_below) (omega arith), upper n q r c f whole exact (mean c (2 ^ 23)))

pub cross-fits : (q c : ℕ) → q < 2 ^ 31 → c < 2 ^ 26 → (q + 2) * c < 2 ^ 58
cross-fits q c h k = product (q + 2) c 2147483650 67108863 (2 ^ 58) (omega arith) (omega arith) (lit< tt)

pub nearest-below : (n r : ℕ) → n < 2 ^ 106 → nearest_to n r → r ≤ 2 ^ 53
nearest-below n r hi h = either (dec_le r (2 ^ 53))
  where
    either : Dec (r ≤ 2 ^ 53) → r ≤ 2 ^ 53
    either (yes k) = k
    either (no f) =
        let k = lt_of_not-le f in
        let l : (2 ^ 53 + 1) * r ≤ r * r = mul-le-mul_right r k in
        absurd (omega arith)

-- ---- the digits with an even power of two taken out, for the root of 31 + 22 digits
pub moved : (s p : ℕ) → 2 ^ 52 ≤ s → s < 2 ^ 53 → s * 2 ^ (8 + p % 2) % 2 ^ 64 ≡ s * (1 + p % 2) * 256
moved s p lo hi = go (p % 2) (mod-lt p (lit< tt))
  where
    go : (b : ℕ) → b < 2 → s * 2 ^ (8 + b) % 2 ^ 64 ≡ s * (1 + b) * 256
    go zero h = omega arith
    go (suc zero) h = omega arith
    go (suc (suc b)) h = absurd (omega arith)

-- ---- the bit pattern, from the nearest whole number
pub nearest-bits : (s p r : ℕ) → 2 ^ 52 ≤ s → s < 2 ^ 53 → nearest_to (s * (1 + p % 2) * 2 ^ 52) r → p / 2 * 2 ^ 52 + r ≡ root_bits (s * 2 ^ (p + 52))
nearest-bits s p zero lo hi h = absurd (omega (arith, doubled s p lo hi))
nearest-bits s p (suc r) lo hi h = either (dec_le (suc r * suc r) (s * (1 + p % 2) * 2 ^ 52))
  where
    either : Dec (suc r * suc r ≤ s * (1 + p % 2) * 2 ^ 52) → p / 2 * 2 ^ 52 + suc r ≡ root_bits (s * 2 ^ (p + 52))
    either (yes k) = bits-down s p (suc r) (s * (1 + p % 2) * 2 ^ 52 - suc r * suc r) lo hi (record { whole = omega arith; small = omega arith }) (omega arith)
    either (no f) =
        let k = lt_of_not-le f in
        let e : p / 2 * 2 ^ 52 + suc r ≡ p / 2 * 2 ^ 52 + r + 1 = omega arith in
        e ∙ bits_up s p r (s * (1 + p % 2) * 2 ^ 52 - r * r) lo hi (record { whole = omega arith; small = omega arith }) (omega arith)

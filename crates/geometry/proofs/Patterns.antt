-- Bit patterns: what number the pattern of a positive finite value stands for, and the value whose pattern `root_bits` is. Assumes nothing.
use Rattle.std.proofs.Common.{◌≡◌, ℕ, zero, suc, ◌+◌, ◌-◌, ◌*◌, ◌/◌, ◌%◌, ◌^◌, ◌<◌, ◌≤◌, Bool, true, false, cond, not, T, eqb, ltb, leb, ◌⊎◌, sym, refl, ap, ◌∙◌, subst, inl, inr, true≢false, le_trans, le_of_eq, lt_of_lt_of_le, lt_of_le_of_lt, lt_irrefl, mul-le-mul_right, mod-eq_of_lt, mul_assoc, div-lt_iff_lt-mul, mul-le-mul, eq-or-lt_of_le, mul-pos, one-mul, lt_of_not-le, le-div_iff_mul-le, zero-add, zero-mul, mul-one, mul_right_comm, not-le_of_lt, mul-div_cancel, arith, lit<, lit≤, ltb→lt, nltb→le, pow_pos, pow_mono, pow-add, shl_lt, le-ltb, lt-ltb, ne_eqb, leb-false}
use Prim.Native.Nat.{compare}
use lib.Count.{count_leading_zeros, leading_top}
use lib.Ieee.{Float, nan, inf, fin, binary64, up, down, size, odd, units, of_fields, of_bits, to_bits, nan_bits, is_nan, fits}
use lib.Ieee.Digits.{size-lt, size-le, size_reaches}
use lib.Ieee.Bits.{of_bits-to_bits, nan_bits_is}
use lib.Ieee.Exact.{HasValue, odd_sign, units_val}
use lib.Ieee.Fits.{odd-fits, down_pos, nearest-le}
use lib.Ieee.Nearest.{nearest-ge}
use borrow.Author.Tests.{lt-leb}
use Rattle.geometry.specs.Root.{sqrt_of, whole_root, nearest_root, root_units}
use Rattle.geometry.specs.RootSteps.{root_bits, pattern_units}
use Rattle.geometry.proofs.Whole.{sq-lt, whole_root_is}

-- ---- a pattern below the infinity's

of_bits_is : (b : ℕ) → of_bits binary64 b ≡ of_fields binary64 (leb (2 ^ 63) b) (b % 2 ^ 63 / 2 ^ 52) (b % 2 ^ 52)
unfolding of_bits
of_bits_is b = refl

positive_fields : (b : ℕ) → b < 2 ^ 63 → of_bits binary64 b ≡ of_fields binary64 false (b / 2 ^ 52) (b % 2 ^ 52)
positive_fields b h =
    of_bits_is b
    ∙ ap (λ (s : Bool). of_fields binary64 s (b % 2 ^ 63 / 2 ^ 52) (b % 2 ^ 52)) (lt-leb (2 ^ 63) b h)
    ∙ ap (λ (x : ℕ). of_fields binary64 false (x / 2 ^ 52) (b % 2 ^ 52)) (mod-eq_of_lt h)

low_fields : (t : ℕ) → of_fields binary64 false 0 t ≡ odd 53 false t 0 1074
unfolding of_fields
low_fields t = refl

normal_fields : (x t : ℕ) → suc x < 2047 → of_fields binary64 false (suc x) t ≡ odd 53 false (2 ^ 52 + t) x 1074
unfolding of_fields
normal_fields x t h = ap (λ (b : Bool). cond b (cond (eqb t 0) (inf false) nan) (odd 53 false (2 ^ 52 + t) x 1074)) (ne_eqb (suc x) 2047 (λ e. omega arith))

pub value_of : (b : ℕ) → b < 9218868437227405312 → HasValue (of_bits binary64 b) false (pattern_units b) (2 ^ 1074)
value_of b h = go (ltb b (2 ^ 52)) (ltb→lt b (2 ^ 52)) (nltb→le b (2 ^ 52))
  where
    go : (t : Bool) → (T t → b < 2 ^ 52) → (T (not t) → 2 ^ 52 ≤ b) → HasValue (of_bits binary64 b) false (cond t b ((2 ^ 52 + b % 2 ^ 52) * 2 ^ (b / 2 ^ 52 - 1))) (2 ^ 1074)
    go true k g =
        let l = k tt in
        let x : b / 2 ^ 52 ≡ 0 = omega arith in
        let y : b % 2 ^ 52 ≡ b = mod-eq_of_lt l in
        let e : of_bits binary64 b ≡ odd 53 false b 0 1074 =
        positive_fields b (lt_of_lt_of_le l (lit≤ tt)) ∙ ap (λ (x : ℕ). of_fields binary64 false x (b % 2 ^ 52)) x ∙ low_fields (b % 2 ^ 52) ∙ ap (λ (t : ℕ). odd 53 false t 0 1074) y in
        subst (λ (n : ℕ). HasValue (of_bits binary64 b) false n (2 ^ 1074)) (mul-one b)
        (subst (λ (v : Float). HasValue v false (b * 2 ^ 0) (2 ^ 1074)) (sym e) (odd_sign 53 false b 0 1074))
    go false k g =
        let l = g tt in
        let x : b / 2 ^ 52 ≡ suc (b / 2 ^ 52 - 1) = omega arith in
        let y : suc (b / 2 ^ 52 - 1) < 2047 = omega arith in
        let e : of_bits binary64 b ≡ odd 53 false (2 ^ 52 + b % 2 ^ 52) (b / 2 ^ 52 - 1) 1074 =
        positive_fields b (lt_of_lt_of_le h (lit≤ tt)) ∙ ap (λ (x : ℕ). of_fields binary64 false x (b % 2 ^ 52)) x ∙ normal_fields (b / 2 ^ 52 - 1) (b % 2 ^ 52) y in
        subst (λ (v : Float). HasValue v false ((2 ^ 52 + b % 2 ^ 52) * 2 ^ (b / 2 ^ 52 - 1)) (2 ^ 1074)) (sym e) (odd_sign 53 false (2 ^ 52 + b % 2 ^ 52) (b / 2 ^ 52 - 1) 1074)

-- ---- a pattern from the infinity's on is no positive finite value
abbrev pub NotPositive : Float → Type 0
NotPositive nan = Unit
NotPositive (inf s) = Unit
NotPositive (fin true m e) = Unit
NotPositive (fin false m e) = ⊥

negative_odd : (d q k l : ℕ) → NotPositive (odd d true q k l)
unfolding odd
negative_odd d zero k l = tt
negative_odd d (suc q) k l = tt

negative_fields : (x t : ℕ) → NotPositive (of_fields binary64 true x t)
unfolding of_fields
negative_fields zero t = negative_odd 53 t 0 1074
negative_fields (suc x) t = go (eqb (suc x) 2047) (eqb t 0)
  where
    go : (a b : Bool) → NotPositive (cond a (cond b (inf true) nan) (odd 53 true (2 ^ 52 + t) x 1074))
    go true true = tt
    go true false = tt
    go false b = negative_odd 53 (2 ^ 52 + t) x 1074

top_fields : (t : ℕ) → NotPositive (of_fields binary64 false 2047 t)
unfolding of_fields
top_fields t = go (eqb t 0)
  where
    go : (b : Bool) → NotPositive (cond b (inf false) nan)
    go true = tt
    go false = tt

pub not_positive : (b : ℕ) → 9218868437227405312 ≤ b → NotPositive (of_bits binary64 b)
not_positive b h = go (leb (2 ^ 63) b) refl
  where
    go : (t : Bool) → leb (2 ^ 63) b ≡ t → NotPositive (of_bits binary64 b)
    go true e =
        subst NotPositive (sym (of_bits_is b ∙ ap (λ (s : Bool). of_fields binary64 s (b % 2 ^ 63 / 2 ^ 52) (b % 2 ^ 52)) e))
        (negative_fields (b % 2 ^ 63 / 2 ^ 52) (b % 2 ^ 52))
    go false e =
        let l : b < 2 ^ 63 = leb-false (2 ^ 63) b e in
        let x : b / 2 ^ 52 ≡ 2047 = omega arith in
        subst NotPositive (sym (positive_fields b l ∙ ap (λ (x : ℕ). of_fields binary64 false x (b % 2 ^ 52)) x)) (top_fields (b % 2 ^ 52))

-- ---- the pattern of q * 2 ^ k units, for a q of 53 digits

size_is : (n j : ℕ) → 2 ^ j ≤ n → n < 2 ^ suc j → size n ≡ suc j
size_is n j lo hi =
    let a : j < size n = lt_of_not-le (λ (g : size n ≤ j). not-le_of_lt (size-lt n) (le_trans (pow_mono g) lo)) in
    let b : size n ≤ suc j = size-le n (suc j) hi in
    omega arith

pub to_bits_is : (x : Float) (n : ℕ) → HasValue x false n (2 ^ 1074) → to_bits binary64 x ≡ (size n - 53) * 2 ^ 52 + n / 2 ^ (size n - 53)
unfolding to_bits
to_bits_is nan n v = absurd v
to_bits_is (inf s) n v = absurd v
to_bits_is (fin true m e) n v = absurd (true≢false v.0)
to_bits_is (fin false m e) n v =
    ap (λ (n : ℕ). 0 + (size n - 53) * 2 ^ 52 + n / 2 ^ (size n - 53)) (ap (λ (x : ℕ). x / down e) v.1 ∙ mul-div_cancel n (down_pos e))
    ∙ ap (λ (x : ℕ). x + n / 2 ^ (size n - 53)) (zero-add ((size n - 53) * 2 ^ 52))

written : (q k : ℕ) → 2 ^ 52 ≤ q → q < 2 ^ 53 → (size (q * 2 ^ k) - 53) * 2 ^ 52 + q * 2 ^ k / 2 ^ (size (q * 2 ^ k) - 53) ≡ k * 2 ^ 52 + q
written q k lo hi =
    let z : size (q * 2 ^ k) ≡ suc (52 + k) = size_is (q * 2 ^ k) (52 + k) (le_trans (le_of_eq (pow-add 2 52 k)) (mul-le-mul_right (2 ^ k) lo)) (lt_of_lt_of_le (shl_lt 53 k hi) (pow_mono (le_of_eq (omega arith)))) in
    let y : size (q * 2 ^ k) - 53 ≡ k = omega arith in
    ap (λ (j : ℕ). j * 2 ^ 52 + q * 2 ^ k / 2 ^ j) y ∙ ap (λ (x : ℕ). k * 2 ^ 52 + x) (mul-div_cancel q (pow_pos k))

-- 2 ^ 53 has one digit more, and is 2 ^ 52 one place up
written' : (q k : ℕ) → 2 ^ 52 ≤ q → q ≤ 2 ^ 53 → (size (q * 2 ^ k) - 53) * 2 ^ 52 + q * 2 ^ k / 2 ^ (size (q * 2 ^ k) - 53) ≡ k * 2 ^ 52 + q
written' q k lo hi = go (eq-or-lt_of_le hi)
  where
    up_one : (k : ℕ) → 2 ^ 53 * 2 ^ k ≡ 2 ^ 52 * 2 ^ suc k
    up_one k = sym (pow-add 2 53 k) ∙ ap (λ (x : ℕ). 2 ^ x) (omega arith) ∙ pow-add 2 52 (suc k)

    go : (q ≡ 2 ^ 53) ⊎ (q < 2 ^ 53) → (size (q * 2 ^ k) - 53) * 2 ^ 52 + q * 2 ^ k / 2 ^ (size (q * 2 ^ k) - 53) ≡ k * 2 ^ 52 + q
    go (inl e) =
        ap (λ (n : ℕ). (size n - 53) * 2 ^ 52 + n / 2 ^ (size n - 53)) (ap (λ (x : ℕ). x * 2 ^ k) e ∙ up_one k)
        ∙ written (2 ^ 52) (suc k) (lit≤ tt) (lit< tt)
        ∙ omega arith
    go (inr l) = written q k lo l

module _ (q k : ℕ) (lo : 2 ^ 52 ≤ q) (hi : q ≤ 2 ^ 53) (room : k ≤ 2044) where
  pub in_range : q * 2 ^ k < 2 ^ 2098
  in_range = lt_of_le_of_lt (mul-le-mul hi (pow_mono room)) (lit< tt)

  pub units-fits : T (fits binary64 (units binary64 false q k))
  unfolding units
  units-fits =
      subst (λ (b : Bool). T (fits binary64 (cond b (odd 54 false q k 1074) (inf false)))) (sym (lt-ltb (q * 2 ^ k) (2 ^ 2098) in_range))
      (odd-fits binary64 54 false q k (lt_of_le_of_lt hi (lit< tt)) hi in_range)

  pub units_pattern : of_bits binary64 (k * 2 ^ 52 + q) ≡ units binary64 false q k
  units_pattern =
      ap (of_bits binary64) (sym (to_bits_is (units binary64 false q k) (q * 2 ^ k) (units_val binary64 false q k in_range) ∙ written' q k lo hi))
      ∙ of_bits-to_bits binary64 (units binary64 false q k) units-fits

-- ---- the root of n * 2 ^ 1074, for the n units of a positive finite value

pub digits_of : (w : ℕ) → 2 ^ 537 ≤ w → (2 ^ 52 ≤ w / 2 ^ (size w - 53)) × (w / 2 ^ (size w - 53) < 2 ^ 53)
digits_of w h =
    let k = size w - 53 in
    let a : 537 < size w = lt_of_not-le (λ (g : size w ≤ 537). not-le_of_lt (size-lt w) (le_trans (pow_mono g) h)) in
    let b : 52 + k < size w = omega arith in
    let c : size w ≡ 53 + k = omega arith in (
      (le-div_iff_mul-le (pow_pos k)).1 (le_trans (le_of_eq (sym (pow-add 2 52 k))) (size_reaches w (52 + k) b)),
      (div-lt_iff_lt-mul (pow_pos k)).1 (lt_of_lt_of_le (size-lt w) (le_of_eq (ap (λ (x : ℕ). 2 ^ x) c ∙ pow-add 2 53 k))),
    )

under_next : (a b : ℕ) → a < b + 1 → a ≤ b
under_next a b h = omega arith

finite : (x : Float) (a c : ℕ) → HasValue x false a c → is_nan x ≡ false
unfolding is_nan
finite nan a c v = absurd v
finite (inf s) a c v = absurd v
finite (fin s m e) a c v = refl

module _ (n : ℕ) (lo : 2 ^ 1074 ≤ n) (hi : n < 2 ^ 3172) where
  pub root_lo : 2 ^ 537 ≤ whole_root n
  root_lo = under_next (2 ^ 537) (whole_root n) (sq-lt (2 ^ 537) (whole_root n + 1) (lt_of_le_of_lt lo (whole_root_is n).1))

  pub root_hi : whole_root n < 2 ^ 1586
  root_hi = sq-lt (whole_root n) (2 ^ 1586) (lt_of_le_of_lt (whole_root_is n).0 hi)

  pub nearest_range : (2 ^ 52 ≤ nearest_root n (size (whole_root n) - 53)) × (nearest_root n (size (whole_root n) - 53) ≤ 2 ^ 53)
  unfolding nearest_root
  nearest_range =
      let k = size (whole_root n) - 53 in
      let q = whole_root n / 2 ^ k in
      let d = digits_of (whole_root n) root_lo in
      let o = compare (4 * n) ((2 * q + 1) * 2 ^ k * ((2 * q + 1) * 2 ^ k)) in
      (le_trans d.0 (nearest-ge q o), le_trans (nearest-le q o) d.1)

  pub room_for : size (whole_root n) - 53 ≤ 2044
  room_for = let s = size-le (whole_root n) 1586 root_hi in omega arith

  pub root_pattern : of_bits binary64 (root_bits n) ≡ root_units n
  unfolding root_bits root_units
  root_pattern = let k = size (whole_root n) - 53 in units_pattern (nearest_root n k) k nearest_range.0 nearest_range.1 room_for

  number : is_nan (root_units n) ≡ false
  unfolding root_units
  number =
      let k = size (whole_root n) - 53 in
      finite (units binary64 false (nearest_root n k) k) (nearest_root n k * 2 ^ k) (2 ^ 1074)
      (units_val binary64 false (nearest_root n k) k (in_range (nearest_root n k) k nearest_range.0 nearest_range.1 room_for))

  pub root_no_nan : nan_bits binary64 (root_bits n) ≡ false
  root_no_nan = nan_bits_is binary64 (root_bits n) ∙ ap is_nan root_pattern ∙ number

-- ---- the definition at a value given by its units
pub sqrt-at : (x : Float) (a : ℕ) → 0 < a → HasValue x false a (2 ^ 1074) → sqrt_of x ≡ root_units (a * 2 ^ 1074)
unfolding sqrt_of
sqrt-at nan a p v = absurd v
sqrt-at (inf s) a p v = absurd v
sqrt-at (fin true m e) a p v = absurd (true≢false v.0)
sqrt-at (fin false zero e) a p v = absurd (lt_irrefl 0 (subst (λ (x : ℕ). 0 < x) (sym v.1 ∙ ap (λ (x : ℕ). x * 2 ^ 1074) (zero-mul (up e)) ∙ zero-mul (2 ^ 1074)) (mul-pos p (down_pos e))))
sqrt-at (fin false (suc m) e) a p v =
    ap root_units
    (ap (λ (x : ℕ). x / down e)
    (ap (λ (x : ℕ). suc m * up e * x) (pow-add 2 1074 1074) ∙ sym (mul_assoc (suc m * up e) (2 ^ 1074) (2 ^ 1074)) ∙ ap (λ (x : ℕ). x * 2 ^ 1074) v.1 ∙ mul_right_comm a (down e) (2 ^ 1074))
    ∙ mul-div_cancel (a * 2 ^ 1074) (down_pos e))

-- ---- the units of a pattern
pub units-low : (b : ℕ) → b < 2 ^ 52 → pattern_units b ≡ b
units-low b h = ap (λ (t : Bool). cond t b ((2 ^ 52 + b % 2 ^ 52) * 2 ^ (b / 2 ^ 52 - 1))) (lt-ltb b (2 ^ 52) h)

pub units-high : (b : ℕ) → 2 ^ 52 ≤ b → pattern_units b ≡ (2 ^ 52 + b % 2 ^ 52) * 2 ^ (b / 2 ^ 52 - 1)
units-high b h = ap (λ (t : Bool). cond t b ((2 ^ 52 + b % 2 ^ 52) * 2 ^ (b / 2 ^ 52 - 1))) (le-ltb b (2 ^ 52) h)

pub units_range : (b : ℕ) → 0 < b → b < 9218868437227405312 → (0 < pattern_units b) × (pattern_units b < 2 ^ 2098)
units_range b p h = go (ltb b (2 ^ 52)) (ltb→lt b (2 ^ 52)) (nltb→le b (2 ^ 52))
  where
    go : (t : Bool) → (T t → b < 2 ^ 52) → (T (not t) → 2 ^ 52 ≤ b)
        → (0 < cond t b ((2 ^ 52 + b % 2 ^ 52) * 2 ^ (b / 2 ^ 52 - 1))) × (cond t b ((2 ^ 52 + b % 2 ^ 52) * 2 ^ (b / 2 ^ 52 - 1)) < 2 ^ 2098)
    go true k g = (p, lt_of_lt_of_le (k tt) (lit≤ tt))
    go false k g =
        let l = g tt in
        let a : 2 ^ 52 + b % 2 ^ 52 < 2 ^ 53 = omega arith in
        let z : 0 < 2 ^ 52 + b % 2 ^ 52 = omega arith in
        let e : 53 + (b / 2 ^ 52 - 1) ≤ 2098 = omega arith in
        (mul-pos z (pow_pos (b / 2 ^ 52 - 1)), lt_of_lt_of_le (shl_lt 53 (b / 2 ^ 52 - 1) a) (pow_mono e))

-- as the root is asked for: in units of 2 ^ -2148
pub squared_range : (a : ℕ) → 0 < a → a < 2 ^ 2098 → (2 ^ 1074 ≤ a * 2 ^ 1074) × (a * 2 ^ 1074 < 2 ^ 3172)
squared_range a p h = (le_trans (le_of_eq (sym (one-mul (2 ^ 1074)))) (mul-le-mul_right (2 ^ 1074) p), shl_lt 2098 1074 h)

-- ---- the two ways in which `positive_bits` hands the number on
module _ (b : ℕ) (p : 0 < b) (h : b < 2 ^ 52) where
  top_digit : (j : ℕ) × (count_leading_zeros 64 b + suc j ≡ 64) × (2 ^ j ≤ b) × (b < 2 ^ suc j)
  top_digit = leading_top 64 b p (lt_of_lt_of_le h (lit≤ tt))

  pub few_zeros : (12 ≤ count_leading_zeros 64 b) × (count_leading_zeros 64 b ≤ 63)
  few_zeros =
      let t = top_digit in
      let l : t.0 < 52 = lt_of_not-le (λ (g : 52 ≤ t.0). not-le_of_lt h (le_trans (pow_mono g) t.2)) in
      let e = t.1 in
      (omega arith, omega arith)

  moved_lo : 2 ^ 52 ≤ b * 2 ^ (count_leading_zeros 64 b - 11)
  moved_lo =
      let t = top_digit in
      let z = count_leading_zeros 64 b in
      let f = few_zeros in
      let e = t.1 in
      let s : 52 ≡ t.0 + (z - 11) = omega arith in
      le_trans (le_of_eq (ap (λ (x : ℕ). 2 ^ x) s ∙ pow-add 2 t.0 (z - 11))) (mul-le-mul_right (2 ^ (z - 11)) t.2)

  moved_hi : b * 2 ^ (count_leading_zeros 64 b - 11) < 2 ^ 53
  moved_hi =
      let t = top_digit in
      let z = count_leading_zeros 64 b in
      let f = few_zeros in
      let e = t.1 in
      let s : suc t.0 + (z - 11) ≡ 53 = omega arith in
      lt_of_lt_of_le (shl_lt (suc t.0) (z - 11) t.3) (le_of_eq (ap (λ (x : ℕ). 2 ^ x) s))

  shifted : b * 2 ^ (count_leading_zeros 64 b - 11) % 2 ^ 64 ≡ b * 2 ^ (count_leading_zeros 64 b - 11)
  shifted = mod-eq_of_lt (lt_of_lt_of_le moved_hi (lit≤ tt))

  pub low_range : (2 ^ 52 ≤ b * 2 ^ (count_leading_zeros 64 b - 11) % 2 ^ 64) × (b * 2 ^ (count_leading_zeros 64 b - 11) % 2 ^ 64 < 2 ^ 53) × (1022 - (count_leading_zeros 64 b - 11) ≤ 3067)
  low_range = (subst (λ (x : ℕ). 2 ^ 52 ≤ x) (sym shifted) moved_lo, subst (λ (x : ℕ). x < 2 ^ 53) (sym shifted) moved_hi, omega arith)

  pub low-number : b * 2 ^ (count_leading_zeros 64 b - 11) % 2 ^ 64 * 2 ^ (1022 - (count_leading_zeros 64 b - 11) + 52) ≡ pattern_units b * 2 ^ 1074
  low-number =
      let z = count_leading_zeros 64 b - 11 in
      let f = few_zeros in
      let s : z + (1022 - z + 52) ≡ 1074 = omega arith in
      ap (λ (x : ℕ). x * 2 ^ (1022 - z + 52)) shifted
      ∙ mul_assoc b (2 ^ z) (2 ^ (1022 - z + 52))
      ∙ ap (λ (x : ℕ). b * x) (sym (pow-add 2 z (1022 - z + 52)) ∙ ap (λ (x : ℕ). 2 ^ x) s)
      ∙ ap (λ (x : ℕ). x * 2 ^ 1074) (sym (units-low b h))

pub high-number : (b : ℕ) → 2 ^ 52 ≤ b → (2 ^ 52 + b % 2 ^ 52) * 2 ^ (b / 2 ^ 52 + 1021 + 52) ≡ pattern_units b * 2 ^ 1074
high-number b h =
    let k = b / 2 ^ 52 in
    let s : k + 1021 + 52 ≡ k - 1 + 1074 = omega arith in
    ap (λ (x : ℕ). (2 ^ 52 + b % 2 ^ 52) * x) (ap (λ (x : ℕ). 2 ^ x) s ∙ pow-add 2 (k - 1) 1074)
    ∙ sym (mul_assoc (2 ^ 52 + b % 2 ^ 52) (2 ^ (k - 1)) (2 ^ 1074))
    ∙ ap (λ (x : ℕ). x * 2 ^ 1074) (sym (units-high b h))

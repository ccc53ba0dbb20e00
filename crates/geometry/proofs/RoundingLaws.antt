-- How far `round` strays: in units of the format's smallest value, by at most one part in 2 ^ prec, or by less than a unit. Assumes nothing.
use mathlib.Core.Path.{◌≡◌, sym, ap, ◌∙◌, subst}
use mathlib.Core.Logic.{◌⊎◌, inl, inr}
use Prim.Native.Nat.{ℕ, zero, suc, ◌+◌, ◌-◌, ◌*◌, ◌/◌, ◌%◌, ◌^◌, ◌≤◌, ◌<◌, compare, Ordering}
use native.Mathlib.Nat.{le_trans, le_of_eq, zero-lt-suc, eq-zero-or-pos, mul-one, zero-mul, mul-pos, mul-le-mul_right, mod-lt, div-add-mod', le-div_iff_mul-le, div-div-eq-div-mul, pow-succ'}
use native.Mathlib.Omega.{arith}
use lib.Pow.{pow-add, pow_pos}
use lib.Ieee.{Format, prec, low, size, nearest}
use lib.Ieee.Digits.{size_reaches}
use lib.Ieee.Fits.{two, two-le_pos}
use lib.Ieee.Nearest.{closest, closest_same, nearest-ge}
use lib.Ieee.Order.{drop, kept}
use lib.Ieee.Scale.{grid}
use Rattle.geometry.proofs.Whole.{Cmp, cmp}
use Rattle.geometry.proofs.ErrorLaws.{Close}

-- ---- the whole number that is nearest to n / u is within one half of it
abbrev pub Half : ℕ → ℕ → ℕ → Type 0
Half n u q = (q * u * 2 ≤ n * 2 + u) × (n * 2 ≤ q * u * 2 + u)

half : (n u q r : ℕ) (o : Ordering) → q * u + r ≡ n → r < u → Cmp o (r * 2) u → Half n u (nearest q o)
half n u q r Ordering.lt e l c = (omega arith, omega arith)
half n u q r Ordering.eq e l c =
    let m : q % 2 ≤ 1 = omega arith in
    let k : q % 2 * u ≤ 1 * u = mul-le-mul_right u m in
    (omega arith, omega arith)
half n u q r Ordering.gt e l c = (omega arith, omega arith)

pub closest-half : (n u : ℕ) → 0 < u → Half n u (closest n u)
closest-half n u U = half n u (n / u) (n % u) (compare (n % u * 2) u) (div-add-mod' n u) (mod-lt n U) (cmp (n % u * 2) u)

-- ---- where digits are dropped, the number has p digits at least, and so has the kept one
all_in_use : (z p : ℕ) → 0 < p → 0 < z - p → p - 1 + (z - p) < z
all_in_use z p P h = omega arith

module _ (p n den : ℕ) (P : 0 < p) (D : 0 < den) (K : 0 < drop p n den) where
  abbrev unit : ℕ
  unit = den * 2 ^ drop p n den

  long : 2 ^ (p - 1) * 2 ^ drop p n den ≤ n / den
  long = le_trans (le_of_eq (sym (pow-add 2 (p - 1) (drop p n den)))) (size_reaches (n / den) (p - 1 + drop p n den) (all_in_use (size (n / den)) p P K))

  pub before : 2 ^ (p - 1) * unit ≤ n
  before = le_trans (le_of_eq (omega arith)) ((le-div_iff_mul-le D).0 long)

  after : 2 ^ (p - 1) ≤ kept p n den
  after =
      le_trans
      (subst (λ (x : ℕ). 2 ^ (p - 1) ≤ x) (div-div-eq-div-mul n den (2 ^ drop p n den)) ((le-div_iff_mul-le (pow_pos (drop p n den))).1 long))
      (nearest-ge (n / unit) (compare (n % unit * 2) unit))

-- ---- the error: g is q * t units, and u is the unit den * t of the last kept digit
few : (n den q : ℕ) (P : ℕ) → Half n den q → Close P 1 den (q * den) n
few n den q P h =
    let a = h.0 in
    let b = h.1 in
    let x : q * den * P ≤ (n + den) * P = mul-le-mul_right P (omega arith) in
    let y : n * P ≤ (q * den + den) * P = mul-le-mul_right P (omega arith) in
    (omega arith, omega arith)

many : (n den t q h P : ℕ) → P ≡ 2 * h → h * (den * t) ≤ n → h ≤ q → Half n (den * t) q → Close P 1 den (q * t * den) n
many n den t q h P e a b w =
    let c : h * (den * t) ≤ q * (den * t) = mul-le-mul_right (den * t) b in
    let x : q * (den * t) * 2 * h ≤ (n * 2 + den * t) * h = mul-le-mul_right h w.0 in
    let y : n * 2 * h ≤ (q * (den * t) * 2 + den * t) * h = mul-le-mul_right h w.1 in
    subst (λ (z : ℕ). Close z 1 den (q * t * den) n) (sym e) (omega arith, omega arith)

twice : (p : ℕ) → 0 < p → 2 ^ p ≡ 2 * 2 ^ (p - 1)
twice p P = let e : p ≡ suc (p - 1) = omega arith in ap (λ (x : ℕ). 2 ^ x) e ∙ pow-succ' 2 (p - 1)

kept_close : (p n den : ℕ) → 0 < p → 0 < den → Close (2 ^ p) 1 den (kept p n den * 2 ^ drop p n den * den) n
kept_close p n den P D = go (eq-zero-or-pos (drop p n den))
  where
    near : Half n (den * 2 ^ drop p n den) (kept p n den)
    near = closest-half n (den * 2 ^ drop p n den) (mul-pos D (pow_pos (drop p n den)))

    none : (k : ℕ) → k ≡ 0 → Half n (den * 2 ^ k) (closest n (den * 2 ^ k)) → Close (2 ^ p) 1 den (closest n (den * 2 ^ k) * 2 ^ k * den) n
    none zero e h =
        let q = closest n (den * 1) in
        let one : den * 1 ≡ den = mul-one den in
        let f = few n den q (2 ^ p) (subst (λ (u : ℕ). Half n u q) one h) in
        subst (λ (x : ℕ). Close (2 ^ p) 1 den (x * den) n) (sym (mul-one q)) f
    none (suc k) e h = absurd (omega arith)

    go : (drop p n den ≡ 0) ⊎ (0 < drop p n den) → Close (2 ^ p) 1 den (kept p n den * 2 ^ drop p n den * den) n
    go (inl e) = none (drop p n den) e near
    go (inr l) = many n den (2 ^ drop p n den) (kept p n den) (2 ^ (p - 1)) (2 ^ p) (twice p P) (before p n den P D l) (after p n den P D l) near

-- a / c rounded, in units, against a / c in units
pub round_close : (f : Format) (a c : ℕ) → 0 < c → Close (2 ^ prec f) 1 c (grid f a c * c) (a * 2 ^ low f)
round_close f a c C = kept_close (prec f) (a * 2 ^ low f) c (two-le_pos (prec f) (two f)) C

-- nothing rounds to nothing
pub grid-zero : (f : Format) (c : ℕ) → 0 < c → grid f 0 c ≡ 0
grid-zero f c C =
    ap (λ (n : ℕ). kept (prec f) n c * 2 ^ drop (prec f) n c) (zero-mul (2 ^ low f))
    ∙ ap (λ (q : ℕ). q * 2 ^ drop (prec f) 0 c) (closest-zero (c * 2 ^ drop (prec f) 0 c) (mul-pos C (pow_pos (drop (prec f) 0 c))))
    ∙ zero-mul (2 ^ drop (prec f) 0 c)
  where
    closest-zero : (u : ℕ) → 0 < u → closest 0 u ≡ 0
    closest-zero u U = closest_same 0 u 0 1 U (zero-lt-suc 0) (zero-mul 1 ∙ sym (zero-mul u))

-- The four operations on doubles that are finite and not negative (a zero may have either sign): each result is again such a double, and within one part in 2 ^ 53, or
-- a unit of 2 ^ -1074, of the exact one. Assumes nothing.
use mathlib.Core.Path.{◌≡◌, refl, sym, ap, ◌∙◌, subst}
use Prim.Native.Nat.{ℕ, ◌+◌, ◌-◌, ◌*◌, ◌^◌, ◌≤◌, ◌<◌}
use native.Mathlib.Nat.{le_trans, le_of_eq, lt_of_le_of_lt, zero-mul, mul-zero, one-mul, mul-pos, mul_assoc, mul-mul-mul_comm, mul-le-mul_right, le_of_mul-le-mul_right, eq_of_mul-eq-mul_right, sub-le}
use native.Mathlib.Omega.{arith}
use mathlib.Core.Bool.{Bool, true, false, not, ◌&&◌, cond}
use lib.IntN.{ℤ}
use lib.Dec.{T, ltb, eqb, ltb→lt, nltb→le, eqb→eq, lit<, lit≤}
use lib.Pow.{pow_pos}
use lib.Ieee.{Float, nan, inf, fin, binary64, up, down, unlike, round, sum, add, sub, mul, div}
use lib.Ieee.Exact.{HasValue, units_val}
use lib.Ieee.Fits.{down_pos, round_is}
use lib.Ieee.Order.{drop, kept}
use lib.Ieee.Positive.{first_pos}
use lib.Ieee.Scale.{grid, overflow, round_same}
use Rattle.geometry.specs.Doubles.{◌⊕◌, ◌⊖◌, ◌⊗◌, ◌⊘◌}
use Rattle.geometry.specs.Nearest.{units_in_one, in_units}
use Rattle.geometry.proofs.ErrorLaws.{Close, near_twice, close_unscale}
use Rattle.geometry.proofs.RoundingLaws.{round_close, grid-zero}
use Rattle.geometry.proofs.UnitLaws.{units_pos, Units, NonNegative, units_are, nonnegative_of, vanish}

-- ---- one rounding

-- z is v / w rounded, with a minus sign at most where v is 0
abbrev Rounds : Float → ℕ → ℕ → Type 0
Rounds z v w = (s : Bool) × (z ≡ round binary64 s v w) × (T s → v ≡ 0)

-- the same number written as another fraction
rescaled : {z : Float} {n c : ℕ} (v w : ℕ) → 0 < c → 0 < w → n * w ≡ v * c → Rounds z n c → Rounds z v w
rescaled {z} {n} {c} v w C W e r = (r.0, r.1 ∙ round_same binary64 r.0 n c v w C W e, λ t. vanish v n w c C (sym e) (r.2 t))

-- exact results are at most this many units: far below the infinity
abbrev pub big : ℕ
big = 2 ^ 2096

at_most : (g c n b : ℕ) → 0 < c → g * c ≤ 2 * (n + c) → n ≤ b * c → g ≤ 2 * (b + 1)
at_most g c n b C h k = le_of_mul-le-mul_right {m = g} {n = 2 * (b + 1)} {k = c} (omega arith) C

pub grid-fits : (v w : ℕ) → 0 < w → v * units_in_one ≤ big * w → grid binary64 v w < overflow binary64
grid-fits v w W h =
    lt_of_le_of_lt
    (at_most (grid binary64 v w) w (v * units_in_one) big W (near_twice (2 ^ 53) 1 w (grid binary64 v w * w) (v * units_in_one) (pow_pos 53) (lit≤ tt) (round_close binary64 v w W).0) h)
    (lit< tt)

of_value : (x : Float) (s : Bool) (g : ℕ) → (T s → g ≡ 0) → HasValue x s g units_in_one → Units x g
of_value nan s g t h = h
of_value (inf r) s g t h = h
of_value (fin r m e) s g t h = (h.1, λ (y : T r). t (subst T h.0 y))

rounds_units : (z : Float) (v w : ℕ) → 0 < w → v * units_in_one ≤ big * w → Rounds z v w → Units z (grid binary64 v w)
rounds_units z v w W h r =
    let s = r.0 in
    of_value z s (grid binary64 v w) (λ (t : T s). ap (λ (y : ℕ). grid binary64 y w) (r.2 t) ∙ grid-zero binary64 w W)
    (subst (λ (x : Float). HasValue x s (grid binary64 v w) units_in_one) (sym (r.1 ∙ round_is binary64 s v w))
    (units_val binary64 s (kept 53 (v * units_in_one) w) (drop 53 (v * units_in_one) w) (grid-fits v w W h)))

-- z is not negative, and within one part in 2 ^ 53, or a unit, of v / w
rounded : (z : Float) (v w : ℕ) → 0 < w → v * units_in_one ≤ big * w → Rounds z v w → NonNegative z × Close (2 ^ 53) 1 w (in_units z * w) (v * units_in_one)
rounded z v w W h r =
    let u = rounds_units z v w W h r in
    (nonnegative_of z (grid binary64 v w) u, subst (λ (g : ℕ). Close (2 ^ 53) 1 w (g * w) (v * units_in_one)) (sym (units_are z (grid binary64 v w) u)) (round_close binary64 v w W))

-- ---- two fractions X / e and Y / d, which are a / o and b / o
module _ (X e Y d a b o : ℕ) (O : 0 < o) (p : X * o ≡ a * e) (q : Y * o ≡ b * d) where
  pub plus_cross : (X * d + Y * e) * o ≡ (a + b) * (e * d)
  plus_cross =
      let x = ap (λ (z : ℕ). z * d) p in
      let y = ap (λ (z : ℕ). z * e) q in
      omega arith

  pub times_cross : X * Y * (o * o) ≡ a * b * (e * d)
  times_cross = mul-mul-mul_comm X Y o o ∙ ap (λ (z : ℕ). z * (Y * o)) p ∙ ap (λ (z : ℕ). a * e * z) q ∙ mul-mul-mul_comm a e b d

  pub over_cross : X * d * b ≡ a * (Y * e)
  over_cross =
      let x = ap (λ (z : ℕ). z * (d * b)) p in
      let y = ap (λ (z : ℕ). a * e * z) q in
      eq_of_mul-eq-mul_right o O (X * d * b) (a * (Y * e)) (omega arith)

  order_cross : b ≤ a → Y * e ≤ X * d
  order_cross h =
      let k : b * (d * e) ≤ a * (d * e) = mul-le-mul_right (d * e) h in
      let x = ap (λ (z : ℕ). z * d) p in
      let y = ap (λ (z : ℕ). z * e) q in
      le_of_mul-le-mul_right {m = Y * e} {n = X * d} {k = o} (omega arith) O

  minus_cross : b ≤ a → Y * e ≤ X * d → (X * d - Y * e) * o ≡ (a - b) * (e * d)
  minus_cross h k =
      let w = sub_law (X * d) (Y * e) o k in
      let v = sub_law a b (e * d) h in
      let x = ap (λ (z : ℕ). z * d) p in
      let y = ap (λ (z : ℕ). z * e) q in
      omega arith
    where
      sub_law : (m n k : ℕ) → n ≤ m → (m - n) * k + n * k ≡ m * k
      sub_law m n k h = let i : m - n + n ≡ m = omega arith in let j = ap (λ (z : ℕ). z * k) i in omega arith

-- ---- sums: a signed number ±a is plus - minus
abbrev plus : Bool → ℕ → ℕ
plus false a = a
plus true a = 0

abbrev minus : Bool → ℕ → ℕ
minus false a = 0
minus true a = a

-- ±A / c + ±B / c is D / c, rounded
sum_rounds : (s t : Bool) (A B c D : ℕ) → plus s A + plus t B ≡ minus s A + minus t B + D → Rounds (sum binary64 s A t B c) D c
unfolding sum
sum_rounds false false A B c D e = (false, ap (λ (v : ℕ). round binary64 false v c) (omega arith), λ t. absurd t)
sum_rounds true true A B c D e = (true, ap (λ (v : ℕ). round binary64 true v c) (omega arith), λ t. omega arith)
sum_rounds false true A B c D e = go (ltb A B) (ltb→lt A B)
  where
    go : (w : Bool) → (T w → A < B) → Rounds (cond w (round binary64 true (B - A) c) (round binary64 (false && ltb B A) (A - B) c)) D c
    go true k = let l = k tt in absurd (omega arith)
    go false k = (false, ap (λ (v : ℕ). round binary64 false v c) (omega arith), λ t. absurd t)
sum_rounds true false A B c D e = go (ltb A B) (nltb→le A B)
  where
    go : (w : Bool) → (T (not w) → B ≤ A) → Rounds (cond w (round binary64 false (B - A) c) (round binary64 (true && ltb B A) (A - B) c)) D c
    go true k = (false, ap (λ (v : ℕ). round binary64 false v c) (omega arith), λ t. absurd t)
    go false k = let l = k tt in (true && ltb B A, ap (λ (v : ℕ). round binary64 (true && ltb B A) v c) (omega arith), λ t. omega arith)

-- where only zeros have a minus sign
add_signs : (s t : Bool) (A B : ℕ) → (T s → A ≡ 0) → (T t → B ≡ 0) → plus s A + plus t B ≡ minus s A + minus t B + (A + B)
add_signs false false A B x y = omega arith
add_signs false true A B x y = let q = y tt in omega arith
add_signs true false A B x y = let p = x tt in omega arith
add_signs true true A B x y = let p = x tt in let q = y tt in omega arith

sub_signs : (s t : Bool) (A B : ℕ) → (T s → A ≡ 0) → (T t → B ≡ 0) → B ≤ A → plus s A + plus (not t) B ≡ minus s A + minus (not t) B + (A - B)
sub_signs false false A B x y h = omega arith
sub_signs false true A B x y h = let q = y tt in omega arith
sub_signs true false A B x y h = let p = x tt in omega arith
sub_signs true true A B x y h = let p = x tt in let q = y tt in omega arith

-- ---- products and quotients: one with a minus sign is 0

mul_sign : (s t : Bool) (a b : ℕ) → (T s → a ≡ 0) → (T t → b ≡ 0) → T (unlike s t) → a * b ≡ 0
mul_sign true true a b x y u = absurd u
mul_sign true false a b x y u = ap (λ (z : ℕ). z * b) (x tt) ∙ zero-mul b
mul_sign false true a b x y u = ap (λ (z : ℕ). a * z) (y tt) ∙ mul-zero a
mul_sign false false a b x y u = absurd u

div_sign : (s t : Bool) (a b : ℕ) → 0 < b → (T s → a ≡ 0) → (T t → b ≡ 0) → T (unlike s t) → a ≡ 0
div_sign true true a b B x y u = absurd u
div_sign true false a b B x y u = x tt
div_sign false true a b B x y u = absurd (let z = y tt in omega arith)
div_sign false false a b B x y u = absurd u

div_is : (s : Bool) (m : ℕ) (e : ℤ) (t : Bool) (n : ℕ) (d : ℤ) → 0 < n → div binary64 (fin s m e) (fin t n d) ≡ round binary64 (unlike s t) (m * up e * down d) (n * up d * down e)
unfolding div
div_is s m e t n d N = go (eqb n 0) (eqb→eq n 0)
  where
    go : (w : Bool) → (T w → n ≡ 0)
        → cond w (cond (eqb m 0) nan (inf (unlike s t))) (round binary64 (unlike s t) (m * up e * down d) (n * up d * down e)) ≡ round binary64 (unlike s t) (m * up e * down d) (n * up d * down e)
    go true z = absurd (let e = z tt in omega arith)
    go false z = refl

-- ---- each operation is one rounding of the exact result

module _ (s : Bool) (m : ℕ) (e : ℤ) (t : Bool) (n : ℕ) (d : ℤ) (a b : ℕ) (h : Units (fin s m e) a) (k : Units (fin t n d) b) where
  abbrev A : ℕ
  A = m * up e * down d

  abbrev B : ℕ
  B = n * up d * down e

  C : 0 < down e * down d
  C = mul-pos (down_pos e) (down_pos d)

  no_A : T s → A ≡ 0
  no_A i = ap (λ (y : ℕ). y * down d) (vanish (m * up e) a (down e) units_in_one units_pos h.0 (h.1 i)) ∙ zero-mul (down d)

  no_B : T t → B ≡ 0
  no_B i = ap (λ (y : ℕ). y * down e) (vanish (n * up d) b (down d) units_in_one units_pos k.0 (k.1 i)) ∙ zero-mul (down e)

  add_fin : Rounds (add binary64 (fin s m e) (fin t n d)) (a + b) units_in_one
  unfolding add
  add_fin = rescaled (a + b) units_in_one C units_pos (plus_cross (m * up e) (down e) (n * up d) (down d) a b units_in_one units_pos h.0 k.0) (sum_rounds s t A B (down e * down d) (A + B) (add_signs s t A B no_A no_B))

  sub_fin : b ≤ a → Rounds (sub binary64 (fin s m e) (fin t n d)) (a - b) units_in_one
  unfolding sub
  sub_fin l =
      let order : B ≤ A = order_cross (m * up e) (down e) (n * up d) (down d) a b units_in_one units_pos h.0 k.0 l in
      rescaled (a - b) units_in_one C units_pos (minus_cross (m * up e) (down e) (n * up d) (down d) a b units_in_one units_pos h.0 k.0 l order)
      (sum_rounds s (not t) A B (down e * down d) (A - B) (sub_signs s t A B no_A no_B order))

  mul_fin : Rounds (mul binary64 (fin s m e) (fin t n d)) (a * b) (units_in_one * units_in_one)
  unfolding mul
  mul_fin = (
    unlike s t,
    round_same binary64 (unlike s t) (m * up e * (n * up d)) (down e * down d) (a * b) (units_in_one * units_in_one) C (mul-pos units_pos units_pos)
        (times_cross (m * up e) (down e) (n * up d) (down d) a b units_in_one units_pos h.0 k.0),
    mul_sign s t a b h.1 k.1,
  )

  div_fin : 0 < b → Rounds (div binary64 (fin s m e) (fin t n d)) a b
  div_fin P =
      let Y : 0 < n * up d = first_pos (n * up d) units_in_one (subst (λ (z : ℕ). 0 < z) (sym k.0) (mul-pos P (down_pos d))) in (
        unlike s t,
        div_is s m e t n d (first_pos n (up d) Y)
            ∙ round_same binary64 (unlike s t) A B a b (mul-pos Y (down_pos e)) P (over_cross (m * up e) (down e) (n * up d) (down d) a b units_in_one units_pos h.0 k.0),
        div_sign s t a b P h.1 k.1,
      )

-- a law of two such doubles is one of finite ones
both_finite : (P : Float → Float → Type 0) (a b : ℕ)
    → ((s : Bool) (m : ℕ) (e : ℤ) (t : Bool) (n : ℕ) (d : ℤ) → Units (fin s m e) a → Units (fin t n d) b → P (fin s m e) (fin t n d))
    → (x y : Float) → Units x a → Units y b → P x y
both_finite P a b f nan y h k = absurd h
both_finite P a b f (inf s) y h k = absurd h
both_finite P a b f (fin s m e) nan h k = absurd k
both_finite P a b f (fin s m e) (inf t) h k = absurd k
both_finite P a b f (fin s m e) (fin t n d) h k = f s m e t n d h k

-- ---- the four laws

unscale_one : (p k x y m : ℕ) → 0 < m → Close p k m (x * m) (y * m) → Close p k 1 x y
unscale_one p k x y m M h = close_unscale p k 1 x y m M (subst (λ (c : ℕ). Close p k c (x * m) (y * m)) (sym (one-mul m)) h)

module _ (x y : Float) (h : NonNegative x) (k : NonNegative y) where
  abbrev X : ℕ
  X = in_units x

  abbrev Y : ℕ
  Y = in_units y

  pub add_close : X + Y ≤ big → NonNegative (x ⊕ y) × Close (2 ^ 53) 1 1 (in_units (x ⊕ y)) (X + Y)
  add_close l =
      let r = rounded (x ⊕ y) (X + Y) units_in_one units_pos (mul-le-mul_right units_in_one l)
      (both_finite (λ x y. Rounds (x ⊕ y) (X + Y) units_in_one) X Y (λ s m e t n d. add_fin s m e t n d X Y) x y h k) in
      (r.0, unscale_one (2 ^ 53) 1 (in_units (x ⊕ y)) (X + Y) units_in_one units_pos r.1)

  pub sub_close : Y ≤ X → X ≤ big → NonNegative (x ⊖ y) × Close (2 ^ 53) 1 1 (in_units (x ⊖ y)) (X - Y)
  sub_close o l =
      let r = rounded (x ⊖ y) (X - Y) units_in_one units_pos (mul-le-mul_right units_in_one (le_trans (sub-le X Y) l))
      (both_finite (λ x y. Rounds (x ⊖ y) (X - Y) units_in_one) X Y (λ s m e t n d a b. sub_fin s m e t n d X Y a b o) x y h k) in
      (r.0, unscale_one (2 ^ 53) 1 (in_units (x ⊖ y)) (X - Y) units_in_one units_pos r.1)

  pub mul_close : X * Y ≤ big * units_in_one → NonNegative (x ⊗ y) × Close (2 ^ 53) 1 units_in_one (in_units (x ⊗ y) * units_in_one) (X * Y)
  mul_close l =
      let z = in_units (x ⊗ y) in
      let r = rounded (x ⊗ y) (X * Y) (units_in_one * units_in_one) (mul-pos units_pos units_pos)
      (le_trans (mul-le-mul_right units_in_one l) (le_of_eq (mul_assoc big units_in_one units_in_one)))
      (both_finite (λ x y. Rounds (x ⊗ y) (X * Y) (units_in_one * units_in_one)) X Y (λ s m e t n d. mul_fin s m e t n d X Y) x y h k) in
      (r.0, close_unscale (2 ^ 53) 1 units_in_one (z * units_in_one) (X * Y) units_in_one units_pos (subst (λ (w : ℕ). Close (2 ^ 53) 1 (units_in_one * units_in_one) w (X * Y * units_in_one)) (sym (mul_assoc z units_in_one units_in_one)) r.1))

  pub div_close : 0 < Y → X * units_in_one ≤ big * Y → NonNegative (x ⊘ y) × Close (2 ^ 53) 1 Y (in_units (x ⊘ y) * Y) (X * units_in_one)
  div_close P l = rounded (x ⊘ y) X Y P l (both_finite (λ x y. Rounds (x ⊘ y) X Y) X Y (λ s m e t n d a b. div_fin s m e t n d X Y a b P) x y h k)

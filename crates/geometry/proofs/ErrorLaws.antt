-- A relative and an absolute error in one: `Near p k c x y` says x ≤ (1 + k / p) (y + c), and `Close p k c x y` says that both ways round. Errors add up, scale, and
-- go through a third number. All on whole numbers: p is the number of parts, k counts parts and c counts units. Assumes nothing.
use mathlib.Core.Path.{◌≡◌, subst}
use Prim.Native.Nat.{ℕ, ◌+◌, ◌*◌, ◌≤◌, ◌<◌}
use native.Mathlib.Nat.{le_refl, le_trans, mul-le-mul, mul-le-mul_right, le_of_mul-le-mul_right}
use native.Mathlib.Omega.{arith}

abbrev pub Near : ℕ → ℕ → ℕ → ℕ → ℕ → Type 0
Near p k c x y = x * p ≤ (y + c) * (p + k)

abbrev pub Close : ℕ → ℕ → ℕ → ℕ → ℕ → Type 0
Close p k c x y = Near p k c x y × Near p k c y x

-- ---- one way round

near_refl : (p x : ℕ) → Near p 0 0 x x
near_refl p x = omega arith

near_more : (p k c k' c' x y : ℕ) → k ≤ k' → c ≤ c' → Near p k c x y → Near p k' c' x y
near_more p k c k' c' x y h l n =
    let m : (y + c) * (p + k) ≤ (y + c') * (p + k') = mul-le-mul (omega arith) (omega arith) in
    le_trans n m

-- through a third number: the parts add up, with one more for their product
near_trans : (p j c k d x y z : ℕ) → 0 < p → j * k ≤ p → Near p j c x y → Near p k d y z → Near p (j + k + 1) (c + d) x z
near_trans p j c k d x y z P small a b =
    let a' : x * p * p ≤ (y + c) * (p + j) * p = mul-le-mul_right p a in
    let b' : y * p * (p + j) ≤ (z + d) * (p + k) * (p + j) = mul-le-mul_right (p + j) b in
    let s : j * k * (z + c + d) ≤ p * (z + c + d) = mul-le-mul_right (z + c + d) small in
    let e : c * p * (p + j) ≤ c * (p + k) * (p + j) = mul-le-mul_right (p + j) (mul-le-mul (le_refl c) (omega arith)) in
    le_of_mul-le-mul_right {m = x * p} {n = (z + (c + d)) * (p + (j + k + 1))} {k = p} (omega arith) P

near_scale : (p k c x y m : ℕ) → Near p k c x y → Near p k (c * m) (x * m) (y * m)
near_scale p k c x y m h = let a = mul-le-mul_right m h in omega arith

near_unscale : (p k c x y m : ℕ) → 0 < m → Near p k (c * m) (x * m) (y * m) → Near p k c x y
near_unscale p k c x y m M h = le_of_mul-le-mul_right {m = x * p} {n = (y + c) * (p + k)} {k = m} (omega arith) M

near_add : (p k c d x y v w : ℕ) → Near p k c x y → Near p k d v w → Near p k (c + d) (x + v) (y + w)
near_add p k c d x y v w h l = omega arith

-- units that are less than one part in p are one part more
pub near_absorb : (p k c x y : ℕ) → c * (p + k) ≤ y → Near p k c x y → Near p (k + 1) 0 x y
near_absorb p k c x y h n = omega arith

-- x is not more than twice y + c
pub near_twice : (p k c x y : ℕ) → 0 < p → k ≤ p → Near p k c x y → x ≤ 2 * (y + c)
near_twice p k c x y P h n =
    let m : (y + c) * (p + k) ≤ (y + c) * (p + p) = mul-le-mul (le_refl (y + c)) (omega arith) in
    le_of_mul-le-mul_right {m = x} {n = 2 * (y + c)} {k = p} (omega arith) P

-- ---- both ways round

pub close_refl : (p x : ℕ) → Close p 0 0 x x
close_refl p x = (near_refl p x, near_refl p x)

pub close_sym : (p k c x y : ℕ) → Close p k c x y → Close p k c y x
close_sym p k c x y h = (h.1, h.0)

pub close_more : (p k c k' c' x y : ℕ) → k ≤ k' → c ≤ c' → Close p k c x y → Close p k' c' x y
close_more p k c k' c' x y h l n = (near_more p k c k' c' x y h l n.0, near_more p k c k' c' y x h l n.1)

pub close_trans : (p j c k d x y z : ℕ) → 0 < p → j * k ≤ p → Close p j c x y → Close p k d y z → Close p (j + k + 1) (c + d) x z
close_trans p j c k d x y z P small a b =
    let there = near_trans p j c k d x y z P small a.0 b.0 in
    let swap : k * j ≤ p = omega arith in
    let back = near_trans p k d j c z y x P swap b.1 a.1 in
    (there, near_more p (k + j + 1) (d + c) (j + k + 1) (c + d) z x (omega arith) (omega arith) back)

pub close_scale : (p k c x y m : ℕ) → Close p k c x y → Close p k (c * m) (x * m) (y * m)
close_scale p k c x y m h = (near_scale p k c x y m h.0, near_scale p k c y x m h.1)

pub close_unscale : (p k c x y m : ℕ) → 0 < m → Close p k (c * m) (x * m) (y * m) → Close p k c x y
close_unscale p k c x y m M h = (near_unscale p k c x y m M h.0, near_unscale p k c y x m M h.1)

pub close_add : (p k c d x y v w : ℕ) → Close p k c x y → Close p k d v w → Close p k (c + d) (x + v) (y + w)
close_add p k c d x y v w h l = (near_add p k c d x y v w h.0 l.0, near_add p k c d y x w v h.1 l.1)

-- the same, written otherwise
pub close_as : (p k c x y c' x' y' : ℕ) → c ≤ c' → x ≡ x' → y ≡ y' → Close p k c x y → Close p k c' x' y'
close_as p k c x y c' x' y' l e f h = subst (λ (v : ℕ). Close p k c' v y') e (subst (λ (v : ℕ). Close p k c' x v) f (close_more p k c k c' x y (le_refl k) l h))

-- One degree of the recurrence on whole numbers: a function's value is shared between two functions of the next degree, and the sum of all strays by some parts in p
-- and some units. Assumes nothing.
use mathlib.Core.Path.{◌≡◌, subst}
use Prim.Native.Nat.{ℕ, suc, ◌+◌, ◌*◌, ◌≤◌, ◌<◌}
use native.Mathlib.Nat.{le_refl, mul-le-mul, mul-le-mul_left, mul-pos}
use native.Mathlib.Omega.{arith}
use Rattle.geometry.proofs.ErrorLaws.{Close, near_absorb, close_refl, close_sym, close_more, close_trans, close_scale, close_unscale, close_add, close_as}
use Rattle.unity.proofs.SumLaws.{total, total_close, telescope}

-- n is shared into a and b as l is to r: w is r + l, i is 1 / w, t is n * i, a is l * t and b is r * t, each rounded. 1 is o units.
module _ (p o l r w i t a b n : ℕ)
    (P : 64 ≤ p) (O : 0 < o)
    (hw : Close p 1 1 w (r + l)) (hi : Close p 1 w (i * w) (o * o)) (ht : Close p 1 o (t * o) (n * i)) (ha : Close p 1 o (a * o) (l * t)) (hb : Close p 1 o (b * o) (r * t))
    (s-wide : p + 1 ≤ r + l) (w-wide : p + 1 ≤ w) (l_le : l ≤ 4 * o) (r-le : r ≤ 4 * o) (n-le : n ≤ 2 * o) (w_le : w ≤ 32 * o)
  where
    P0 : 0 < p
    P0 = omega arith

    parts : Close p 1 (o * o + o * o) (a * o * o + b * o * o) (t * o * (r + l))
    parts =
        let s = close_scale p 1 (o + o) (a * o + b * o) (l * t + r * t) o (close_add p 1 o o (a * o) (l * t) (b * o) (r * t) ha hb) in
        close_as p 1 _ _ _ (o * o + o * o) (a * o * o + b * o * o) (t * o * (r + l)) (omega arith) (omega arith) (omega arith) s

    product : Close p 1 (o * (r + l)) (t * o * (r + l)) (n * i * (r + l))
    product = close_scale p 1 o (t * o) (n * i) (r + l) ht

    width : Close p 2 0 (n * i * (r + l)) (i * w * n)
    width =
        let c : Close p 2 0 w (r + l) = (near_absorb p 1 1 w (r + l) (omega arith) hw.0, near_absorb p 1 1 (r + l) w (omega arith) hw.1) in
        let s = close_sym p 2 (0 * (n * i)) (w * (n * i)) ((r + l) * (n * i)) (close_scale p 2 0 w (r + l) (n * i) c) in
        close_as p 2 (0 * (n * i)) _ _ 0 (n * i * (r + l)) (i * w * n) (omega arith) (omega arith) (omega arith) s

    inverse : Close p 1 (w * n) (i * w * n) (o * o * n)
    inverse = close_scale p 1 w (i * w) (o * o) n hi

    units : o * o + o * o + o * (r + l) + (0 + w * n) ≤ 74 * (o * o)
    units =
        let x : o * (r + l) ≤ o * (8 * o) = mul-le-mul_left o (omega arith) in
        let y : w * n ≤ 32 * o * (2 * o) = mul-le-mul w_le n-le in
        omega arith

    pub shared : Close p 8 74 (a + b) n
    shared =
        let x = close_trans p 1 (o * o + o * o) 1 (o * (r + l)) _ _ _ P0 (omega arith) parts product in
        let y = close_trans p 2 0 1 (w * n) _ _ _ P0 (omega arith) width inverse in
        let z = close_trans p 3 (o * o + o * o + o * (r + l)) 4 (0 + w * n) _ _ _ P0 (omega arith) x y in
        close_unscale p 8 74 (a + b) n (o * o) (mul-pos O O)
        (close_as p 8 (o * o + o * o + o * (r + l) + (0 + w * n)) (a * o * o + b * o * o) (o * o * n) (74 * (o * o)) ((a + b) * (o * o)) (n * (o * o)) units (omega arith) (omega arith) z)

-- The sum of all: `new` are the values of degree j and `old` those of degree j - 1, of which `old r` is shared into `left r` and `right r`. `new r` is `rising r`, which is
-- `left (r - 1)`, and `right r`.
pub row_close : (p : ℕ) (new rising left right old : ℕ → ℕ) (j : ℕ) → 64 ≤ p → rising 0 ≡ 0
    → ((r : ℕ) → r < j → rising (suc r) ≡ left r)
    → ((r : ℕ) → r < j → Close p 1 1 (new r) (rising r + right r))
    → ((r : ℕ) → r < j → Close p 8 74 (left r + right r) (old r))
    → new j ≡ rising j
    → Close p 10 (75 * j) (total new (suc j)) (total old j)
unfolding total
row_close p new rising left right old j P z up added share last =
    let x = total_close p 1 1 new (λ r. rising r + right r) j added in
    let y = close_more p 0 0 1 0 (new j) (new j) (omega arith) (le_refl 0) (close_refl p (new j)) in
    let z₁ : Close p 1 (1 * j + 0) (total new j + new j) (total (λ r. rising r + right r) j + rising j) =
    close_add p 1 (1 * j) 0 (total new j) (total (λ r. rising r + right r) j) (new j) (rising j) x (subst (Close p 1 0 (new j)) last y) in
    let z₂ = total_close p 8 74 (λ r. left r + right r) old j share in
    close_more p 10 (1 * j + 0 + 74 * j) 10 (75 * j) (total new j + new j) (total old j) (le_refl 10) (omega arith)
    (close_trans p 1 (1 * j + 0) 8 (74 * j) (total new j + new j) (total (λ r. left r + right r) j) (total old j) (omega arith) (omega arith)
    (subst (Close p 1 (1 * j + 0) (total new j + new j)) (telescope rising left right j z up) z₁) z₂)

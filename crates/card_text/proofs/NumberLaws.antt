-- Digits one by one, and how many a number has. Assumes nothing.
use Prim.Native.Nat.{ℕ, zero, suc, ◌+◌, ◌-◌, ◌*◌, ◌/◌, ◌%◌, ◌^◌, ◌≤◌, ◌<◌}
use mathlib.Core.Path.{◌≡◌, refl, ap, subst, ◌∙◌}
use mathlib.Core.Bool.{Bool, true, false}
use mathlib.Core.List.{[], ◌∷◌, ◌++◌}
use lib.Dec.{ltb}
use lib.ListN.{length, length-append}
use borrow.Author.Tests.{lt-ltb, le-ltb, ltb-true, ltb-false}
use native.Mathlib.Numerals.{add-one}
use native.Mathlib.Nat.{pow-suc, pow-le-pow_right, mul-le-mul_right, div-eq_of_lt-le, mul-add-mod_self_right, mod-eq_of_lt, div-lt_iff_lt-mul, le-div_iff_mul-le, one-le-pow}
use native.Mathlib.Omega.{arith}
use Rattle.card_text.specs.Text.{glyph, digits, decimal_of, decimal_text}

-- a digit more keeps the range
pub more-digits : (b k v d : ℕ) → v < b ^ k → d < b → v * b + d < b ^ suc k
more-digits b k v d h l =
    let m : suc v * b ≤ b ^ k * b = mul-le-mul_right b h in
    rw (pow-suc b k) (omega arith)

-- a digit more of a word has 64 bits
pub word_room : (k : ℕ) → k < 16 → 16 ^ k * 16 ≤ 2 ^ 64
word_room k h = let p : 16 ^ suc k ≤ 16 ^ 16 = pow-le-pow_right (omega arith) h in let q = pow-suc 16 k in omega arith

-- a digit more stands at the end
pub digits_more : (b k v d : ℕ) → d < b → digits b (k + 1) (v * b + d) ≡ digits b k v ++ (glyph d ∷ [])
digits_more b k v d l =
    let q : (v * b + d) / b ≡ v = div-eq_of_lt-le b (omega arith) (omega arith) in
    let r : (v * b + d) % b ≡ d = mul-add-mod_self_right v b d ∙ mod-eq_of_lt l in
    rw (add-one, q, r)

-- n has k + 1 decimal digits, and no needless zero
pub record Plain (k n : ℕ) : Type 0 where
  pub small : n < 10 ^ suc k
  pub large : 0 < k → 10 ^ k ≤ n

pub shorter : (k n : ℕ) → Plain (suc k) n → Plain k (n / 10)
shorter k n p =
    let a = p.large (omega arith) in
    let b = pow-suc 10 k in
    let d = pow-suc 10 (suc k) in
    let e = p.small in
    record {
      small = (div-lt_iff_lt-mul {k = 10} {x = n} {y = 10 ^ suc k} (omega arith)).1 (omega arith);
      large = λ o. (le-div_iff_mul-le {k = 10} {x = 10 ^ k} {y = n} (omega arith)).1 (omega arith);
    }

-- so its decimal is these digits
pub decimal-digits : (k n f : ℕ) → Plain k n → k < f → decimal_of f n ≡ digits 10 (suc k) n
unfolding decimal_of
decimal-digits zero n (suc f) p h = rw (lt-ltb n 10 p.small)
decimal-digits (suc k) n (suc f) p h =
    let a = p.large (omega arith) in
    let b = pow-suc 10 k in
    let c = one-le-pow k 10 (omega arith) in
    let l : 10 ≤ n = omega arith in
    rw (le-ltb n 10 l, decimal-digits k (n / 10) f (shorter k n p) (omega arith))
decimal-digits zero n zero p h = absurd (omega arith)
decimal-digits (suc k) n zero p h = absurd (omega arith)

-- every number has such digits
pub plain : (m n : ℕ) → n < 10 ^ suc m → (k : ℕ) × (k ≤ m) × Plain k n
plain zero n h = (0, omega arith, record { small = h; large = λ o. absurd (omega arith) })
plain (suc m) n h = go (ltb n (10 ^ suc m)) refl (plain m n)
  where
    go : (t : Bool) → ltb n (10 ^ suc m) ≡ t → (n < 10 ^ suc m → (k : ℕ) × (k ≤ m) × Plain k n) → (k : ℕ) × (k ≤ suc m) × Plain k n
    go true e f = let p = f (ltb-true _ _ e) in let l = p.1 in (p.0, omega arith, p.2)
    go false e f = (suc m, omega arith, record { small = h; large = λ o. ltb-false _ _ e })

pub digits-length : (b k n : ℕ) → length (digits b k n) ≡ k
digits-length b zero n = refl
digits-length b (suc k) n = length-append (digits b k (n / b)) _ ∙ ap (λ m. m + 1) (digits-length b k (n / b)) ∙ add-one k

-- 16 digits or more that begin with no needless zero are 16
pub sixteen : (n k : ℕ) → n < 2 ^ 64 → 16 ≤ k → (16 < k → 16 ^ (k - 1) ≤ n) → k ≡ 16
sixteen n k h l f = go (ltb 16 k) refl
  where
    go : (t : Bool) → ltb 16 k ≡ t → k ≡ 16
    go true e =
        let m : 16 < k = ltb-true 16 k e in
        let o : 16 ≤ k - 1 = omega arith in
        let p : 16 ^ 16 ≤ 16 ^ (k - 1) = pow-le-pow_right (omega arith) o in
        let q = f m in
        absurd (omega arith)
    go false e = omega (arith, ltb-false 16 k e)

-- the fewest digits of a number of 64 bits are at most 20
pub twenty : (n k : ℕ) → n < 2 ^ 64 → 1 ≤ k → (1 < k → 10 ^ (k - 1) ≤ n) → k ≤ 20
twenty n k h l f = go (ltb 20 k) refl
  where
    go : (t : Bool) → ltb 20 k ≡ t → k ≤ 20
    go true e =
        let m : 20 < k = ltb-true 20 k e in
        let o : 20 ≤ k - 1 = omega arith in
        let p : 10 ^ 20 ≤ 10 ^ (k - 1) = pow-le-pow_right (omega arith) o in
        let q = f (omega arith) in
        absurd (omega arith)
    go false e = ltb-false 20 k e

-- the digits without a needless zero are the decimal
pub fewest : (n k : ℕ) → n < 2 ^ 64 → 1 ≤ k → n < 10 ^ k → (1 < k → 10 ^ (k - 1) ≤ n) → decimal_text n ≡ digits 10 k n
fewest n zero h l s f = absurd (omega arith)
fewest n (suc k) h l s f =
    let m = twenty n (suc k) h l f in
    let e : suc k - 1 ≡ k = omega arith in
    decimal-digits k n 20 (record { small = s; large = λ o. subst (λ j. 10 ^ j ≤ n) e (f (omega arith)) }) (omega arith)

-- A sum from 0 is never -0, so that terms that are zeros change nothing of it. Assumes nothing.
use mathlib.Core.Path.{◌≡◌, refl, sym, ap, ◌∙◌, subst}
use mathlib.Core.Bool.{Bool, true, false, ◌&&◌, beq, cond, true≢false}
use mathlib.Core.Logic.{⊎_elim}
use Prim.Native.Nat.{ℕ, zero, suc, ◌+◌, ◌-◌, ◌*◌, ◌/◌, ◌%◌, ◌^◌, ◌≤◌, ◌<◌, compare}
use native.Mathlib.Nat.{le_trans, le_of_eq, zero-mul, one-mul, mul-one, suc-mul, mul-pos, mul_comm, mul_assoc, mul_right_comm, mul-sub, mul-le-mul_right, le-div_iff_mul-le, zero-add, add-zero, add-suc, zero-lt-suc}
use native.Mathlib.Omega.{arith}
use lib.IntN.{ℤ, pos}
use lib.Dec.{T, ltb, ltb→lt}
use lib.Pow.{pow_pos}
use borrow.Author.Tests.{lt-ltb}
use lib.Ieee.{Float, nan, inf, fin, binary64, up, down, unlike, size, odd, units, round, sum, add, mul, fits, of_bits}
use lib.Ieee.Bits.{of_bits-fits}
use lib.Ieee.Digits.{size-lt, size_reaches}
use lib.Ieee.Exact.{HasValue, odd_sign}
use lib.Ieee.Fits.{and_r, up_pos, down_pos, round_is, add-fits, mul-fits}
use lib.Ieee.Nearest.{nearest-ge}
use lib.Ieee.Order.{drop, kept}
use lib.Ieee.Positive.{first_pos}
use lib.Ieee.Scale.{round_same}
use Rattle.places.proofs.PlaceLaws.{le-or-lt}
use Rattle.geometry.specs.Doubles.{◌⊕◌, ◌⊗◌, nought, is_finite, sum_below}
use Rattle.geometry.specs.declared.Point.{Point}
use Rattle.geometry.specs.Points.{weighted}
use Rattle.geometry.specs.Nearest.{in_units}
use Rattle.geometry.proofs.Correct.{form}
use Rattle.geometry.proofs.FactorLaws.{times-one}

-- x is not -0
abbrev NotMinus : Float → Type 0
NotMinus nan = T true
NotMinus (inf s) = T true
NotMinus (fin s m e) = T s → 0 < m

-- x is a zero
abbrev pub Zero : Float → Type 0
Zero x = (t : Bool) × (x ≡ fin t 0 (pos 0))

-- ---- what is rounded from one unit on does not become 0

value_not : (x : Float) (s : Bool) (a c : ℕ) → HasValue x s a c → 0 < a → NotMinus x
value_not nan s a c h p = absurd h
value_not (inf t) s a c h p = tt
value_not (fin t m e) s a c h p = λ k. first_pos m (up e) (first_pos (m * up e) c (subst (λ (y : ℕ). 0 < y) (sym h.1) (mul-pos p (down_pos e))))

units_not : (s : Bool) (q k : ℕ) → (T s → 0 < q) → NotMinus (units binary64 s q k)
unfolding units odd
units_not s q k h = pick (ltb (q * 2 ^ k) (2 ^ 2098)) q h
  where
    pick : (b : Bool) (q : ℕ) → (T s → 0 < q) → NotMinus (cond b (odd 54 s q k 1074) (inf s))
    pick false q h = tt
    pick true zero h = h
    pick true (suc q) h = value_not (odd 54 s (suc q) k 1074) s (suc q * 2 ^ k) (2 ^ 1074) (odd_sign 54 s (suc q) k 1074) (mul-pos (zero-lt-suc q) (pow_pos k))

some_digits : (n c : ℕ) → 0 < c → c ≤ n → 0 < size (n / c)
some_digits n c C h = go (size (n / c)) (size-lt (n / c))
  where
    least : 1 ≤ n / c
    least = (le-div_iff_mul-le C).1 (le_trans (le_of_eq (one-mul c)) h)

    go : (s : ℕ) → n / c < 2 ^ s → 0 < s
    go zero l = absurd (omega (arith, least, l))
    go (suc s) l = zero-lt-suc s

fewer : (z : ℕ) → 0 < z → z - 53 < z
fewer z h = omega arith

kept_some : (n c : ℕ) → 0 < c → c ≤ n → 0 < kept 53 n c
kept_some n c C h =
    let k = drop 53 n c in
    let reaches : 2 ^ k ≤ n / c = size_reaches (n / c) k (fewer (size (n / c)) (some_digits n c C h)) in
    let fits : c * 2 ^ k ≤ n = subst (λ (y : ℕ). y ≤ n) (mul_comm (2 ^ k) c) ((le-div_iff_mul-le C).0 reaches) in
    let whole : 1 ≤ n / (c * 2 ^ k) = (le-div_iff_mul-le (mul-pos C (pow_pos k))).1 (le_trans (le_of_eq (one-mul (c * 2 ^ k))) fits) in
    le_trans whole (nearest-ge (n / (c * 2 ^ k)) (compare (n % (c * 2 ^ k) * 2) (c * 2 ^ k)))

round_not : (s : Bool) (a c : ℕ) → 0 < c → (T s → c ≤ a * 2 ^ 1074) → NotMinus (round binary64 s a c)
round_not s a c C h =
    subst NotMinus (sym (round_is binary64 s a c)) (units_not s (kept 53 (a * 2 ^ 1074) c) (drop 53 (a * 2 ^ 1074) c) (λ t. kept_some (a * 2 ^ 1074) c C (h t)))

-- ---- two doubles differ by a unit at least, or not at all

gap : (A B U V c z : ℕ) → 0 < z → A * z ≡ U * c → B * z ≡ V * c → A < B → c ≤ (B - A) * z
gap A B U V c z Z a b h = ⊎_elim wide (λ l. absurd (narrow l)) (le-or-lt (suc U) V)
  where
    apart : A * z + z ≤ B * z
    apart = le_trans (le_of_eq (sym (suc-mul A z))) (mul-le-mul_right z h)

    narrow : V < suc U → ⊥
    narrow l = let k : V * c ≤ U * c = mul-le-mul_right c (omega arith) in omega (arith, apart, a, b, k, Z)

    less : (B - A) * z ≡ B * z - A * z
    less = mul_comm (B - A) z ∙ mul-sub z B A ∙ (rw (mul_comm z B, mul_comm z A) refl)

    wide : suc U ≤ V → c ≤ (B - A) * z
    wide l = let k : U * c + c ≤ V * c = le_trans (le_of_eq (sym (suc-mul U c))) (mul-le-mul_right c l) in omega (arith, less, a, b, k)

module _ (s : Bool) (m : ℕ) (e : ℤ) (t : Bool) (n : ℕ) (d : ℤ) (f : T (fits binary64 (fin s m e))) (g : T (fits binary64 (fin t n d))) (p : T s → 0 < m) where
  abbrev A : ℕ
  A = m * up e * down d

  abbrev B : ℕ
  B = n * up d * down e

  abbrev c : ℕ
  c = down e * down d

  a_is : A * 2 ^ 1074 ≡ in_units (fin s m e) * c
  a_is = mul_right_comm (m * up e) (down d) (2 ^ 1074) ∙ ap (λ (y : ℕ). y * down d) (form s m e f).4 ∙ mul_assoc (in_units (fin s m e)) (down e) (down d)

  b_is : B * 2 ^ 1074 ≡ in_units (fin t n d) * c
  b_is =
      mul_right_comm (n * up d) (down e) (2 ^ 1074) ∙ ap (λ (y : ℕ). y * down e) (form t n d g).4 ∙ mul_assoc (in_units (fin t n d)) (down d) (down e)
      ∙ ap (λ (y : ℕ). in_units (fin t n d) * y) (mul_comm (down d) (down e))

  fin_not : NotMinus (sum binary64 s A t B c)
  unfolding sum
  fin_not = pick (beq s t) (ltb A B) (ltb→lt A B) (ltb→lt B A)
    where
      C : 0 < c
      C = mul-pos (down_pos e) (down_pos d)

      together : T s → c ≤ (A + B) * 2 ^ 1074
      together k =
          let some : 0 < A = mul-pos (mul-pos (p k) (up_pos e)) (down_pos d) in
          le_trans (gap 0 A 0 (in_units (fin s m e)) c (2 ^ 1074) (pow_pos 1074) (zero-mul (2 ^ 1074) ∙ sym (zero-mul c)) a_is some) (mul-le-mul_right (2 ^ 1074) (omega arith))

      pick : (q r : Bool) → (T r → A < B) → (T (ltb B A) → B < A) → NotMinus (cond q (round binary64 s (A + B) c) (cond r (round binary64 t (B - A) c) (round binary64 (s && ltb B A) (A - B) c)))
      pick true r h k = round_not s (A + B) c C together
      pick false true h k = round_not t (B - A) c C (λ _. gap A B (in_units (fin s m e)) (in_units (fin t n d)) c (2 ^ 1074) (pow_pos 1074) a_is b_is (h tt))
      pick false false h k =
          round_not (s && ltb B A) (A - B) c C (λ l. gap B A (in_units (fin t n d)) (in_units (fin s m e)) c (2 ^ 1074) (pow_pos 1074) b_is a_is (k (and_r s (ltb B A) l)))

add_not : (x y : Float) → T (fits binary64 x) → T (fits binary64 y) → NotMinus x → NotMinus (x ⊕ y)
unfolding add
add_not nan y f g p = tt
add_not (inf s) nan f g p = tt
add_not (inf true) (inf true) f g p = tt
add_not (inf true) (inf false) f g p = tt
add_not (inf false) (inf true) f g p = tt
add_not (inf false) (inf false) f g p = tt
add_not (inf s) (fin t n d) f g p = tt
add_not (fin s m e) nan f g p = tt
add_not (fin s m e) (inf t) f g p = tt
add_not (fin s m e) (fin t n d) f g p = fin_not s m e t n d f g p

-- ---- a zero more

back : (s : Bool) (m : ℕ) (e : ℤ) → T (fits binary64 (fin s m e)) → round binary64 s (m * up e) (down e) ≡ fin s m e
unfolding mul of_bits
back true m e f = round_same binary64 true (m * up e) (down e) (m * up e * 1) (down e * 1) (down_pos e) (subst (λ (y : ℕ). 0 < y) (sym (mul-one (down e))) (down_pos e)) (omega arith) ∙ times-one (fin true m e) f
back false m e f = round_same binary64 false (m * up e) (down e) (m * up e * 1) (down e * 1) (down_pos e) (subst (λ (y : ℕ). 0 < y) (sym (mul-one (down e))) (down_pos e)) (omega arith) ∙ times-one (fin false m e) f

sum_zero : (s t : Bool) (a b c : ℕ) → b ≡ 0 → (T s → 0 < a) → sum binary64 s a t b c ≡ round binary64 s a c
unfolding sum
sum_zero true true a b c z p = ap (λ (y : ℕ). round binary64 true y c) (omega arith)
sum_zero false false a b c z p = ap (λ (y : ℕ). round binary64 false y c) (omega arith)
sum_zero false true a b c z p = go (ltb a b) (ltb→lt a b)
  where
    go : (r : Bool) → (T r → a < b) → cond r (round binary64 true (b - a) c) (round binary64 false (a - b) c) ≡ round binary64 false a c
    go true h = let l = h tt in absurd (omega arith)
    go false h = ap (λ (y : ℕ). round binary64 false y c) (omega arith)
sum_zero true false a b c z p = go (ltb a b) (ltb→lt a b) (ltb b a) (lt-ltb b a (let l = p tt in omega arith))
  where
    go : (r : Bool) → (T r → a < b) → (q : Bool) → q ≡ true → cond r (round binary64 false (b - a) c) (round binary64 q (a - b) c) ≡ round binary64 true a c
    go true h q e = let l = h tt in absurd (omega arith)
    go false h q e = ap (λ (w : Bool). round binary64 w (a - b) c) e ∙ ap (λ (y : ℕ). round binary64 true y c) (omega arith)

plus_zero : (x y : Float) → T (fits binary64 x) → NotMinus x → Zero y → x ⊕ y ≡ x
unfolding add
plus_zero x y f p z = ap (λ (w : Float). x ⊕ w) z.1 ∙ go x f p z.0
  where
    go : (x : Float) → T (fits binary64 x) → NotMinus x → (t : Bool) → x ⊕ fin t 0 (pos 0) ≡ x
    go nan f p t = refl
    go (inf s) f p t = refl
    go (fin s m e) f p t =
        sum_zero s t (m * up e * 1) (0 * 1 * down e) (down e * 1) (zero-mul (down e)) (λ k. mul-pos (mul-pos (p k) (up_pos e)) (zero-lt-suc 0))
        ∙ ap (λ (y : ℕ). round binary64 s y (down e * 1)) (mul-one (m * up e))
        ∙ ap (round binary64 s (m * up e)) (mul-one (down e))
        ∙ back s m e f

zero_times : (x : Float) → is_finite x ≡ true → Zero (nought ⊗ x)
unfolding of_bits mul is_finite round
zero_times nan h = absurd (true≢false (sym h))
zero_times (inf s) h = absurd (true≢false (sym h))
zero_times (fin t n d) h = (
  unlike false t,
  round_same binary64 (unlike false t) (0 * 1 * (n * up d)) (1 * down d) 0 1 (subst (λ (y : ℕ). 0 < y) (sym (one-mul (down d))) (down_pos d)) (zero-lt-suc 0) (mul-one (0 * 1 * (n * up d)) ∙ zero-mul (n * up d) ∙ sym (zero-mul (1 * down d))) ∙ nothing (unlike false t),
)
  where
    nothing : (s : Bool) → round binary64 s 0 1 ≡ fin s 0 (pos 0)
    nothing true = refl
    nothing false = refl

-- ---- sums: f has zeros before place a and from place a + n on, and g between them

module _ (f g : ℕ → Float) (held : (k : ℕ) → T (fits binary64 (f k))) where
  sum_held : (n : ℕ) → T (fits binary64 (sum_below n f)) × NotMinus (sum_below n f)
  unfolding sum_below of_bits
  sum_held zero = (of_bits-fits binary64 0, start)
    where
      start : NotMinus nought
      start = λ t. absurd t
  sum_held (suc n) = let h = sum_held n in (add-fits binary64 (sum_below n f) (f n), add_not (sum_below n f) (f n) h.0 (held n) h.1)

  sum_on : (n k : ℕ) → ((j : ℕ) → j < k → Zero (f (n + j))) → sum_below (n + k) f ≡ sum_below n f
  unfolding sum_below
  sum_on n zero z = rw add-zero
  sum_on n (suc k) z =
      let h = sum_held (n + k) in
      rw (add-suc n k, plus_zero (sum_below (n + k) f) (f (n + k)) h.0 h.1 (z k (omega arith))) (sum_on n k (λ j l. z j (omega arith)))

  sum_up : (a : ℕ) → ((j : ℕ) → j < a → Zero (f j)) → (n : ℕ) → ((j : ℕ) → j < n → f (a + j) ≡ g j) → sum_below (a + n) f ≡ sum_below n g
  unfolding sum_below
  sum_up a z zero e = let q : a + 0 ≡ 0 + a = omega arith in ap (λ (n : ℕ). sum_below n f) q ∙ sum_on 0 a (λ j l. rw zero-add (z j l))
  sum_up a z (suc n) e = rw (add-suc a n, e n (omega arith), sum_up a z n (λ j l. e j (omega arith)))

  sum_within : (a n b : ℕ) → ((j : ℕ) → j < a → Zero (f j)) → ((j : ℕ) → j < n → f (a + j) ≡ g j) → ((j : ℕ) → j < b → Zero (f (a + n + j)))
      → sum_below (a + n + b) f ≡ sum_below n g
  sum_within a n b before e behind = sum_on (a + n) b behind ∙ sum_up a before n e

-- the same of poles: v is 0 before place a and from place a + n on, where the poles are finite
module _ (v w : ℕ → Float) (p : ℕ → Point) (a n b : ℕ) (before : (j : ℕ) → j < a → v j ≡ nought) (same : (j : ℕ) → j < n → v (a + j) ≡ w j) (behind : (j : ℕ) → j < b → v (a + n + j) ≡ nought) where
  along : (c : Point → Float) → ((k : ℕ) → k < a + n + b → is_finite (c (p k)) ≡ true) → sum_below (a + n + b) (λ k. v k ⊗ c (p k)) ≡ sum_below n (λ j. w j ⊗ c (p (a + j)))
  along c finite =
      sum_within (λ k. v k ⊗ c (p k)) (λ j. w j ⊗ c (p (a + j))) (λ k. mul-fits binary64 (v k) (c (p k))) a n b
      (λ j h. rw (before j h) (zero_times (c (p j)) (finite j (omega arith))))
      (λ j h. rw (same j h))
      (λ j h. rw (behind j h) (zero_times (c (p (a + n + j))) (finite (a + n + j) (omega arith))))

  pub weighted_within : ((k : ℕ) → k < a + n + b → (is_finite (p k).x ≡ true) × (is_finite (p k).y ≡ true) × (is_finite (p k).z ≡ true)) → weighted (a + n + b) v p ≡ weighted n w (λ j. p (a + j))
  unfolding weighted
  weighted_within finite = rw (along (λ (q : Point). q.x) (λ k h. (finite k h).0), along (λ (q : Point). q.y) (λ k h. (finite k h).1), along (λ (q : Point). q.z) (λ k h. (finite k h).2))

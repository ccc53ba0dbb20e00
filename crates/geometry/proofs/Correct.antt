-- `sqrt_of` is the correctly rounded root (`correct`), and there is no other (`only`). Assumes nothing.
use Rattle.std.proofs.Common.{◌≡◌, ℕ, zero, suc, ◌+◌, ◌-◌, ◌*◌, ◌/◌, ◌%◌, ◌^◌, ◌<◌, ◌≤◌, Bool, true, false, ◌&&◌, T, eqb, ltb, leb, ◌⊎◌, ℤ, pos, negsuc, sym, refl, ap, ◌∙◌, subst, inl, inr, true≢false, le_trans, le_of_eq, le_refl, lt_of_lt_of_le, lt_of_le_of_lt, le_of_lt, lt_irrefl, mul-le-mul_right, zero-lt-suc, mul_assoc, mul-le-mul, lt_of_mul-lt-mul_right, eq-or-lt_of_le, mul-lt-mul_of_pos_right, pow-suc, lt_of_not-le, zero-mul, mul-one, mul_right_comm, not-le_of_lt, div-mul-le_self, mul-div_cancel, mul_left_comm, add-one, arith, lit<, lit≤, ltb→lt, leb→le, pow_pos, pow_mono, pow-add, shl_lt}
use Prim.Native.Nat.{compare, Ordering}
use native.Mathlib.Nat.{lt-div-mul-add, pow-succ', eq_of_mul-eq-mul_right}
use native.Mathlib.Decide.{dec_le}
use lib.Pow.{pow-lt}
use lib.Ieee.{Float, nan, inf, fin, binary64, up, down, size, units, nearest, of_bits, fits}
use lib.Ieee.Bits.{of_bits-to_bits}
use lib.Ieee.Exact.{HasValue, units_val}
use lib.Ieee.Fits.{down_pos, and_l, and_r}
use lib.Ieee.Positive.{positive, value_pos}
use Rattle.geometry.specs.Root.{sqrt_of, whole_root, nearest_root, root_units}
use Rattle.geometry.specs.Nearest.{plain, in_units, NearestToRoot}
use Rattle.geometry.proofs.Whole.{whole_root_is, Cmp, cmp}
use Rattle.geometry.proofs.Patterns.{sqrt-at, to_bits_is, digits_of, root_lo, nearest_range, room_for, in_range, units-fits, squared_range}

-- ---- what `fits` says of a finite value: its size is w * 2 ^ j units, for a w of at most 53 digits, and below the infinity's
abbrev pub Form : Bool → ℕ → ℤ → Type 0
Form s m e = (w : ℕ) × (j : ℕ) × (in_units (fin s m e) ≡ w * 2 ^ j) × (w < 2 ^ 53) × (m * up e * 2 ^ 1074 ≡ in_units (fin s m e) * down e) × (in_units (fin s m e) < 2 ^ 2098)

zero_form : (s : Bool) (e : ℤ) → Form s 0 e
zero_form s e =
    let z : 0 * up e * 2 ^ 1074 ≡ 0 * down e = ap (λ (x : ℕ). x * 2 ^ 1074) (zero-mul (up e)) ∙ zero-mul (2 ^ 1074) ∙ sym (zero-mul (down e)) in
    let u : in_units (fin s 0 e) ≡ 0 = ap (λ (x : ℕ). x / down e) z ∙ mul-div_cancel 0 (down_pos e) in
    (0, 0, u, lit< tt, z ∙ ap (λ (x : ℕ). x * down e) (sym u), subst (λ (x : ℕ). x < 2 ^ 2098) (sym u) (pow_pos 2098))

pow_le_back : (a l : ℕ) → 2 ^ a ≤ 2 ^ l → a ≤ l
pow_le_back a l h = under (lt_of_not-le (λ (g : suc l ≤ a). lt_irrefl (2 ^ l) (lt_of_lt_of_le (pow-lt g) h)))
  where
    under : a < suc l → a ≤ l
    under k = omega arith

-- with the exact count in hand
of-count : (s : Bool) (m : ℕ) (e : ℤ) (j : ℕ) → m < 2 ^ 53 → m * up e < 2 ^ 1024 * down e → m * up e * 2 ^ 1074 ≡ m * 2 ^ j * down e → Form s m e
of-count s m e j w t x =
    let u : in_units (fin s m e) ≡ m * 2 ^ j = ap (λ (y : ℕ). y / down e) x ∙ mul-div_cancel (m * 2 ^ j) (down_pos e) in (
      m,
      j,
      u,
      w,
      x ∙ ap (λ (y : ℕ). y * down e) (sym u),
      subst (λ (y : ℕ). y < 2 ^ 2098) (sym u)
          (lt_of_mul-lt-mul_right (down e)
          (subst (λ (y : ℕ). y < 2 ^ 2098 * down e) x
          (lt_of_lt_of_le (mul-lt-mul_of_pos_right t (pow_pos 1074)) (le_of_eq (mul_right_comm (2 ^ 1024) (down e) (2 ^ 1074) ∙ ap (λ (y : ℕ). y * down e) (sym (pow-add 2 1024 1074))))))),
    )

back : (a l : ℕ) → a ≤ l → l - a + a ≡ l
back a l h = omega arith

count : (s : Bool) (m : ℕ) (e : ℤ) → m < 2 ^ 53 → down e ≤ 2 ^ 1074 → m * up e < 2 ^ 1024 * down e → Form s m e
count s m (pos a) w d t =
    of-count s m (pos a) (a + 1074) w t (mul_assoc m (2 ^ a) (2 ^ 1074) ∙ ap (λ (x : ℕ). m * x) (sym (pow-add 2 a 1074)) ∙ sym (mul-one (m * 2 ^ (a + 1074))))
count s m (negsuc a) w d t =
    let j = 1074 - suc a in
    of-count s m (negsuc a) j w t
    (ap (λ (x : ℕ). x * 2 ^ 1074) (mul-one m) ∙ ap (λ (x : ℕ). m * 2 ^ x) (sym (back (suc a) 1074 (pow_le_back (suc a) 1074 d))) ∙ ap (λ (x : ℕ). m * x) (pow-add 2 j (suc a)) ∙ sym (mul_assoc m (2 ^ j) (2 ^ suc a)))

pub form : (s : Bool) (m : ℕ) (e : ℤ) → T (fits binary64 (fin s m e)) → Form s m e
unfolding fits
form s zero e h = zero_form s e
form s (suc m) e h =
    let A = eqb (suc m % 2) 1 in
    let B = ltb (suc m) (2 ^ 53) in
    let C = leb (down e) (2 ^ 1074) in
    let D = ltb (suc m * up e) (2 ^ 1024 * down e) in
    count s (suc m) e
    (ltb→lt (suc m) (2 ^ 53) (and_r A B (and_l (A && B) C (and_l (A && B && C) D h))))
    (leb→le (down e) (2 ^ 1074) (and_r (A && B) C (and_l (A && B && C) D h)))
    (ltb→lt (suc m * up e) (2 ^ 1024 * down e) (and_r (A && B && C) D h))

pub plain_value : (x : Float) → T (fits binary64 x) → T (plain x) → HasValue x false (in_units x) (2 ^ 1074)
plain_value nan h p = absurd p
plain_value (inf s) h p = absurd p
plain_value (fin true m e) h p = absurd p
plain_value (fin false m e) h p = (refl, (form false m e h).4)

plain_form : (x : Float) → T (fits binary64 x) → T (plain x) → (w : ℕ) × (j : ℕ) × (in_units x ≡ w * 2 ^ j) × (w < 2 ^ 53)
plain_form nan h p = absurd p
plain_form (inf s) h p = absurd p
plain_form (fin s m e) h p = let f = form s m e h in (f.0, f.1, f.2, f.3)

plain-lt : (x : Float) → T (fits binary64 x) → T (plain x) → in_units x < 2 ^ 2098
plain-lt nan h p = absurd p
plain-lt (inf s) h p = absurd p
plain-lt (fin s m e) h p = (form s m e h).5

-- ---- no value of 53 digits lies between q * 2 ^ k and the next multiple of 2 ^ k, for a q of 53 digits
gap : (w j q k : ℕ) → w < 2 ^ 53 → 2 ^ 52 ≤ q → (w * 2 ^ j ≤ q * 2 ^ k) ⊎ ((q + 1) * 2 ^ k ≤ w * 2 ^ j)
gap w j q k small lo = either (dec_le k j)
  where
    coarse : k ≤ j → w * 2 ^ (j - k) * 2 ^ k ≡ w * 2 ^ j
    coarse h = mul_assoc w (2 ^ (j - k)) (2 ^ k) ∙ ap (λ (x : ℕ). w * x) (sym (pow-add 2 (j - k) k) ∙ ap (λ (x : ℕ). 2 ^ x) (back k j h))

    next : (a b : ℕ) → b < a → b + 1 ≤ a
    next a b h = omega arith

    at : k ≤ j → Dec (w * 2 ^ (j - k) ≤ q) → (w * 2 ^ j ≤ q * 2 ^ k) ⊎ ((q + 1) * 2 ^ k ≤ w * 2 ^ j)
    at h (yes l) = inl (le_trans (le_of_eq (sym (coarse h))) (mul-le-mul_right (2 ^ k) l))
    at h (no f) = inr (le_trans (mul-le-mul_right (2 ^ k) (next (w * 2 ^ (j - k)) q (lt_of_not-le f))) (le_of_eq (coarse h)))

    fine : j < k → 53 + j ≤ 52 + k
    fine h = omega arith

    either : Dec (k ≤ j) → (w * 2 ^ j ≤ q * 2 ^ k) ⊎ ((q + 1) * 2 ^ k ≤ w * 2 ^ j)
    either (yes h) = at h (dec_le (w * 2 ^ (j - k)) q)
    either (no f) =
        inl (le_of_lt (lt_of_lt_of_le (shl_lt 53 j small) (le_trans (pow_mono (fine (lt_of_not-le f))) (le_trans (le_of_eq (pow-add 2 52 k)) (mul-le-mul_right (2 ^ k) lo)))))

-- ---- the midpoint of r and another value w, from the midpoint of r's two neighbouring multiples
sq_mono : (a b : ℕ) → a < b → a * a < b * b
sq_mono a b h = lt_of_le_of_lt (mul-le-mul (le_refl a) (le_of_lt h)) (mul-lt-mul_of_pos_right h (first a b h))
  where
    first : (a b : ℕ) → a < b → 0 < b
    first a b h = omega arith

module _ (n q p w : ℕ) (lo : q * p * (q * p) ≤ n) (hi : n < (q + 1) * p * ((q + 1) * p)) (g : (w ≤ q * p) ⊎ ((q + 1) * p ≤ w)) where
  down-above : w < q * p → (q * p + w) * (q * p + w) < 4 * n
  down-above h = let s = sq_mono (q * p + w) (2 * (q * p)) (omega arith) in omega arith

  down-below : 4 * n < (2 * q + 1) * p * ((2 * q + 1) * p) → q * p < w → 4 * n < (q * p + w) * (q * p + w)
  down-below m h = go g
    where
      go : (w ≤ q * p) ⊎ ((q + 1) * p ≤ w) → 4 * n < (q * p + w) * (q * p + w)
      go (inl l) = absurd (not-le_of_lt h l)
      go (inr l) = let a : (2 * q + 1) * p ≤ q * p + w = omega arith in lt_of_lt_of_le m (mul-le-mul a a)

  up_above : (2 * q + 1) * p * ((2 * q + 1) * p) < 4 * n → w < (q + 1) * p → ((q + 1) * p + w) * ((q + 1) * p + w) < 4 * n
  up_above m h = go g
    where
      go : (w ≤ q * p) ⊎ ((q + 1) * p ≤ w) → ((q + 1) * p + w) * ((q + 1) * p + w) < 4 * n
      go (inl l) = let a : (q + 1) * p + w ≤ (2 * q + 1) * p = omega arith in lt_of_le_of_lt (mul-le-mul a a) m
      go (inr l) = absurd (not-le_of_lt h l)

  up-below : (q + 1) * p < w → 4 * n < ((q + 1) * p + w) * ((q + 1) * p + w)
  up-below h = let s = sq_mono (2 * ((q + 1) * p)) ((q + 1) * p + w) (omega arith) in omega arith

-- ---- a tie is impossible: it would make the square of 2q + 1, an odd number of 106 digits, the odd part of a number of 53 digits
odd_square : (q : ℕ) → (2 * q + 1) * (2 * q + 1) % 2 ≡ 1
odd_square q = subst (λ (x : ℕ). x % 2 ≡ 1) (sym (form' q)) (last (2 * (q * q) + 2 * q))
  where
    form' : (q : ℕ) → (2 * q + 1) * (2 * q + 1) ≡ 2 * (2 * (q * q) + 2 * q) + 1
    form' q = omega arith

    last : (a : ℕ) → (2 * a + 1) % 2 ≡ 1
    last a = omega arith

odd_part : (a b i j : ℕ) → a % 2 ≡ 1 → a * 2 ^ i ≡ b * 2 ^ j → a ≤ b
odd_part a b i zero o e = le_trans (le_trans (le_of_eq (sym (mul-one a))) (mul-le-mul (le_refl a) (pow_pos i))) (le_of_eq (e ∙ mul-one b))
odd_part a b zero (suc j) o e = absurd (even a (b * 2 ^ j) o (sym (mul-one a) ∙ e ∙ ap (λ (x : ℕ). b * x) (pow-succ' 2 j) ∙ mul_left_comm b 2 (2 ^ j)))
  where
    even : (a c : ℕ) → a % 2 ≡ 1 → a ≡ 2 * c → ⊥
    even a c o h = omega arith
odd_part a b (suc i) (suc j) o e =
    odd_part a b i j o
    (eq_of_mul-eq-mul_right 2 (zero-lt-suc 1) (a * 2 ^ i) (b * 2 ^ j)
    (mul_assoc a (2 ^ i) 2 ∙ ap (λ (x : ℕ). a * x) (sym (pow-suc 2 i)) ∙ e ∙ ap (λ (x : ℕ). b * x) (pow-suc 2 j) ∙ sym (mul_assoc b (2 ^ j) 2)))

no_tie : (w j q k : ℕ) → w < 2 ^ 53 → 2 ^ 52 ≤ q → 4 * (w * 2 ^ j) ≡ (2 * q + 1) * 2 ^ k * ((2 * q + 1) * 2 ^ k) → ⊥
no_tie w j q k small lo e =
    let o = (2 * q + 1) * (2 * q + 1) in
    let l : o ≤ w = odd_part o w (k + k) (j + 2) (odd_square q)
    (ap (λ (x : ℕ). o * x) (pow-add 2 k k) ∙ regroup (2 * q + 1) (2 ^ k) ∙ sym e ∙ again w (2 ^ j) ∙ ap (λ (x : ℕ). w * x) (sym (pow-add 2 j 2))) in
    let b : 2 ^ 53 ≤ 2 * q + 1 = omega arith in
    let c : 2 ^ 53 * 2 ^ 53 ≤ o = mul-le-mul b b in
    lt_irrefl w (lt_of_lt_of_le small (le_trans (lit≤ {m = 2 ^ 53} {n = 2 ^ 53 * 2 ^ 53} tt) (le_trans c l)))
  where
    regroup : (a p : ℕ) → a * a * (p * p) ≡ a * p * (a * p)
    regroup a p = omega arith

    again : (w p : ℕ) → 4 * (w * p) ≡ w * (p * 4)
    again w p = omega arith

-- ---- a value by its units
value_units : (x : Float) (a : ℕ) → HasValue x false a (2 ^ 1074) → (in_units x ≡ a) × T (plain x)
value_units nan a v = absurd v
value_units (inf s) a v = absurd v
value_units (fin true m e) a v = absurd (true≢false v.0)
value_units (fin false m e) a v = (ap (λ (y : ℕ). y / down e) v.1 ∙ mul-div_cancel a (down_pos e), tt)

-- ---- a number n of 53 digits and zeros, whose root has k digits to drop
module _ (n w j k : ℕ) (is : n ≡ w * 2 ^ j) (small : w < 2 ^ 53) (lo : 2 ^ 52 ≤ whole_root n / 2 ^ k) where
  abbrev q : ℕ
  q = whole_root n / 2 ^ k

  from-below : q * 2 ^ k * (q * 2 ^ k) ≤ n
  from-below = let a = div-mul-le_self (whole_root n) (2 ^ k) in le_trans (mul-le-mul a a) (whole_root_is n).0

  from-above : n < (q + 1) * 2 ^ k * ((q + 1) * 2 ^ k)
  from-above =
      let a : whole_root n + 1 ≤ (q + 1) * 2 ^ k = next (whole_root n) q (2 ^ k) (lt-div-mul-add (pow_pos k)) in
      lt_of_lt_of_le (whole_root_is n).1 (mul-le-mul a a)
    where
      next : (a b c : ℕ) → a < b * c + c → a + 1 ≤ (b + 1) * c
      next a b c h = omega arith

  abbrev Nearer : ℕ → Type 0
  Nearer r = (v i : ℕ) → v < 2 ^ 53 → ((v * 2 ^ i < r → (r + v * 2 ^ i) * (r + v * 2 ^ i) < 4 * n) × (r < v * 2 ^ i → 4 * n < (r + v * 2 ^ i) * (r + v * 2 ^ i)))

  settled : (o : Ordering) → Cmp o (4 * n) ((2 * q + 1) * 2 ^ k * ((2 * q + 1) * 2 ^ k)) → Nearer (nearest q o * 2 ^ k)
  settled Ordering.lt c v i s =
      let g = gap v i q k s lo in
      (down-above n q (2 ^ k) (v * 2 ^ i) from-below from-above g, down-below n q (2 ^ k) (v * 2 ^ i) from-below from-above g c)
  settled Ordering.eq c v i s = absurd (no_tie w j q k small lo (ap (λ (x : ℕ). 4 * x) (sym is) ∙ c))
  settled Ordering.gt c v i s =
      let g = gap v i q k s lo in
      subst (λ (x : ℕ). (v * 2 ^ i < x * 2 ^ k → (x * 2 ^ k + v * 2 ^ i) * (x * 2 ^ k + v * 2 ^ i) < 4 * n) × (x * 2 ^ k < v * 2 ^ i → 4 * n < (x * 2 ^ k + v * 2 ^ i) * (x * 2 ^ k + v * 2 ^ i))) (add-one q)
      (up_above n q (2 ^ k) (v * 2 ^ i) from-below from-above g c, up-below n q (2 ^ k) (v * 2 ^ i) from-below from-above g)

  pub nearer : Nearer (nearest_root n k * 2 ^ k)
  unfolding nearest_root
  nearer = settled (compare (4 * n) ((2 * q + 1) * 2 ^ k * ((2 * q + 1) * 2 ^ k))) (cmp (4 * n) ((2 * q + 1) * 2 ^ k * ((2 * q + 1) * 2 ^ k)))

-- ---- `sqrt_of x` is the value nearest to the root of x, for every positive finite x
pub positive-plain : (x : Float) → T (positive x) → T (plain x)
positive-plain nan p = absurd p
positive-plain (inf s) p = absurd p
positive-plain (fin true m e) p = absurd p
positive-plain (fin false m e) p = tt

pub root_units_is : (n : ℕ) → root_units n ≡ units binary64 false (nearest_root n (size (whole_root n) - 53)) (size (whole_root n) - 53)
unfolding root_units
root_units_is n = refl

pub correct : (x : Float) → T (fits binary64 x) → T (positive x) → NearestToRoot x (sqrt_of x)
correct x h p =
    let a = in_units x in
    let v = plain_value x h (positive-plain x p) in
    let f = plain_form x h (positive-plain x p) in
    let A : 0 < a = value_pos x a (2 ^ 1074) p (pow_pos 1074) v in
    let n = a * 2 ^ 1074 in
    let range = squared_range a A (plain-lt x h (positive-plain x p)) in
    let k = size (whole_root n) - 53 in
    let Q = nearest_root n k in
    let nr = nearest_range n range.0 range.1 in
    let room = room_for n range.0 range.1 in
    let r = units binary64 false Q k in
    let e : sqrt_of x ≡ r = sqrt-at x a A v ∙ root_units_is n in
    let u = value_units r (Q * 2 ^ k) (units_val binary64 false Q k (in_range Q k nr.0 nr.1 room)) in
    let is : n ≡ f.0 * 2 ^ (f.1 + 1074) = ap (λ (y : ℕ). y * 2 ^ 1074) f.2 ∙ mul_assoc f.0 (2 ^ f.1) (2 ^ 1074) ∙ ap (λ (y : ℕ). f.0 * y) (sym (pow-add 2 f.1 1074)) in
    let near = nearer n f.0 (f.1 + 1074) k is f.3 (digits_of (whole_root n) (root_lo n range.0 range.1)).0 in
    subst (λ (z : Float). NearestToRoot x z) (sym e)
    (record {
      held = units-fits Q k nr.0 nr.1 room;
      is_plain = u.1;
      above = λ y hy py.
          let g = plain_form y hy py in
          subst (λ (R : ℕ). in_units y < R → (R + in_units y) * (R + in_units y) < 4 * n) (sym u.0)
          (subst (λ (W : ℕ). W < Q * 2 ^ k → (Q * 2 ^ k + W) * (Q * 2 ^ k + W) < 4 * n) (sym g.2) (near g.0 g.1 g.3).0);
      below = λ y hy py.
          let g = plain_form y hy py in
          subst (λ (R : ℕ). R < in_units y → 4 * n < (R + in_units y) * (R + in_units y)) (sym u.0)
          (subst (λ (W : ℕ). Q * 2 ^ k < W → 4 * n < (Q * 2 ^ k + W) * (Q * 2 ^ k + W)) (sym g.2) (near g.0 g.1 g.3).1);
    })

-- ---- and no other value is
pub same_units : (r s : Float) → T (fits binary64 r) → T (plain r) → T (fits binary64 s) → T (plain s) → in_units r ≡ in_units s → r ≡ s
same_units r s hr pr hs ps e =
    sym (of_bits-to_bits binary64 r hr)
    ∙ ap (of_bits binary64) (to_bits_is r (in_units r) (plain_value r hr pr) ∙ ap (λ (n : ℕ). (size n - 53) * 2 ^ 52 + n / 2 ^ (size n - 53)) e ∙ sym (to_bits_is s (in_units s) (plain_value s hs ps)))
    ∙ of_bits-to_bits binary64 s hs

clash : (a b n : ℕ) → (a + b) * (a + b) < n → n < (b + a) * (b + a) → ⊥
clash a b n h k = omega arith

ordered : (a b : ℕ) → (a ≡ b) ⊎ ((a < b) ⊎ (b < a))
ordered a b = go (dec_le a b)
  where
    go : Dec (a ≤ b) → (a ≡ b) ⊎ ((a < b) ⊎ (b < a))
    go (yes h) = elim (eq-or-lt_of_le h) [ inl e ↦ inl e | inr l ↦ inr (inl l) ]
    go (no f) = inr (inr (lt_of_not-le f))

pub only : (x r s : Float) → NearestToRoot x r → NearestToRoot x s → r ≡ s
only x r s R S = go (ordered (in_units r) (in_units s))
  where
    go : (in_units r ≡ in_units s) ⊎ ((in_units r < in_units s) ⊎ (in_units s < in_units r)) → r ≡ s
    go (inl e) = same_units r s R.held R.is_plain S.held S.is_plain e
    go (inr (inl l)) = absurd (clash (in_units s) (in_units r) (4 * (in_units x * 2 ^ 1074)) (S.above r R.held R.is_plain l) (R.below s S.held S.is_plain l))
    go (inr (inr l)) = absurd (clash (in_units r) (in_units s) (4 * (in_units x * 2 ^ 1074)) (R.above s S.held S.is_plain l) (S.below r R.held R.is_plain l))

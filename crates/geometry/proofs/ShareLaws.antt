-- Doubles from 0 to 1 without a minus sign: their order and ranks, halfway between two of them, and a number times the reciprocal of one that is not smaller. Assumes nothing.
use mathlib.Core.Path.{◌≡◌, refl, sym, subst, ap}
use mathlib.Core.Logic.{◌⊎◌, inl, inr}
use Prim.Native.Nat.{ℕ, zero, suc, ◌+◌, ◌-◌, ◌*◌, ◌/◌, ◌^◌, ◌≤◌, ◌<◌, zero-le}
use native.Mathlib.Nat.{le_antisymm, le_of_lt, le_refl, le_trans, le_of_eq, lt_of_lt_of_le, not-le_of_lt, mul-pos, mul_left_comm, mul-le-mul, mul-le-mul_right, le_of_mul-le-mul_right, le-div_iff_mul-le}
use native.Mathlib.Omega.{arith}
use mathlib.Core.Bool.{true, false}
use lib.Dec.{T, lit<, lit≤}
use lib.Pow.{pow_pos, pow_mono}
use lib.Ieee.{Float, nan, inf, fin, binary64, size, round, le, fits, is_nan, of_bits, to_bits}
use lib.Ieee.Bits.{of_bits-fits}
use lib.Ieee.Digits.{size-lt}
use lib.Ieee.Fits.{mul-fits}
use lib.Ieee.Order.{drop, kept, round_mono}
use lib.Ieee.Scale.{grid}
use Rattle.geometry.specs.Doubles.{◌⊕◌, ◌⊗◌, ◌⊘◌, half, nought, one}
use Rattle.geometry.specs.Nearest.{units_in_one, in_units}
use Rattle.geometry.specs.Order.{rank_of}
use Rattle.geometry.proofs.ExactLaws.{Exact, exact_units, exact_same, nought-exact, one-exact, exact-le, le-exact, round_exact, round-most, mul-exact, div-exact}
use Rattle.geometry.proofs.FloatOrder.{lt-or-le, le_left, le_right, holds, test}
use Rattle.geometry.proofs.OrderLaws.{total_order}
use Rattle.geometry.proofs.RoundingLaws.{closest-half, before}
use Rattle.geometry.proofs.SizeLaws.{sum-exact}
use Rattle.geometry.proofs.UnitLaws.{units_pos}

-- a double from 0 to 1 without a minus sign
pub record Share (x : Float) : Type 0 where
  pub held : T (fits binary64 x)
  pub exact : Exact x (in_units x)
  pub most : in_units x ≤ units_in_one

pub share : (x : Float) (a : ℕ) → T (fits binary64 x) → Exact x a → a ≤ units_in_one → Share x
share x a f h l = record { held = f; exact = subst (Exact x) (sym (exact_units x a h)) h; most = le_trans (le_of_eq (exact_units x a h)) l }

pub nought-share : Share nought
nought-share = share nought 0 (of_bits-fits binary64 0) nought-exact zero-le

pub one-share : Share one
one-share = share one units_in_one (of_bits-fits binary64 0x3ff0_0000_0000_0000) one-exact (le_refl units_in_one)

pub share-from_zero : (x : Float) → Share x → le nought x ≡ true
share-from_zero x h = holds (le nought x) (exact-le nought x 0 (in_units x) nought-exact h.exact zero-le)

pub share-to_one : (x : Float) → Share x → le x one ≡ true
share-to_one x h = holds (le x one) (exact-le x one (in_units x) units_in_one h.exact one-exact h.most)

pub share-number : (x : Float) → Share x → is_nan x ≡ false
unfolding is_nan
share-number x h = go x (in_units x) h.exact
  where
    go : (x : Float) (a : ℕ) → Exact x a → is_nan x ≡ false
    go nan a e = absurd e
    go (inf s) a e = absurd e
    go (fin s m d) a e = refl

-- ---- halfway between two

half-exact : Exact half (2 ^ 1073)
unfolding of_bits
half-exact = (refl, refl)

pub middle-share : (x y : Float) → Share x → Share y → Share (half ⊗ (x ⊕ y))
middle-share x y h k =
    let s = sum-exact x y (in_units x) (in_units y) 2 h.exact k.exact (both (in_units x) (in_units y) units_in_one h.most k.most) (lit≤ tt) in
    let a = 2 ^ 1073 * s.0 in
    let c = units_in_one * units_in_one in
    let C : 0 < c = mul-pos units_pos units_pos in
    let l : a ≤ 1 * c = le_trans (mul-le-mul {n₁ = 2 ^ 1073} {n₂ = 2 ^ 1073} (lit≤ tt) s.2) (lit≤ tt) in
    let is : Exact (half ⊗ (x ⊕ y)) (grid binary64 a c) = subst (λ (z : Float). Exact z (grid binary64 a c)) (sym (mul-exact half (x ⊕ y) (2 ^ 1073) s.0 half-exact s.1)) (round_exact a c 1 C l (lit≤ tt)) in
    share (half ⊗ (x ⊕ y)) (grid binary64 a c) (mul-fits binary64 half (x ⊕ y)) is (le_trans (round-most a c 1 C l (lit≤ tt)) (lit≤ tt))
  where
    both : (a b u : ℕ) → a ≤ u → b ≤ u → a + b ≤ 2 * u
    both a b u h k = omega arith

-- ---- ranks: from that of 0 on, and below that of 1 but for 1 itself

pub nought_rank : rank_of nought ≡ 9223372036854775808
unfolding rank_of to_bits of_bits
nought_rank = refl

pub one_rank : rank_of one ≡ 13830554455654793216
unfolding rank_of to_bits of_bits
one_rank = refl

pub share-ranked : (v : Float) → Share v → (rank_of nought ≤ rank_of v) × ((v ≡ one) ⊎ (rank_of v < rank_of one))
share-ranked v h = (
  elim (lt-or-le v nought (le_right nought v from) (le_left nought v from)) [ inl l ↦ le_of_lt (total_order.less nought v nought-share.held h.held (holds _ l)) | inr k ↦ lowest k ],
  elim (lt-or-le one v (le_right v one to) (le_left v one to)) [ inl l ↦ inr (total_order.less v one h.held one-share.held (holds _ l)) | inr k ↦ inl (highest k) ],
)
  where
    from : T (le nought v)
    from = test (share-from_zero v h)

    to : T (le v one)
    to = test (share-to_one v h)

    lowest : T (le v nought) → rank_of nought ≤ rank_of v
    lowest k =
        let z : in_units v ≡ 0 = omega (arith, le-exact v nought (in_units v) 0 h.exact nought-exact k) in
        le_of_eq (ap rank_of (exact_same nought v 0 nought-share.held h.held nought-exact (subst (Exact v) z h.exact)))

    highest : T (le one v) → v ≡ one
    highest k =
        let e : in_units v ≡ units_in_one = le_antisymm h.most (le-exact one v units_in_one (in_units v) one-exact h.exact k) in
        exact_same v one units_in_one h.held one-share.held (subst (Exact v) e h.exact) one-exact

-- ---- a number times the reciprocal of one that is not smaller is at most 1, after the two roundings

close_product : (q u n : ℕ) → q * u * 2 ≤ n * 2 + u → 2 ^ 52 * u ≤ n → q * u * 2 ^ 53 ≤ (2 ^ 53 + 1) * n
close_product q u n h k = omega arith

half_more : (n : ℕ) → (2 ^ 53 + 1) * n ≤ 2 * n * 2 ^ 53
half_more n = omega arith

-- the rounded reciprocal of t units, in units, is too large by half a digit of its 53 at most
reciprocal : (t : ℕ) → 0 < t → t ≤ 2 ^ 40 * units_in_one → t * grid binary64 units_in_one t * 2 ^ 53 ≤ (2 ^ 53 + 1) * (units_in_one * units_in_one)
reciprocal t P most =
    let n = units_in_one * units_in_one in
    let k = drop 53 n t in
    let q = kept 53 n t in
    let u = t * 2 ^ k in
    let near = closest-half n u (mul-pos P (pow_pos k)) in
    let long = before 53 n t (lit< tt) P (drops (drop 53 n t) refl) in
    subst (λ (z : ℕ). z * 2 ^ 53 ≤ (2 ^ 53 + 1) * n) (mul_left_comm q t (2 ^ k)) (close_product q u n near.0 long)
  where
    large : 2 ^ 1034 ≤ units_in_one * units_in_one / t
    large = (le-div_iff_mul-le P).1 (le_trans (mul-le-mul {n₁ = 2 ^ 1034} {m₁ = t} {n₂ = 2 ^ 1034} {m₂ = 2 ^ 40 * units_in_one} (lit≤ tt) most) (lit≤ tt))

    drops : (k : ℕ) → k ≡ size (units_in_one * units_in_one / t) - 53 → 0 < size (units_in_one * units_in_one / t) - 53
    drops zero e =
        let few : size (units_in_one * units_in_one / t) ≤ 53 = omega arith in
        absurd (not-le_of_lt (lt_of_lt_of_le (size-lt (units_in_one * units_in_one / t)) (le_trans (pow_mono few) (lit≤ tt))) large)
    drops (suc k) e = omega arith

-- 1 + 2 ^ -53 lies halfway to the next double, and goes to the even one: 1
tie : round binary64 false (2 ^ 53 + 1) (2 ^ 53) ≡ one
unfolding round of_bits
tie = refl

module _ (t : Float) (b : ℕ) (exact : Exact t b) (least : 2 ^ 1050 ≤ b) (most : b ≤ 2 ^ 40 * units_in_one) where
  some : 0 < b
  some = lt_of_lt_of_le (pow_pos 1050) least

  -- the reciprocal
  abbrev i : ℕ
  i = grid binary64 units_in_one b

  inverse-exact : Exact (one ⊘ t) i
  inverse-exact =
      subst (λ (z : Float). Exact z i) (sym (div-exact one t units_in_one b some one-exact exact))
      (round_exact units_in_one b (2 ^ 24) some (le_trans (lit≤ tt) (mul-le-mul {n₁ = 2 ^ 24} {m₁ = 2 ^ 1050} {n₂ = 2 ^ 24} {m₂ = b} (lit≤ tt) least)) (lit≤ tt))

  module _ (x : Float) (a : ℕ) (h : Exact x a) (l : a ≤ b) where
    times_is : x ⊗ (one ⊘ t) ≡ round binary64 false (a * i) (units_in_one * units_in_one)
    times_is = mul-exact x (one ⊘ t) a i h inverse-exact

    pub part-to_one : T (le (x ⊗ (one ⊘ t)) one)
    part-to_one =
        subst (λ (z : Float). T (le z one)) (sym times_is)
        (subst (λ (z : Float). T (le (round binary64 false (a * i) (units_in_one * units_in_one)) z)) tie
        (round_mono binary64 (a * i) (units_in_one * units_in_one) (2 ^ 53 + 1) (2 ^ 53) (mul-pos units_pos units_pos) (pow_pos 53)
        (le_trans (mul-le-mul_right (2 ^ 53) (mul-le-mul_right i l)) (reciprocal b some most))))

    pub part-share : Share (x ⊗ (one ⊘ t))
    part-share =
        let m : a * i ≤ 2 * (units_in_one * units_in_one) =
        le_of_mul-le-mul_right {m = a * i} {n = 2 * (units_in_one * units_in_one)} {k = 2 ^ 53}
        (le_trans (mul-le-mul_right (2 ^ 53) (mul-le-mul_right i l)) (le_trans (reciprocal b some most) (half_more (units_in_one * units_in_one)))) (pow_pos 53) in
        let g = grid binary64 (a * i) (units_in_one * units_in_one) in
        let is : Exact (x ⊗ (one ⊘ t)) g = subst (λ (z : Float). Exact z g) (sym times_is) (round_exact (a * i) (units_in_one * units_in_one) 2 (mul-pos units_pos units_pos) m (lit≤ tt)) in
        share (x ⊗ (one ⊘ t)) g (mul-fits binary64 x (one ⊘ t)) is (le-exact (x ⊗ (one ⊘ t)) one g units_in_one is one-exact part-to_one)

  pub part-order : (x y : Float) (a c : ℕ) → Exact x a → Exact y c → a ≤ c → T (le (x ⊗ (one ⊘ t)) (y ⊗ (one ⊘ t)))
  part-order x y a c h k l =
      subst (λ (z : Float). T (le z (y ⊗ (one ⊘ t)))) (sym (mul-exact x (one ⊘ t) a i h inverse-exact))
      (subst (λ (z : Float). T (le (round binary64 false (a * i) (units_in_one * units_in_one)) z)) (sym (mul-exact y (one ⊘ t) c i k inverse-exact))
      (round_mono binary64 (a * i) (units_in_one * units_in_one) (c * i) (units_in_one * units_in_one) (mul-pos units_pos units_pos) (mul-pos units_pos units_pos)
      (mul-le-mul_right (units_in_one * units_in_one) (mul-le-mul_right i l))))

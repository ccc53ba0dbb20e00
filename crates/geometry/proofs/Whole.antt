-- The whole root of a whole number, and the whole number nearest to a root: laws on plain numbers. Assumes nothing.
use Rattle.std.proofs.Common.{◌≡◌, ℕ, zero, suc, ◌+◌, ◌-◌, ◌*◌, ◌/◌, ◌^◌, ◌<◌, ◌≤◌, Bool, true, false, cond, not, T, eqb, ltb, leb, sym, refl, ap, ◌∙◌, subst, le_trans, le_of_eq, lt_of_lt_of_le, lt_of_le_of_lt, mul-le-mul_right, zero-lt-suc, div-lt_iff_lt-mul, mul-le-mul, mul-lt-mul_of_pos_right, mul-pos, lt_of_not-le, le-div_iff_mul-le, not-le_of_lt, add-one, arith, eqb→eq, ltb→lt, leb→le, nltb→le, pow_pos, pow_mono, pow-add}
use Prim.Native.Nat.{compare, Ordering}
use native.Mathlib.Nat.{div-eq_of_lt-le}
use lib.Dec.{is_le, compare_is_eq, nleb→lt, eqb_refl}
use lib.Arith.{lt_of_le-ne}
use lib.Ieee.{size, nearest}
use lib.Ieee.Digits.{size-lt, size-le}
use Rattle.geometry.specs.Root.{one_more, root_below, whole_root, nearest_root}
use Rattle.geometry.specs.RootSteps.{root_bits, RootOf}

-- of two squares the smaller has the smaller root
pub sq-lt : (a b : ℕ) → a * a < b * b → a < b
sq-lt a b h = lt_of_not-le (λ (g : b ≤ a). not-le_of_lt h (mul-le-mul g g))

-- q is the whole part of √n
abbrev pub IsWhole : ℕ → ℕ → Type 0
IsWhole n q = (q * q ≤ n) × (n < (q + 1) * (q + 1))

pub whole_of : {n q rest : ℕ} → RootOf n q rest → IsWhole n q
whole_of {n} {q} {rest} r =
    let e = r.whole in
    let s = r.small in
    (omega arith, omega arith)

-- ---- `whole_root` is that q
last_digit : (n q : ℕ) → q * q ≤ n → n < (q + 2) * (q + 2) → IsWhole n (one_more n q)
last_digit n q a b = go (leb ((q + 1) * (q + 1)) n) (leb→le ((q + 1) * (q + 1)) n) (nleb→lt ((q + 1) * (q + 1)) n)
  where
    go : (t : Bool) → (T t → (q + 1) * (q + 1) ≤ n) → (T (not t) → n < (q + 1) * (q + 1)) → IsWhole n (cond t (q + 1) q)
    go true h k = (h tt, subst (λ (x : ℕ). n < x * x) (two q) b)
      where
        two : (q : ℕ) → q + 2 ≡ q + 1 + 1
        two q = omega arith
    go false h k = (a, k tt)

doubled : (n q : ℕ) → IsWhole (n / 4) q → (2 * q * (2 * q) ≤ n) × (n < (2 * q + 2) * (2 * q + 2))
doubled n q h =
    let a = h.0 in
    let b = h.1 in
    (omega arith, omega arith)

quarter : (d n : ℕ) → n < 2 ^ (2 * suc d) → n / 4 < 2 ^ (2 * d)
quarter d n h = (div-lt_iff_lt-mul (zero-lt-suc 3)).1 (lt_of_lt_of_le h (le_of_eq (ap (λ (x : ℕ). 2 ^ x) (four d) ∙ pow-add 2 (2 * d) 2)))
  where
    four : (d : ℕ) → 2 * suc d ≡ 2 * d + 2
    four d = omega arith

root-below : (d n : ℕ) → n < 2 ^ (2 * d) → IsWhole n (root_below d n)
unfolding root_below
root-below zero n h = (omega arith, omega arith)
root-below (suc d) n h =
    let w = doubled n (root_below d (n / 4)) (root-below d (n / 4) (quarter d n h)) in
    last_digit n (2 * root_below d (n / 4)) w.0 w.1

pub whole_root_is : (n : ℕ) → IsWhole n (whole_root n)
unfolding whole_root
whole_root_is n = root-below (size n) n (lt_of_lt_of_le (size-lt n) (pow_mono (twice (size n))))
  where
    twice : (z : ℕ) → z ≤ 2 * z
    twice z = omega arith

-- ---- what `compare` says
abbrev pub Cmp : Ordering → ℕ → ℕ → Type 0
Cmp Ordering.lt a b = a < b
Cmp Ordering.eq a b = a ≡ b
Cmp Ordering.gt a b = b < a

pub cmp : (a b : ℕ) → Cmp (compare a b) a b
cmp a b = go (compare a b) (leb→le a b) (nleb→lt a b) (eqb→eq a b) (λ (e : a ≡ b). subst (λ (x : ℕ). T (eqb a x)) e (eqb_refl a))
  where
    go : (o : Ordering) → (T (is_le o) → a ≤ b) → (T (not (is_le o)) → b < a) → (T (compare_is_eq o) → a ≡ b) → (a ≡ b → T (compare_is_eq o)) → Cmp o a b
    go Ordering.lt h k e n = lt_of_le-ne (h tt) n
    go Ordering.eq h k e n = e tt
    go Ordering.gt h k e n = k tt

pub compare-lt : (a b : ℕ) → a < b → compare a b ≡ Ordering.lt
compare-lt a b h = go (compare a b) (cmp a b)
  where
    go : (o : Ordering) → Cmp o a b → o ≡ Ordering.lt
    go Ordering.lt k = refl
    go Ordering.eq k = absurd (omega arith)
    go Ordering.gt k = absurd (omega arith)

pub compare_gt : (a b : ℕ) → b < a → compare a b ≡ Ordering.gt
compare_gt a b h = go (compare a b) (cmp a b)
  where
    go : (o : Ordering) → Cmp o a b → o ≡ Ordering.gt
    go Ordering.lt k = absurd (omega arith)
    go Ordering.eq k = absurd (omega arith)
    go Ordering.gt k = refl

-- ---- the root of n * 4 ^ k, for an n whose whole root q has 53 digits
module _ (n q rest k : ℕ) (r : RootOf n q rest) (lo : 2 ^ 52 ≤ q) (hi : q < 2 ^ 53) where
  scaled-whole : whole_root (n * (2 ^ k * 2 ^ k)) / 2 ^ k ≡ q
  scaled-whole =
      let p = 2 ^ k in
      let P : 0 < p = pow_pos k in
      let N = n * (p * p) in
      let w = whole_root N in
      let is = whole_root_is N in
      let a : q * p * (q * p) ≤ N = le_trans (le_of_eq (omega arith)) (mul-le-mul_right (p * p) (whole_of r).0) in
      let b : N < (q + 1) * p * ((q + 1) * p) = lt_of_lt_of_le (mul-lt-mul_of_pos_right (whole_of r).1 (mul-pos P P)) (le_of_eq (omega arith)) in
      div-eq_of_lt-le p (le_of-lt-suc' (sq-lt (q * p) (w + 1) (lt_of_le_of_lt a is.1))) (sq-lt w ((q + 1) * p) (lt_of_le_of_lt is.0 b))
    where
      le_of-lt-suc' : {a b : ℕ} → a < b + 1 → a ≤ b
      le_of-lt-suc' h = omega arith

  scaled-drop : size (whole_root (n * (2 ^ k * 2 ^ k))) - 53 ≡ k
  scaled-drop =
      let p = 2 ^ k in
      let P : 0 < p = pow_pos k in
      let w = whole_root (n * (p * p)) in
      let a : w < 2 ^ (53 + k) = lt_of_lt_of_le ((div-lt_iff_lt-mul P).0 (subst (λ (x : ℕ). x < 2 ^ 53) (sym scaled-whole) hi)) (le_of_eq (sym (pow-add 2 53 k))) in
      let b : 2 ^ (52 + k) ≤ w = le_trans (le_of_eq (pow-add 2 52 k)) ((le-div_iff_mul-le P).0 (subst (λ (x : ℕ). 2 ^ 52 ≤ x) (sym scaled-whole) lo)) in
      let c : 52 + k < size w = lt_of_not-le (λ (g : size w ≤ 52 + k). not-le_of_lt (size-lt w) (le_trans (pow_mono g) b)) in
      let d : size w ≤ 53 + k = size-le w (53 + k) a in
      omega arith

  near : (x : ℕ) → x ≡ q → nearest x (compare (4 * (n * (2 ^ k * 2 ^ k))) ((2 * x + 1) * 2 ^ k * ((2 * x + 1) * 2 ^ k))) ≡ cond (ltb q rest) (q + 1) q
  near x e =
      ap (λ (x : ℕ). nearest x (compare (4 * (n * (2 ^ k * 2 ^ k))) ((2 * x + 1) * 2 ^ k * ((2 * x + 1) * 2 ^ k)))) e
      ∙ go (ltb q rest) (ltb→lt q rest) (nltb→le q rest)
    where
      go : (t : Bool) → (T t → q < rest) → (T (not t) → rest ≤ q) → nearest q (compare (4 * (n * (2 ^ k * 2 ^ k))) ((2 * q + 1) * 2 ^ k * ((2 * q + 1) * 2 ^ k))) ≡ cond t (q + 1) q
      go true h g =
          let p = 2 ^ k in
          let P : 0 < p = pow_pos k in
          let m : (2 * q + 1) * (2 * q + 1) < 4 * n = let e = r.whole in let l = h tt in omega arith in
          let l : (2 * q + 1) * p * ((2 * q + 1) * p) < 4 * (n * (p * p)) = lt_of_le_of_lt (le_of_eq (omega arith)) (lt_of_lt_of_le (mul-lt-mul_of_pos_right m (mul-pos P P)) (le_of_eq (omega arith))) in
          ap (nearest q) (compare_gt _ _ l) ∙ sym (add-one q)
      go false h g =
          let p = 2 ^ k in
          let P : 0 < p = pow_pos k in
          let m : 4 * n < (2 * q + 1) * (2 * q + 1) = let e = r.whole in let l = g tt in omega arith in
          let l : 4 * (n * (p * p)) < (2 * q + 1) * p * ((2 * q + 1) * p) = lt_of_le_of_lt (le_of_eq (omega arith)) (lt_of_lt_of_le (mul-lt-mul_of_pos_right m (mul-pos P P)) (le_of_eq (omega arith))) in
          ap (nearest q) (compare-lt _ _ l)

  pub scaled_nearest : nearest_root (n * (2 ^ k * 2 ^ k)) k ≡ cond (ltb q rest) (q + 1) q
  unfolding nearest_root
  scaled_nearest = near (whole_root (n * (2 ^ k * 2 ^ k)) / 2 ^ k) scaled-whole

  pub scaled-bits : root_bits (n * (2 ^ k * 2 ^ k)) ≡ k * 2 ^ 52 + cond (ltb q rest) (q + 1) q
  unfolding root_bits
  scaled-bits = ap (λ (j : ℕ). j * 2 ^ 52 + nearest_root (n * (2 ^ k * 2 ^ k)) j) scaled-drop ∙ ap (λ (x : ℕ). k * 2 ^ 52 + x) scaled_nearest

-- Averaged knots are the averages of The NURBS Book, 9.8, where no sum is rounded. Assumes nothing.
use mathlib.Core.Path.{◌≡◌, refl, sym, ap, ◌∙◌, subst}
use mathlib.Core.Bool.{true, false, true≢false}
use mathlib.Core.List.{List}
use Prim.Native.Nat.{ℕ, zero, suc, ◌+◌, ◌-◌, ◌*◌, ◌^◌, ◌<◌, ◌≤◌}
use native.Mathlib.Nat.{lt_of_lt_of_le, mul-le-mul_right, mul-pos, mul_assoc, mul-one, zero-mul, add-mul}
use native.Mathlib.Numerals.{add-one}
use native.Mathlib.Omega.{arith}
use borrow.Author.Tests.{lt-ltb, le-ltb, lt-leb}
use lib.Dec.{lit<, lit≤}
use lib.ListN.{length}
use lib.Pow.{pow-add, pow_pos, pow_mono, shl_lt}
use lib.Ieee.{Float, nan, inf, fin, binary64, up, down, round, sum, neg, add, sub, of_int, of_bits}
use lib.Ieee.Exact as exact
use lib.Ieee.Exact.{HasValue}
use lib.Ieee.Fits.{down_pos}
use lib.Ieee.Order.{transfer}
use lib.Ieee.Scale.{round_same}
use Rattle.places.proofs.PlaceLaws.{list_of-at}
use Rattle.geometry.specs.Doubles.{◌⊕◌, ◌⊖◌, ◌⊘◌, nought, double, at, sum_below}
use Rattle.geometry.specs.Nearest.{units_in_one}
use Rattle.geometry.proofs.ExactLaws.{Exact, nought-exact, add-exact, div-exact}
use Rattle.geometry.proofs.UnitLaws.{units_pos}
use Rattle.knots.specs.Knots.{clamped_knots, carried, averaged_knot, averaged_knots}
use Rattle.knots.specs.Textbook.{AreShort, total, AreAveraged}
use Rattle.knots.proofs.KnotLaws.{length-averaged, averaged-ends}

-- ---- sums of whole numbers

first_off : (n : ℕ) (f : ℕ → ℕ) → total (suc n) f ≡ f 0 + total n (λ k. f (k + 1))
unfolding total
first_off zero f = omega arith
first_off (suc n) f = let ih = first_off n f in let e : f (suc n) ≡ f (n + 1) = ap f (sym (add-one n)) in omega (arith, ih, e)

total_same : (n : ℕ) (f g : ℕ → ℕ) → ((k : ℕ) → f k ≡ g k) → total n f ≡ total n g
unfolding total
total_same zero f g e = refl
total_same (suc n) f g e = rw (total_same n f g e, e n)

total_more : (n : ℕ) (f : ℕ → ℕ) → total (suc n) f ≡ total n f + f n
unfolding total
total_more n f = refl

total_most : (n b : ℕ) (f : ℕ → ℕ) → ((k : ℕ) → f k ≤ b) → total n f ≤ n * b
unfolding total
total_most zero b f h = omega arith
total_most (suc n) b f h = omega (arith, total_most n b f h, h n)

-- ---- a difference of doubles without a minus sign is rounded once

minus_times : (m n k : ℕ) → n ≤ m → m * k - n * k ≡ (m - n) * k
minus_times m n k h = let i : m - n + n ≡ m = omega arith in let j = ap (λ (z : ℕ). z * k) i in omega arith

-- X / e and Y / d are a / o and b / o
module _ (X e Y d a b o : ℕ) (O : 0 < o) (p : X * o ≡ a * e) (q : Y * o ≡ b * d) (h : b ≤ a) where
  order : Y * e ≤ X * d
  order = transfer Y X d e b a o o O O q p (mul-le-mul_right o h)

  difference : (X * d - Y * e) * o ≡ (a - b) * (e * d)
  difference =
      let x = ap (λ (z : ℕ). z * d) p in
      let y = ap (λ (z : ℕ). z * e) q in
      omega (arith, minus_times (X * d) (Y * e) o order, minus_times a b (e * d) h)

sub-exact : (x y : Float) (a b : ℕ) → Exact x a → Exact y b → b ≤ a → x ⊖ y ≡ round binary64 false (a - b) units_in_one
unfolding sub add neg sum
sub-exact nan y a b h k l = absurd h
sub-exact (inf s) y a b h k l = absurd h
sub-exact (fin true m e) y a b h k l = absurd (true≢false h.0)
sub-exact (fin false m e) nan a b h k l = absurd k
sub-exact (fin false m e) (inf t) a b h k l = absurd k
sub-exact (fin false m e) (fin true n d) a b h k l = absurd (true≢false k.0)
sub-exact (fin false m e) (fin false n d) a b h k l =
    let A = m * up e * down d in
    let B = n * up d * down e in
    rw (le-ltb A B (order (m * up e) (down e) (n * up d) (down d) a b units_in_one units_pos h.1 k.1 l))
    (round_same binary64 false (A - B) (down e * down d) (a - b) units_in_one (mul-pos (down_pos e) (down_pos d)) units_pos
    (difference (m * up e) (down e) (n * up d) (down d) a b units_in_one units_pos h.1 k.1 l))

-- ---- in units of u = 2 ^ -b, of which there are 2 ^ (1074 - b) of the least ones

module _ (b : ℕ) (small : b ≤ 1074) where
  abbrev u : ℕ
  u = 2 ^ (1074 - b)

  abbrev Counts : Float → ℕ → Type 0
  Counts x n = Exact x (n * u)

  in_one : u * 2 ^ b ≡ units_in_one
  in_one = let e : 1074 - b + b ≡ 1074 = omega arith in sym (pow-add 2 (1074 - b) b) ∙ ap (λ (k : ℕ). 2 ^ k) e

  counts : (n : ℕ) → n < 2 ^ 53 → Counts (round binary64 false (n * u) units_in_one) n
  counts n h =
      exact.round_exact binary64 false (n * u) units_in_one n (1074 - b) units_pos h (lt_of_lt_of_le (shl_lt 53 (1074 - b) h) (pow_mono {i = 53 + (1074 - b)} {j = 2098} (omega arith))) refl

  plus : (x y : Float) (m n : ℕ) → m + n < 2 ^ 53 → Counts x m → Counts y n → Counts (x ⊕ y) (m + n)
  plus x y m n h p q = subst (λ (z : Float). Counts z (m + n)) (sym (add-exact x y (m * u) (n * u) p q ∙ ap (λ (z : ℕ). round binary64 false z units_in_one) (sym (add-mul m n u)))) (counts (m + n) h)

  less : (x y : Float) (m n : ℕ) → n ≤ m → m < 2 ^ 53 → Counts x m → Counts y n → Counts (x ⊖ y) (m - n)
  less x y m n l h p q =
      subst (λ (z : Float). Counts z (m - n))
      (sym (sub-exact x y (m * u) (n * u) p q (mul-le-mul_right u l) ∙ ap (λ (z : ℕ). round binary64 false z units_in_one) (minus_times m n u l))) (counts (m - n) (omega arith))

  given : (n : ℕ) → n < 2 ^ 53 → Counts (round binary64 false n (2 ^ b)) n
  given n h =
      subst (λ (z : Float). Counts z n) (round_same binary64 false (n * u) units_in_one n (2 ^ b) units_pos (pow_pos b) (mul_assoc n u (2 ^ b) ∙ ap (λ (z : ℕ). n * z) in_one)) (counts n h)

  divided : (x : Float) (n p : ℕ) → 0 < p → p < 2 ^ 53 → Counts x n → x ⊘ double p ≡ round binary64 false n (p * 2 ^ b)
  unfolding of_int
  divided x n p h l c =
      let whole : Exact (double p) (p * units_in_one) =
      subst (λ (z : Float). Exact z (p * units_in_one)) (sym (round_same binary64 false p 1 (p * units_in_one) units_in_one (lit< tt) units_pos (sym (mul-one (p * units_in_one)))))
      (exact.round_exact binary64 false (p * units_in_one) units_in_one p 1074 units_pos l (lt_of_lt_of_le (shl_lt 53 1074 l) (pow_mono {i = 53 + 1074} {j = 2098} (lit≤ tt))) refl) in
      let e = ap (λ (z : ℕ). n * (p * z)) in_one in
      div-exact x (double p) (n * u) (p * units_in_one) (mul-pos h units_pos) c whole
      ∙ round_same binary64 false (n * u) (p * units_in_one) n (p * 2 ^ b) (mul-pos h units_pos) (mul-pos h (pow_pos b)) (omega arith)

-- ---- 9.8

module _ (b : ℕ) (t : ℕ → ℕ) (params : List Float) (s : AreShort b t params) (p : ℕ) (low : 1 ≤ p) (high : p ≤ 25) where
  abbrev Is : Float → ℕ → Type 0
  Is = Counts b s.places

  param : (k : ℕ) → k < length params → Is (at params k) (t k)
  param k h = subst (λ (z : Float). Is z (t k)) (sym (s.are k h)) (given b s.places (t k) (omega (arith, s.few k)))

  short : (n : ℕ) (f : ℕ → ℕ) → n ≤ 25 → ((k : ℕ) → f k ≤ 2 ^ 48) → total n f < 2 ^ 53
  short n f h l = omega (arith, total_most n (2 ^ 48) f l)

  leading : (n : ℕ) → n < p → n < length params → Is (sum_below n (λ k. at params (k + 1))) (total n (λ k. t (k + 1)))
  unfolding sum_below total of_bits
  leading zero h l = subst (Exact nought) (sym (zero-mul (u b s.places))) nought-exact
  leading (suc n) h l =
      plus b s.places _ _ _ (t (n + 1)) (short (suc n) (λ k. t (k + 1)) (omega arith) (λ k. s.few (k + 1))) (leading n (omega arith) (omega arith)) (param (n + 1) (omega arith))

  -- one parameter more
  added : (j : ℕ) → total (p - 1) (λ k. t (j + 1 + k)) + t (j + p) ≡ total p (λ k. t (j + 1 + k))
  added j =
      let e : suc (p - 1) ≡ p = omega arith in
      let at_end : t (j + 1 + (p - 1)) ≡ t (j + p) = ap t (omega arith) in
      ap (λ (x : ℕ). total (p - 1) (λ k. t (j + 1 + k)) + x) (sym at_end) ∙ sym (total_more (p - 1) _) ∙ ap (λ (n : ℕ). total n (λ k. t (j + 1 + k))) e

  -- and the first one off
  taken : (j : ℕ) → total p (λ k. t (j + 1 + k)) ≡ t (j + 1) + total (p - 1) (λ k. t (suc j + 1 + k))
  taken j =
      let e : suc (p - 1) ≡ p = omega arith in
      let first : t (j + 1 + 0) ≡ t (j + 1) = ap t (omega arith) in
      let rest : total (p - 1) (λ k. t (j + 1 + (k + 1))) ≡ total (p - 1) (λ k. t (suc j + 1 + k)) = total_same (p - 1) _ _ (λ k. ap t (omega arith)) in
      ap (λ (n : ℕ). total n (λ k. t (j + 1 + k))) (sym e) ∙ first_off (p - 1) _ ∙ omega (arith, first, rest)

  few : (j : ℕ) → total p (λ k. t (j + 1 + k)) < 2 ^ 53
  few j = short p _ high (λ k. s.few (j + 1 + k))

  more : (j : ℕ) → j + p < length params → Is (carried params p j) (total (p - 1) (λ k. t (j + 1 + k))) → Is (carried params p j ⊕ at params (j + p)) (total p (λ k. t (j + 1 + k)))
  more j h c = subst (Is (carried params p j ⊕ at params (j + p))) (added j) (plus b s.places _ _ _ (t (j + p)) (omega (arith, added j, few j)) c (param (j + p) h))

  carries : (j : ℕ) → j + p ≤ length params → Is (carried params p j) (total (p - 1) (λ k. t (j + 1 + k)))
  unfolding carried
  carries zero h = subst (Is (sum_below (p - 1) (λ k. at params (k + 1)))) (total_same (p - 1) _ _ (λ k. ap t (omega arith))) (leading (p - 1) (omega arith) (omega arith))
  carries (suc j) h =
      let e : total p (λ k. t (j + 1 + k)) - t (j + 1) ≡ total (p - 1) (λ k. t (suc j + 1 + k)) = omega (arith, taken j) in
      subst (Is (carried params p j ⊕ at params (j + p) ⊖ at params (j + 1))) e
      (less b s.places _ _ _ (t (j + 1)) (omega (arith, taken j)) (few j) (more j (omega arith) (carries j (omega arith))) (param (j + 1) (omega arith)))

  averages : (j : ℕ) → j + p < length params → averaged_knot params p j ≡ round binary64 false (total p (λ k. t (j + 1 + k))) (p * 2 ^ b)
  unfolding averaged_knot
  averages j h = divided b s.places _ _ p (omega arith) (omega arith) (more j h (carries j (omega arith)))

  knot : (j : ℕ) → 1 ≤ j → j + p < length params → at (averaged_knots params p) (j + p) ≡ averaged_knot params p (j - 1)
  unfolding averaged_knots clamped_knots
  knot j h l =
      list_of-at (length params + p + 1) _ (j + p) nan (omega arith)
      ∙ rw (lt-leb (j + p) p (omega arith), lt-ltb (j + p) (length params) l) (ap (averaged_knot params p) (omega arith))

  pub are_averaged : p < length params → AreAveraged b t params p (averaged_knots params p)
  are_averaged h =
      let ends = averaged-ends params p h in
      let long = length-averaged params p in
      record {
        long = long;
        first = ends.first;
        inner = λ j k l.
            knot j k l
            ∙ averages (j - 1) (omega arith)
            ∙ ap (λ (n : ℕ). round binary64 false n (p * 2 ^ b)) (total_same p _ _ (λ i. ap t (omega arith)));
        last = λ i k l. ends.last i (omega (arith, long)) (omega (arith, long));
      }

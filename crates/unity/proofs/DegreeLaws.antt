-- All degrees together, by induction: no basis function is negative, and for degree d their exact sum strays from one by 11 d parts in 2 ^ 53 and 1875 d units; up to
-- degree 25 that is less than 2 ^ -40. Assumes nothing.
use mathlib.Core.Path.{◌≡◌, sym, ap, ◌∙◌, subst}
use Prim.Native.Nat.{ℕ, zero, suc, ◌+◌, ◌*◌, ◌^◌, ◌≤◌, ◌<◌}
use native.Mathlib.Nat.{le_trans, mul-le-mul_right, mul-le-mul_left, le_of_mul-le-mul_right, add-zero}
use native.Mathlib.Omega.{arith}
use lib.Dec.{lit≤}
use lib.Pow.{pow_pos}
use mathlib.Core.List.{List, [], ◌∷◌}
use lib.Ieee.{Float, nan}
use Rattle.places.specs.Places.{list_of}
use Rattle.places.proofs.PlaceLaws.{list_of-at}
use Rattle.geometry.specs.Doubles.{one, at}
use Rattle.geometry.specs.Nearest.{units_in_one, in_units}
use Rattle.bspline.specs.Basis.{row, basis}
use Rattle.bspline.proofs.Recurrence.{length-basis}
use Rattle.unity.specs.Unity.{error_bound, exact_sum}
use Rattle.geometry.proofs.ErrorLaws.{Near, Close, close_refl, close_more, close_trans}
use Rattle.unity.proofs.SumLaws.{total, term_le, sum-list_of, sum-at}
use Rattle.geometry.proofs.UnitLaws.{NonNegative, one_nonnegative, one_units}
use Rattle.unity.proofs.RowLaws.{Distances, row_nonnegative, row_sum}

fewer : (left right : ℕ → Float) (d e : ℕ) → d ≤ e → Distances left right e → Distances left right d
fewer left right d e h D = record {
  left_nonnegative = λ j a b. D.left_nonnegative j a (le_trans b h);
  right_nonnegative = λ j a b. D.right_nonnegative j a (le_trans b h);
  left_le = λ j a b. D.left_le j a (le_trans b h);
  right_le = λ j a b. D.right_le j a (le_trans b h);
  wide = λ j k a b c f. D.wide j k a (le_trans b h) c (le_trans f h);
}

-- x is not more than twice o, for few parts and few units
at_most_twice : (p k c x o : ℕ) → 0 < p → 4 * k ≤ p → 4 * c ≤ o → Near p k c x o → x ≤ 2 * o
at_most_twice p k c x o P h l n =
    let a : 4 * k * o ≤ p * o = mul-le-mul_right o h in
    let b : 4 * c * p ≤ o * p = mul-le-mul_right p l in
    let d : 4 * k * c ≤ p * c = mul-le-mul_right c h in
    le_of_mul-le-mul_right {m = x} {n = 2 * o} {k = p} (omega arith) P

-- what is shown of degree d
pub record AddsUp (values : List Float) (d : ℕ) : Type 0 where
  pub nonnegative : (r : ℕ) → r < d + 1 → NonNegative (at values r)
  pub close : Close (2 ^ 53) (11 * d) (1875 * d) (exact_sum values) units_in_one

module _ (left right : ℕ → Float) where
  start : AddsUp (basis left right 0) 0
  unfolding basis exact_sum
  start = record {
    nonnegative = first;
    close = subst (λ (x : ℕ). Close (2 ^ 53) 0 0 x units_in_one) (sym (add-zero (in_units one) ∙ one_units)) (close_refl (2 ^ 53) units_in_one);
  }
    where
      first : (r : ℕ) → r < 0 + 1 → NonNegative (at (one ∷ []) r)
      first zero h = one_nonnegative
      first (suc r) h = absurd (omega arith)

  next : (d : ℕ) → suc d ≤ 25 → Distances left right (d + 1) → AddsUp (basis left right d) d → AddsUp (basis left right (suc d)) (suc d)
  unfolding basis
  next d h D u =
      let N = basis left right d in
      let p = 2 ^ 53 in
      let P : 0 < 2 ^ 53 = pow_pos 53 in
      let all : exact_sum N ≡ total (λ r. in_units (at N r)) (d + 1) = sum-at (d + 1) N (length-basis left right d) in
      let k-small : 4 * (11 * d) ≤ 2 ^ 53 = omega arith in
      let c-small : 4 * (1875 * d) ≤ units_in_one = le_trans {m = 187500} (omega arith) (lit≤ tt) in
      let twice : exact_sum N ≤ 2 * units_in_one = at_most_twice p (11 * d) (1875 * d) (exact_sum N) units_in_one P k-small c-small u.close.0 in
      let small : (r : ℕ) → r < d + 1 → in_units (at N r) ≤ 2 * units_in_one = λ r l. le_trans (term_le (λ k. in_units (at N k)) (d + 1) r l) (subst (λ (x : ℕ). x ≤ 2 * units_in_one) all twice) in
      let f = row left right (at N) (d + 1) in
      let two : d + 2 ≡ suc (d + 1) = omega arith in
      let sum : exact_sum (list_of (d + 2) f) ≡ total (λ r. in_units (f r)) (suc (d + 1)) = ap (λ (n : ℕ). exact_sum (list_of n f)) two ∙ sum-list_of (suc (d + 1)) f in
      let s : Close p 10 (75 * (d + 1)) (exact_sum (list_of (d + 2) f)) (exact_sum N) =
      subst (Close p 10 (75 * (d + 1)) (exact_sum (list_of (d + 2) f))) (sym all) (subst (λ (x : ℕ). Close p 10 (75 * (d + 1)) x (total (λ r. in_units (at N r)) (d + 1))) (sym sum) (row_sum left right (at N) (d + 1) D u.nonnegative small)) in
      record {
        nonnegative = λ r l. subst NonNegative (sym (list_of-at (d + 2) f r nan (omega arith))) (row_nonnegative left right (at N) (d + 1) D u.nonnegative small r (omega arith));
        close = close_more p (10 + 11 * d + 1) (75 * (d + 1) + 1875 * d) (11 * suc d) (1875 * suc d) (exact_sum (list_of (d + 2) f)) units_in_one (omega arith) (omega arith)
            (close_trans p 10 (75 * (d + 1)) (11 * d) (1875 * d) (exact_sum (list_of (d + 2) f)) (exact_sum N) units_in_one P (omega arith) s u.close);
      }

  pub adds_up : (d : ℕ) → d ≤ 25 → Distances left right d → AddsUp (basis left right d) d
  adds_up zero h D = start
  adds_up (suc d) h D = next d h (fewer left right (d + 1) (suc d) (omega arith) D) (adds_up d (omega arith) (fewer left right d (suc d) (omega arith) D))

-- ---- the bound: k parts in p of o, and c units, are not more than e units
module _ (p k c x e o : ℕ) (P : 0 < p) (parts : 16 * (k * o) ≤ p * e) (units : 32 * c ≤ e) (few : k ≤ p) where
  both : 16 * (c * p + c * k) ≤ p * e
  both =
      let b : 32 * c * p ≤ e * p = mul-le-mul_right p units in
      let d : c * k ≤ c * p = mul-le-mul_left c few in
      omega arith

  within_above : Near p k c x o → x ≤ o + e
  within_above n = let b = both in le_of_mul-le-mul_right {m = x} {n = o + e} {k = p} (omega arith) P

  within_below : x ≤ 2 * o → Near p k c o x → o ≤ x + e
  within_below t n =
      let b = both in
      let d : k * x ≤ k * (2 * o) = mul-le-mul_left k t in
      le_of_mul-le-mul_right {m = o} {n = x + e} {k = p} (omega arith) P

-- up to degree 25 these are 275 parts in 2 ^ 53 and 46875 units
pub within : (d x : ℕ) → d ≤ 25 → Close (2 ^ 53) (11 * d) (1875 * d) x units_in_one → (x ≤ units_in_one + error_bound) × (units_in_one ≤ x + error_bound)
within d x h n =
    let P : 0 < 2 ^ 53 = pow_pos 53 in
    let k : 11 * d ≤ 275 = omega arith in
    let c : 1875 * d ≤ 46875 = omega arith in
    let parts : 16 * (11 * d * units_in_one) ≤ 2 ^ 53 * error_bound = le_trans (mul-le-mul_left 16 (mul-le-mul_right units_in_one k)) (lit≤ tt) in
    let units : 32 * (1875 * d) ≤ error_bound = le_trans (mul-le-mul_left 32 c) (lit≤ tt) in
    let few : 11 * d ≤ 2 ^ 53 = le_trans k (lit≤ tt) in
    let twice = at_most_twice (2 ^ 53) (11 * d) (1875 * d) x units_in_one P (le_trans (mul-le-mul_left 4 k) (lit≤ tt)) (le_trans (mul-le-mul_left 4 c) (lit≤ tt)) n.0 in (
      within_above (2 ^ 53) (11 * d) (1875 * d) x error_bound units_in_one P parts units few n.0,
      within_below (2 ^ 53) (11 * d) (1875 * d) x error_bound units_in_one P parts units few twice n.1,
    )

-- The theorem: for degree 1 to 25, knots in 0 to 1 that never fall, and a parameter in a span at least 2 ^ -20 wide, no computed basis function is negative, and their
-- exact sum is within 2 ^ -40 of one. Assumes nothing.
use mathlib.Core.Path.{◌≡◌, subst}
use mathlib.Core.List.{List}
use Prim.Native.Nat.{ℕ, ◌+◌, ◌-◌, ◌*◌, ◌^◌, ◌≤◌, ◌<◌}
use native.Mathlib.Nat.{le_trans}
use native.Mathlib.Omega.{arith}
use lib.Dec.{T, lit≤}
use lib.Pow.{pow_pos}
use lib.ListN.{length}
use lib.Ieee.{Float, binary64, fits}
use Rattle.geometry.specs.Doubles.{one, at}
use Rattle.geometry.specs.Nearest.{units_in_one, in_units}
use Rattle.geometry.proofs.FloatOrder.{holds, test, le_left, le_transitive}
use Rattle.bspline.specs.Spans.{NeverFalls, InSpan}
use Rattle.bspline.proofs.Recurrence.{length-basis_at}
use Rattle.bspline.specs.Basis.{left_of, right_of, basis_at}
use Rattle.bspline.proofs.HoldingLaws.{knots_order}
use Rattle.unity.specs.Unity.{least_width, InUnitInterval, WideSpan, BasisNearlyOne}
use Rattle.geometry.proofs.ErrorLaws.{Near, Close, near_twice}
use Rattle.geometry.proofs.UnitLaws.{units_pos, NonNegative, one_nonnegative, one_units, units_order, unit_interval, nonnegative_le, nonnegative_exact}
use Rattle.geometry.proofs.OperationLaws.{sub_close}
use Rattle.unity.proofs.RowLaws.{Distances, least}
use Rattle.unity.proofs.DegreeLaws.{adds_up, within}

-- ---- distances on whole numbers

distance_hi : (o x k s : ℕ) → 1 ≤ o → x ≤ o → s ≤ 2 * (x - k + 1) → s ≤ 4 * o
distance_hi o x k s O h l = omega arith

-- the distances of u from a and b together are not far below b - a, which is at least the span from lo to hi
apart : (w q lo a u b hi l r : ℕ) → 4 * q ≤ w → 2 ≤ q → a ≤ lo → lo ≤ u → u ≤ hi → hi ≤ b → lo + w ≤ hi → u - a ≤ 2 * (l + 1) → b - u ≤ 2 * (r + 1) → q ≤ r + l
apart w q lo a u b hi l r e Q p x y s t m n = omega arith

-- ---- knots, and the distances of a parameter from them

module _ (flat : List Float) (R : NeverFalls flat) (K : InUnitInterval flat) where
  knot_held : (s : ℕ) → s < length flat → NonNegative (at flat s)
  knot_held s h = unit_interval (at flat s) (K.doubles s h) (test (K.from_zero s h)) (test (K.to_one s h))

  knot_le : (s : ℕ) → s < length flat → in_units (at flat s) ≤ units_in_one
  knot_le s h = subst (λ (x : ℕ). in_units (at flat s) ≤ x) one_units (units_order (at flat s) one (knot_held s h) one_nonnegative (K.to_one s h))

  order : (s k : ℕ) → s ≤ k → k < length flat → in_units (at flat s) ≤ in_units (at flat k)
  order s k h l =
      units_order (at flat s) (at flat k) (knot_held s (omega arith)) (knot_held k l) (knots_order flat R s k h l (le_left (at flat k) one (test (K.to_one k l))))

  module _ (d i : ℕ) (u : Float) (D : 1 ≤ d) (inside : i + d < length flat) (F : T (fits binary64 u)) (S : InSpan flat i u) (W : WideSpan flat i) where
    u_held : NonNegative u
    u_held =
        unit_interval u F (test (le_transitive _ _ _ (K.from_zero i (omega arith)) S.from)) (test (le_transitive _ _ _ S.to (K.to_one (i + 1) (omega arith))))

    u_from : in_units (at flat i) ≤ in_units u
    u_from = units_order (at flat i) u (knot_held i (omega arith)) u_held S.from

    u_to : in_units u ≤ in_units (at flat (i + 1))
    u_to = units_order u (at flat (i + 1)) u_held (knot_held (i + 1) (omega arith)) S.to

    u_le : in_units u ≤ units_in_one
    u_le = le_trans u_to (knot_le (i + 1) (omega arith))

    left_order : (j : ℕ) → 1 ≤ j → in_units (at flat (i + 1 - j)) ≤ in_units (at flat i)
    left_order j a = order (i + 1 - j) i (omega arith) (omega arith)

    right_order : (j : ℕ) → 1 ≤ j → j ≤ d → in_units (at flat (i + 1)) ≤ in_units (at flat (i + j))
    right_order j a b = order (i + 1) (i + j) (omega arith) (omega arith)

    left_close : (j : ℕ) → 1 ≤ j → NonNegative (left_of flat i u j) × Close (2 ^ 53) 1 1 (in_units (left_of flat i u j)) (in_units u - in_units (at flat (i + 1 - j)))
    unfolding left_of
    left_close j a = sub_close u (at flat (i + 1 - j)) u_held (knot_held (i + 1 - j) (omega arith)) (le_trans (left_order j a) u_from) (le_trans u_le (lit≤ tt))

    right_close : (j : ℕ) → 1 ≤ j → j ≤ d → NonNegative (right_of flat i u j) × Close (2 ^ 53) 1 1 (in_units (right_of flat i u j)) (in_units (at flat (i + j)) - in_units u)
    unfolding right_of
    right_close j a b = sub_close (at flat (i + j)) u (knot_held (i + j) (omega arith)) u_held (le_trans u_to (right_order j a b)) (le_trans (knot_le (i + j) (omega arith)) (lit≤ tt))

    twice : (x y : ℕ) → Near (2 ^ 53) 1 1 x y → x ≤ 2 * (y + 1)
    twice x y h = near_twice (2 ^ 53) 1 1 x y (pow_pos 53) (lit≤ tt) h

    distances : Distances (left_of flat i u) (right_of flat i u) d
    distances = record {
      left_nonnegative = λ j a b. (left_close j a).0;
      right_nonnegative = λ j a b. (right_close j a b).0;
      left_le = λ j a b. distance_hi units_in_one (in_units u) (in_units (at flat (i + 1 - j))) (in_units (left_of flat i u j)) units_pos u_le (twice _ _ (left_close j a).1.0);
      right_le = λ j a b. distance_hi units_in_one (in_units (at flat (i + j))) (in_units u) (in_units (right_of flat i u j)) units_pos (knot_le (i + j) (omega arith)) (twice _ _ (right_close j a b).1.0);
      wide = λ j k a b c e.
          apart least_width least (in_units (at flat i)) (in_units (at flat (i + 1 - j))) (in_units u) (in_units (at flat (i + k))) (in_units (at flat (i + 1)))
          (in_units (left_of flat i u j)) (in_units (right_of flat i u k))
          (lit≤ tt) (lit≤ tt) (left_order j a) u_from u_to (right_order k c e) W (twice _ _ (left_close j a).1.1) (twice _ _ (right_close k c e).1.1);
    }

-- ---- the theorem

pub nearly_one : BasisNearlyOne
unfolding basis_at
nearly_one flat d i u D h inside F R K S W =
    let v = basis_at flat d i u in
    let long : length v ≡ d + 1 = length-basis_at flat d i u in
    let a = adds_up (left_of flat i u) (right_of flat i u) d h (distances flat R K d i u D inside F S W) in
    let bound = within d _ h a.close in
    record {
      not_negative = λ r l. holds _ (nonnegative_le (at v r) (a.nonnegative r (omega arith)));
      exact = λ r l. nonnegative_exact (at v r) (a.nonnegative r (omega arith));
      not_above = bound.0;
      not_below = bound.1;
    }

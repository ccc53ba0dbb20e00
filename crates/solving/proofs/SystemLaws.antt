-- Least squares and interpolation are what the books' systems say: the entries (`EntryLaws`), the factors and the substitutions put together. Assumes nothing.
use mathlib.Core.Path.{◌≡◌, refl, sym, ◌∙◌, ap, subst}
use mathlib.Core.Bool.{Bool, true, false, cond}
use mathlib.Core.List.{List}
use mathlib.Core.Logic.{inl, inr}
use Prim.Native.Nat.{ℕ, ◌-◌, ◌*◌, ◌≤◌, ◌<◌}
use native.Mathlib.Omega.{arith}
use lib.ListN.{length}
use lib.Ieee.{Float}
use Rattle.std.proofs.Math.Option.{none, some}
use Rattle.places.specs.Loops.{Outcome, outcome}
use Rattle.places.specs.Places.{joined, all_below}
use Rattle.places.proofs.PlaceLaws.{length-joined, part-joined, all_here, differ}
use Rattle.geometry.specs.declared.Point.{Point}
use Rattle.geometry.specs.Doubles.{at, is_finite}
use Rattle.geometry.specs.Points.{put_point, points_of}
use Rattle.geometry.proofs.PointLaws.{length_put-point, point_put, point_stays}
use Rattle.cholesky.specs.Cholesky.{factor_symmetric_band, substitute_symmetric_band}
use Rattle.cholesky.proofs.CholeskyLaws.{is_factor}
use Rattle.cholesky.proofs.SolvedLaws as cholesky
use Rattle.lu.specs.BandLu.{factor_band, substitute_band}
use Rattle.lu.proofs.LuLaws.{is_lu}
use Rattle.lu.proofs.SolvedLaws as lu
use Rattle.tables.specs.BasisTable.{BasisTable, parameter_count}
use Rattle.tables.proofs.PointsLaws.{length-points}
use Rattle.tables.proofs.GridLaws.{points-at}
use Rattle.solving.specs.LeastSquares.{normal_matrix, right_hand, relative_floor, solved_lines, least_squares}
use Rattle.solving.specs.Interpolation.{interpolation_matrix, line_through, interpolation}
use Rattle.solving.specs.Textbook.{IsLeastSquares, IsLineThrough, IsInterpolation}
use Rattle.solving.proofs.EntryLaws.{is_normal, is_right_hand, is_collocation}
use Rattle.solving.proofs.SquareLaws.{length_substituted}
use Rattle.solving.proofs.ThroughLaws.{length_substitute, length-line}

-- ---- least squares

-- what was handed out, and that the test passed
handed : (b : Bool) (x y : List Float) → cond b (some x) none ≡ some y → (x ≡ y) × (b ≡ true)
handed true x y e = (cc, refl)
handed false x y e = (cc, cc)

all_true : (n : ℕ) (p : ℕ → Bool) → all_below n p ≡ true → (i : ℕ) → i < n → p i ≡ true
all_true n p e i h = pick (p i) refl
  where
    pick : (b : Bool) → p i ≡ b → p i ≡ true
    pick true q = q
    pick false q = absurd (differ (all_below n p) e (all_here n p i h q))

module _ (t : BasisTable) (m lines : ℕ) (q : ℕ → ℕ → Point) (poles : List Float) where
  lines_are : (o : Outcome (List Float)) → factor_symmetric_band t.degree m relative_floor (normal_matrix t m) ≡ o → solved_lines t m lines q o ≡ some poles → IsLeastSquares t m lines q poles
  unfolding solved_lines
  lines_are (outcome false lower) went e = cc
  lines_are (outcome true lower) went e =
      let N = is_normal t m in
      let f : ℕ → List Float = λ r. substitute_symmetric_band t.degree m lower (right_hand t m (q r)) in
      let g = handed (all_below (length (joined lines f)) (λ i. is_finite (at (joined lines f) i))) (joined lines f) poles e in
      let size : (r : ℕ) → r < lines → length (f r) ≡ 3 * m = λ r l. length_substituted t.degree m lower (right_hand t m (q r)) ∙ (is_right_hand t m (q r)).long in
      record {
        normal = normal_matrix t m;
        lower = lower;
        is_normal = N;
        is_factor = is_factor t.degree m relative_floor (normal_matrix t m) lower (omega (arith, N.long)) went;
        line = λ r l.
            let R = is_right_hand t m (q r) in
            record {
              right = right_hand t m (q r);
              is_right = R;
              solved = rw (← g.0, part-joined lines (3 * m) f size r l) (cholesky.solves t.degree m lower (right_hand t m (q r)) (omega (arith, R.long)));
            };
        finite = subst (λ (x : List Float). (i : ℕ) → i < length x → is_finite (at x i) ≡ true) g.0 (λ i l. all_true _ (λ i. is_finite (at (joined lines f) i)) g.1 i l);
        long = ap length (sym g.0) ∙ length-joined lines (3 * m) f size;
      }

  pub is_least_squares : least_squares t m lines q ≡ some poles → IsLeastSquares t m lines q poles
  unfolding least_squares
  is_least_squares e = lines_are (factor_symmetric_band t.degree m relative_floor (normal_matrix t m)) refl e

-- ---- interpolation

pub is_line_through : (h n : ℕ) (band : List Float) (q : ℕ → Point) → 2 ≤ n → IsLineThrough h n band q (line_through h n band q)
unfolding line_through
is_line_through h n band q two =
    let B : List Float = points_of n q in
    let S : List Float = substitute_band h n band B in
    let F : List Float = put_point 0 (q 0) S in
    let long_b : length B ≡ 3 * n = length-points n q in
    let long_s : length S ≡ length B = length_substitute h n band B in
    let long_f : length F ≡ length S = length_put-point 0 (q 0) S in
    record {
      points = B;
      solution = S;
      given = λ k l. points-at n q k l;
      solved = lu.solves h n band B (omega arith);
      start = point_stays (n - 1) 0 (q (n - 1)) F (inl (omega arith)) ∙ point_put 0 (q 0) S (omega arith);
      end = point_put (n - 1) (q (n - 1)) F (omega arith);
      inner = λ k a b. point_stays (n - 1) k (q (n - 1)) F (inl b) ∙ point_stays 0 k (q 0) S (inr a);
    }

pub is_interpolation : (t : BasisTable) (lines : ℕ) (q : ℕ → ℕ → Point) → 2 ≤ parameter_count t → IsInterpolation t lines q (interpolation t lines q)
unfolding interpolation
is_interpolation t lines q two =
    let h : ℕ = t.degree - 1 in
    let n : ℕ = parameter_count t in
    let M = is_collocation t in
    let band : List Float = factor_band h n (interpolation_matrix t) in
    let f : ℕ → List Float = λ r. line_through h n band (q r) in
    let size : (r : ℕ) → r < lines → length (f r) ≡ 3 * n = λ r l. length-line h n band (q r) in
    record {
      matrix = interpolation_matrix t;
      factors = band;
      is_matrix = M;
      is_lu = is_lu h n (interpolation_matrix t) (omega (arith, M.long));
      line = λ r l. rw (part-joined lines (3 * n) f size r l) (is_line_through h n band (q r) two);
      long = length-joined lines (3 * n) f size;
    }

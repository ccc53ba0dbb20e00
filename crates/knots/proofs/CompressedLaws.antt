-- Distinct knots with multiplicities say the flat knots again, to the reader too. Assumes nothing.
use mathlib.Core.Path.{◌≡◌, refl, sym, ap, ◌∙◌, subst}
use mathlib.Core.Bool.{Bool, true, false}
use mathlib.Core.List.{List}
use mathlib.Core.Logic.{⊎_elim}
use Prim.Native.Nat.{ℕ, ◌+◌, ◌*◌, ◌<◌}
use native.Mathlib.Nat.{lt_irrefl, mul-pos, zero-mul, eq-zero-or-pos}
use native.Mathlib.Omega.{arith}
use lib.IntN.{ℤ, pos}
use lib.Dec.{T, eqb→eq}
use lib.ListN.{length, replicate}
use lib.Ieee.{Float, nan, inf, fin, binary64, up, down, fits, eq}
use lib.Ieee.Fits.{down_pos, and_l, and_r}
use Rattle.places.specs.Places.{list_of, joined}
use Rattle.places.proofs.PlaceLaws.{length-list_of, list_of-at, joined_same}
use Rattle.geometry.specs.Doubles.{at}
use Rattle.geometry.proofs.OrderLaws.{equal_same}
use Rattle.geometry.proofs.FloatOrder.{test}
use Rattle.bspline.specs.Reader.{multiplicity, flat_knots}
use Rattle.knots.specs.Knots.{run_length, run_start, distinct_knots, knot_at, multiplicity_at}
use Rattle.knots.specs.Textbook.{OneOfEach, AreRuns}
use Rattle.knots.proofs.RunLaws.{run-least, start-more, run_equal, run-ends, run_in, runs-back}

-- ---- the runs

module _ (flat : List Float) where
  -- where the values of a run are the same
  pub same_runs : ((j : ℕ) → j < distinct_knots flat → (r : ℕ) → r < run_length flat (run_start flat j) → at flat (run_start flat j + r) ≡ at flat (run_start flat j))
      → AreRuns flat (distinct_knots flat) (knot_at flat) (multiplicity_at flat)
  unfolding knot_at multiplicity_at
  same_runs same =
      record {
        again = runs-back flat same;
        differ = λ k h.
            let s = start-more flat k in
            let l = run_in flat (k + 1) h in
            let m = run-least flat (run_start flat (k + 1)) in
            ap (λ (i : ℕ). eq (at flat (run_start flat k)) (at flat i)) s ∙ run-ends flat (run_start flat k) (omega (arith, s, l, m));
        some = λ k h. run-least flat (run_start flat k);
      }

  pub are_runs : OneOfEach flat → AreRuns flat (distinct_knots flat) (knot_at flat) (multiplicity_at flat)
  are_runs one =
      same_runs
      (λ j h r l.
      let i = run_start flat j in
      let m = run_in flat j h in
      ⊎_elim (λ (z : r ≡ 0). let e : i + r ≡ i = omega arith in ap (at flat) e) (λ e. sym (one i (i + r) (omega arith) (omega arith) e)) (run_equal flat i r l))

-- the reader takes them for the flat knots
pub read_back : (flat : List Float) (count : ℕ) (knot : ℕ → Float) (mult : ℕ → ℕ) → AreRuns flat count knot mult → flat_knots (list_of count knot) (list_of count mult) ≡ flat
unfolding flat_knots
read_back flat count knot mult runs =
    ap (λ (n : ℕ). joined n (λ k. replicate (multiplicity (list_of count mult) k) (at (list_of count knot) k))) (length-list_of count knot)
    ∙ joined_same count _ (λ k. replicate (mult k) (knot k)) (λ k h. rw (list_of-at count mult k 0 h, list_of-at count knot k nan h))
    ∙ runs.again

-- ---- doubles of which none is -0

abbrev minus_zero : Float
minus_zero = fin true 0 (pos 0)

pub one_of_each : (flat : List Float) → ((i : ℕ) → i < length flat → T (fits binary64 (at flat i))) → ((i : ℕ) → i < length flat → at flat i ≡ minus_zero → ⊥) → OneOfEach flat
one_of_each flat held never i j h g e = equal_same (at flat i) (at flat j) (held i h) (held j g) (never i h) (never j g) (test e)

-- What a ladder that passes the checks has. Assumes nothing.
use mathlib.Core.Path.{◌≡◌, sym, ap, ◌∙◌}
use mathlib.Core.List.{List}
use Prim.Native.Nat.{ℕ, ◌-◌, ◌*◌, ◌<◌, ◌≤◌}
use native.Mathlib.Nat.{mul-le-mul}
use native.Mathlib.Omega.{arith}
use lib.ListN.{length}
use lib.Ieee.{Float}
use borrow.Author.Tests.{ltb-false, eqb-true, not-false}
use Rattle.bspline.specs.Refusals.{pass}
use Rattle.bspline.proofs.CheckLaws.{both_pass, test_fails, degree_pass}
use Rattle.knots.specs.declared.Metric.{Metric}
use Rattle.checks.specs.declared.Room.{Room}
use Rattle.checks.specs.declared.Aim.{Aim}
use Rattle.checks.specs.declared.Aim.TheVariants.{Count, Within}
use Rattle.checks.specs.declared.Call.{Call}
use Rattle.checks.specs.declared.Call.TheVariants.{Interpolate, Approximate, ApproximateWithin, SearchSpread}
use Rattle.checks.specs.LadderChecks.{Lent, point_count, shape_verdict, chosen_verdict, unchosen_verdict, aim_verdict, count_verdict, room_verdict, room_of, ladder_verdict, ladder_checks, Shaped, Roomy}

-- the work's length fits a number
pub small : (p n : ℕ) → p ≤ 25 → n ≤ 1024 → 4 * p * n ≤ 102400
small p n h l = mul-le-mul {n₁ = 4 * p} {m₁ = n} {n₂ = 100} {m₂ = 1024} (omega arith) l

pub shape_pass : (places p : ℕ) → shape_verdict places p ≡ pass → Shaped places p
unfolding shape_verdict
shape_pass places p e =
    let e₁ = both_pass _ _ e in
    let e₂ = both_pass _ _ e₁.1 in
    let e₃ = both_pass _ _ e₂.1 in
    let degree = degree_pass p e₃.1 in
    record {
      triples = eqb-true _ _ (not-false _ (test_fails _ _ e₁.0));
      most = ltb-false _ _ (test_fails _ _ e₂.0);
      least = ltb-false _ _ (test_fails _ _ e₃.0);
      low = degree.0;
      high = degree.1;
    }

pub unchosen_pass : (n p : ℕ) → unchosen_verdict n p ≡ pass → p ≤ n - 1
unfolding unchosen_verdict
unchosen_pass n p e = ltb-false (n - 1) p (test_fails _ _ e)

pub chosen_pass : (n p m : ℕ) → chosen_verdict n p m ≡ pass → (p ≤ m - 1) × (m ≤ n)
unfolding chosen_verdict
chosen_pass n p m e =
    let e₁ = both_pass _ _ e in
    (ltb-false (m - 1) p (test_fails _ _ e₁.0), ltb-false n m (test_fails _ _ e₁.1))

pub room_pass : (n p : ℕ) (r : Room) → room_verdict n p r ≡ pass → Roomy n p r
unfolding room_verdict
room_pass n p r e =
    let e₁ = both_pass _ _ e in
    let e₂ = both_pass _ _ e₁.1 in
    let e₃ = both_pass _ _ e₂.1 in
    let e₄ = both_pass _ _ e₃.1 in
    let e₅ = both_pass _ _ e₄.1 in
    record {
      for_poles = ltb-false _ _ (test_fails _ _ e₁.0);
      for_flat = ltb-false _ _ (test_fails _ _ e₂.0);
      for_knots = ltb-false _ _ (test_fails _ _ e₃.0);
      for_mults = ltb-false _ _ (test_fails _ _ e₄.0);
      for_work = ltb-false _ _ (test_fails _ _ e₅.0);
      for_index = ltb-false _ _ (test_fails _ _ e₅.1);
    }

-- ---- all of them

pub checks_give : (call : Call) (s : List Float) (degree : ℕ) (v : Metric) (l : Lent) → ladder_checks call s degree v l ≡ pass
    → Shaped (length s) degree × (count_verdict call (point_count s) degree ≡ pass) × Roomy (point_count s) degree (room_of l)
unfolding ladder_verdict
checks_give call s degree v l e =
    let a = both_pass (shape_verdict (length s) degree) _ e in
    let b = both_pass (count_verdict call (point_count s) degree) _ a.1 in
    let c = both_pass (room_verdict (point_count s) degree (room_of l)) _ b.1 in
    (shape_pass (length s) degree a.0, b.0, room_pass (point_count s) degree (room_of l) c.0)

-- the degree is below the points
pub count_under : (call : Call) (n p : ℕ) → count_verdict call n p ≡ pass → 1 ≤ p → p < n
unfolding count_verdict
count_under Interpolate n p e h = omega (arith, unchosen_pass n p e)
count_under (Approximate m) n p e h = let c = chosen_pass n p m e in omega (arith, c.0, c.1)
count_under (ApproximateWithin t) n p e h = omega (arith, unchosen_pass n p e)
count_under (SearchSpread t) n p e h = omega (arith, unchosen_pass n p e)

-- and below the chosen poles, which are no more than the points
pub count-chosen : (m n p : ℕ) → count_verdict (Approximate m) n p ≡ pass → 1 ≤ p → (p < m) × (m ≤ n)
unfolding count_verdict
count-chosen m n p e h = let c = chosen_pass n p m e in (omega (arith, c.0), c.1)

-- the same for one direction of a grid
pub aim-under : (aim : Aim) (n p : ℕ) → aim_verdict aim n p ≡ pass → 1 ≤ p → p < n
unfolding aim_verdict
aim-under (Count m) n p e h = let c = chosen_pass n p m e in omega (arith, c.0, c.1)
aim-under (Within t) n p e h = omega (arith, unchosen_pass n p e)

pub aim-chosen : (aim : Aim) (m n p : ℕ) → aim ≡ Count m → aim_verdict aim n p ≡ pass → 1 ≤ p → (p < m) × (m ≤ n)
unfolding aim_verdict
aim-chosen aim m n p a e h =
    let q : chosen_verdict n p m ≡ pass = sym (ap (λ (x : Aim). aim_verdict x n p) a) ∙ e in
    let c = chosen_pass n p m q in
    (omega (arith, c.0), c.1)

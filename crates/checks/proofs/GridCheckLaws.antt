-- What a grid that passes the checks has. Assumes nothing.
use mathlib.Core.Path.{◌≡◌}
use Prim.Native.Nat.{ℕ, ◌-◌, ◌*◌, ◌≤◌}
use native.Mathlib.Nat.{mul-le-mul}
use lib.ListN.{length}
use lib.Ieee.{Float}
use borrow.Author.Tests.{ltb-false, eqb-true, not-false}
use Rattle.places.proofs.PlaceLaws.{or_false}
use Rattle.bspline.specs.Refusals.{pass}
use Rattle.bspline.proofs.CheckLaws.{both_pass, test_fails, degree_pass}
use Rattle.checks.proofs.CheckLaws.{unchosen_pass}
use Rattle.checks.specs.declared.Shape.{Shape}
use Rattle.checks.specs.declared.GridRoom.{GridRoom}
use Rattle.checks.specs.declared.SurfaceCall.TheVariants.{ApproximateWithin}
use Rattle.checks.specs.GridChecks.{Grid, grid_shape_verdict, grid_room_verdict, grid_checks, counts_verdict, GridShaped, GridRoomy}

-- the numbers fit
pub points-few : (rows cols : ℕ) → rows ≤ 64 → cols ≤ 64 → rows * cols ≤ 4096
points-few rows cols h k = mul-le-mul {n₁ = rows} {m₁ = cols} {n₂ = 64} {m₂ = 64} h k

pub grid-shaped : (places : ℕ) (h : Shape) → grid_shape_verdict places h ≡ pass → GridShaped places h
unfolding grid_shape_verdict
grid-shaped places h e =
    let e₁ = both_pass _ _ e in
    let e₂ = both_pass _ _ e₁.1 in
    let e₃ = both_pass _ _ e₂.1 in
    let e₄ = both_pass _ _ e₃.1 in
    let most = or_false _ _ (test_fails _ _ e₁.0) in
    let u = degree_pass h.u e₂.0 in
    let v = degree_pass h.v e₃.0 in
    let least = or_false _ _ (test_fails _ _ e₄.0) in
    record {
      rows_most = ltb-false _ _ most.0;
      cols_most = ltb-false _ _ most.1;
      u_low = u.0;
      u_high = u.1;
      v_low = v.0;
      v_high = v.1;
      rows_two = ltb-false _ _ least.0;
      cols_two = ltb-false _ _ least.1;
      whole = eqb-true _ _ (not-false _ (test_fails _ _ e₄.1));
    }

pub grid-room : (h : Shape) (r : GridRoom) → grid_room_verdict h r ≡ pass → GridRoomy h r
unfolding grid_room_verdict
grid-room h r e =
    let e₁ = both_pass _ _ e in
    let e₂ = both_pass _ _ e₁.1 in
    let e₃ = both_pass _ _ e₂.1 in
    let e₄ = both_pass _ _ e₃.1 in
    let e₅ = both_pass _ _ e₄.1 in
    let e₆ = both_pass _ _ e₅.1 in
    let e₇ = both_pass _ _ e₆.1 in
    let e₈ = both_pass _ _ e₇.1 in
    record {
      for_poles = ltb-false _ _ (test_fails _ _ e₁.0);
      for_uflat = ltb-false _ _ (test_fails _ _ e₂.0);
      for_uknots = ltb-false _ _ (test_fails _ _ e₃.0);
      for_umults = ltb-false _ _ (test_fails _ _ e₄.0);
      for_vflat = ltb-false _ _ (test_fails _ _ e₅.0);
      for_vknots = ltb-false _ _ (test_fails _ _ e₆.0);
      for_vmults = ltb-false _ _ (test_fails _ _ e₇.0);
      for_work = ltb-false _ _ (test_fails _ _ e₈.0);
      for_index = ltb-false _ _ (test_fails _ _ e₈.1);
    }

pub grid_gives : (g : Grid) (r : GridRoom) → grid_checks g r ≡ pass → GridShaped (length g.points) g.shape × GridRoomy g.shape r
unfolding grid_checks
grid_gives g r e =
    let a = both_pass (grid_shape_verdict (length g.points) g.shape) _ e in
    let b = both_pass (grid_room_verdict g.shape r) _ a.1 in
    (grid-shaped (length g.points) g.shape a.0, grid-room g.shape r b.0)

-- the degrees, below the points along each direction
pub record Degrees (h : Shape) : Type 0 where
  pub u-under : h.u ≤ h.rows - 1
  pub v-under : h.v ≤ h.cols - 1

pub degrees-under : (t : Float) (h : Shape) → counts_verdict (ApproximateWithin t) h ≡ pass → Degrees h
unfolding counts_verdict
degrees-under t h e = let a = both_pass _ _ e in record { u-under = unchosen_pass h.rows h.u a.0; v-under = unchosen_pass h.cols h.v a.1 }

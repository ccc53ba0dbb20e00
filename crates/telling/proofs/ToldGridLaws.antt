-- A call with room for its answer is the grid call; one without is refused by the checks, and nothing is touched. Either way demand 3 is kept. Assumes nothing.
use mathlib.Core.Path.{◌≡◌, refl, sym, ap, ◌∙◌, subst}
use mathlib.Core.Bool.{Bool, true, false, cond, not, ◌&&◌}
use mathlib.Core.List.{List}
use Prim.Native.Nat.{ℕ, ◌<◌, ◌≤◌}
use native.Mathlib.Omega.{arith}
use lib.Dec.{ltb}
use lib.ListN.{length}
use lib.Ieee.{Float}
use borrow.Author.Tests.{lt-ltb, le-ltb}
use Rattle.geometry.specs.Doubles.{nought}
use Rattle.bspline.specs.declared.Refusal.{Refusal}
use Rattle.checks.specs.LadderChecks.{cleared}
use Rattle.checks.specs.declared.SurfaceCall.{SurfaceCall}
use Rattle.checks.specs.declared.SurfaceCall.TheVariants.{ApproximateWithin}
use Rattle.checks.specs.declared.GridRoom.{GridRoom}
use Rattle.checks.specs.GridChecks.{Grid, GridLent, grid_room_of, grid_checks}
use Rattle.grids.specs.Grids.{GridResult, grid_refused, grid_fit, grid_checked, grid_result_of, grid_result_number, grid_answer_of, HandsOutGrid, GridCall, GridAnswer}
use Rattle.checks.proofs.GridCheckLaws.{grid_gives}
use Rattle.grids.proofs.GridRunLaws.{refused}
use Rattle.surfaces.proofs.GridLaws.{grid-handed-kept}
use Rattle.telling.specs.ToldGrid.{tellable_grid, no_grid, judged_grid, told_grid_largest, told_grid_counts, ToldGridBy, ToldGrid, ToldGridWithin}
use Rattle.std.specs.Prelude.{Ok, Err}
use Rattle.bspline.specs.Refusals.{Verdict, pass}
use Rattle.bspline.specs.Reader.{number_in}

-- the room that the slices have
pub few-largest : (largest : List Float) (counts : List ℕ) → length largest < 2 → tellable_grid largest counts ≡ false
few-largest largest counts h = ap (λ (b : Bool). not b && not (ltb (length counts) 8)) (lt-ltb (length largest) 2 h)

pub few-counts : (largest : List Float) (counts : List ℕ) → 2 ≤ length largest → length counts < 8 → tellable_grid largest counts ≡ false
few-counts largest counts h k =
    ap (λ (b : Bool). not b && not (ltb (length counts) 8)) (le-ltb (length largest) 2 h) ∙ ap not (lt-ltb (length counts) 8 k)

-- no places of any kind
abbrev NoPlaces : GridRoom → Type 0
NoPlaces r = (r.poles ≡ 0) × (r.uflat ≡ 0) × (r.uknots ≡ 0) × (r.umults ≡ 0) × (r.vflat ≡ 0) × (r.vknots ≡ 0) × (r.vmults ≡ 0) × (r.work ≡ 0) × (r.index ≡ 0)

no_room : (r : GridRoom) → NoPlaces r → r ≡ grid_room_of no_grid
no_room r z =
    let is : record { poles = r.poles; uflat = r.uflat; uknots = r.uknots; umults = r.umults; vflat = r.vflat; vknots = r.vknots; vmults = r.vmults; work = r.work; index = r.index } ≡ grid_room_of no_grid = cc in
    is

module _ (call : SurfaceCall) (g : Grid) where
  -- with nothing lent the checks stop
  pub stops : grid_checks g (grid_room_of no_grid) ≡ pass → ⊥
  stops e = let r = grid_gives g (grid_room_of no_grid) e in omega (arith, r.1.for_work)

  -- no room is that of nothing lent
  pub stopped-number : (r : GridRoom) → NoPlaces r → (c : Refusal) → Err c ≡ grid_checks g r
      → grid_result_number (grid_refused c) ≡ grid_result_number (grid_result_of call g no_grid)
  unfolding grid_result_of grid_checked
  stopped-number r z c e = ap (λ (w : Verdict). grid_result_number (grid_checked w (grid_fit call g))) (e ∙ ap (grid_checks g) (no_room r z))

  -- judged with nothing lent, the call is refused and touches nothing
  refused_untouched : (w : Verdict) → grid_checks g (grid_room_of no_grid) ≡ w → (l : GridLent) (largest : List Float) (counts : List ℕ) (r : ℕ) → r ≡ grid_result_number (grid_result_of call g no_grid)
      → ToldGridBy no_grid call g l l largest largest counts counts r
  unfolding grid_result_of grid_checked grid_answer_of cleared
  refused_untouched (Ok p) e l largest counts r n = absurd (stops e)
  refused_untouched (Err c) e l largest counts r n =
      let q : grid_result_of call g no_grid ≡ grid_refused c = ap (λ (w : Verdict). grid_checked w (grid_fit call g)) e in
      let h : HandsOutGrid g.shape (grid_result_of call g no_grid) l l (Err c) = refused q in
      record {
        number = n;
        hands = record { answer = refl; poles = h.poles; u_flat = h.u_flat; u_knots = h.u_knots; u_mults = h.u_mults; v_flat = h.v_flat; v_knots = h.v_knots; v_mults = h.v_mults };
        work = ap (λ (w : Verdict). cleared nought w l.work) (sym e);
        index = ap (λ (w : Verdict). cleared 0 w l.index) (sym e);
        most = ap (λ (x : GridResult). told_grid_largest (grid_answer_of g.shape x) largest) (sym q);
        told = ap (λ (x : GridResult). told_grid_counts (grid_answer_of g.shape x) counts) (sym q);
      }

  -- no room
  pub told-short : (l : GridLent) (largest : List Float) (counts : List ℕ) (r : ℕ) → tellable_grid largest counts ≡ false → r ≡ grid_result_number (grid_result_of call g no_grid)
      → ToldGrid call g l l largest largest counts counts r
  told-short l largest counts r e n =
      subst (λ (b : Bool). ToldGridBy (cond b l no_grid) call g l l largest largest counts counts r) (sym e)
      (refused_untouched (grid_checks g (grid_room_of no_grid)) refl l largest counts r n)

  -- room
  pub told-room : (l l' : GridLent) (largest largest' : List Float) (counts counts' : List ℕ) (a : GridAnswer) (r : ℕ) → tellable_grid largest counts ≡ true → GridCall call g l l' a
      → r ≡ number_in a → largest' ≡ told_grid_largest a largest → counts' ≡ told_grid_counts a counts → ToldGrid call g l l' largest largest' counts counts' r
  told-room l l' largest largest' counts counts' a r e x n p q =
      let h = x.hands in
      subst (λ (b : Bool). ToldGridBy (cond b l no_grid) call g l l' largest largest' counts counts' r) (sym e)
      (record {
        number = n ∙ x.number;
        hands = record { answer = refl; poles = h.poles; u_flat = h.u_flat; u_knots = h.u_knots; u_mults = h.u_mults; v_flat = h.v_flat; v_knots = h.v_knots; v_mults = h.v_mults };
        work = x.work;
        index = x.index;
        most = p ∙ ap (λ (y : GridAnswer). told_grid_largest y largest) h.answer;
        told = q ∙ ap (λ (y : GridAnswer). told_grid_counts y counts) h.answer;
      })

  -- what passes the checks as it is judged passes them as it is lent
  lends : (b : Bool) (l : GridLent) → grid_checks g (grid_room_of (cond b l no_grid)) ≡ pass → grid_checks g (grid_room_of l) ≡ pass
  lends true l e = e
  lends false l e = absurd (stops e)

-- so the call within a tolerance keeps demand 3 along u
pub told_grid-within : (g : Grid) (t : Float) (l l' : GridLent) (largest largest' : List Float) (counts counts' : List ℕ) (r : ℕ)
    → ToldGrid (ApproximateWithin t) g l l' largest largest' counts counts' r → ToldGridWithin g t l l' largest largest' counts counts' r
told_grid-within g t l l' largest largest' counts counts' r x =
    record { call = x; kept = grid-handed-kept g t l l' _ (judged_grid l largest counts) (lends (ApproximateWithin t) g (tellable_grid largest counts) l) x.hands }

-- for the number of a call with no room, and for any call
pub ruleset refusing = (stopped-number)

pub ruleset telling = (told-short, told-room, few-largest, few-counts)

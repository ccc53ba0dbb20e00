-- A whole grid call: a check that stops leaves every slice, and after the fit work and index are 0. Assumes nothing.
use mathlib.Core.Path.{◌≡◌, refl, sym, ◌∙◌, ap, subst}
use mathlib.Core.List.{List}
use Prim.Native.Nat.{ℕ}
use lib.ListN.{length, replicate}
use lib.Ieee.{Float}
use Rattle.std.specs.Prelude.{[], Err}
use Rattle.geometry.specs.Doubles.{nought}
use Rattle.bspline.specs.declared.Refusal.{Refusal}
use Rattle.bspline.specs.Refusals.{Verdict, pass}
use Rattle.bspline.specs.Reader.{number_in}
use Rattle.checks.specs.declared.Shape.{Shape}
use Rattle.checks.specs.declared.SurfaceCall.{SurfaceCall}
use Rattle.checks.specs.declared.slices.GridOutput.{GridOutput}
use Rattle.checks.specs.LadderChecks.{cleared}
use Rattle.checks.specs.GridChecks.{Grid, GridLent, grid_room_of, grid_checks}
use Rattle.checks.specs.Slices.{grid_lent_with}
use Rattle.grids.specs.Grids.{GridResult, grid_refused, grid_accepted, grid_checked, grid_fit, grid_result_of, grid_answer_of, grid_result_number, HandsOutGrid, GridCall, GridAnswer}
use Rattle.grids.proofs.GridRunLaws.{refused}

number-grid_answer_of : (h : Shape) (fit : GridResult) → number_in (grid_answer_of h fit) ≡ grid_result_number fit
unfolding grid_answer_of
number-grid_answer_of h (grid_refused c) = refl
number-grid_answer_of h (grid_accepted a b) = refl

module _ (call : SurfaceCall) (g : Grid) where
  pub call_refused : (c : Refusal) (l : GridLent) → grid_checks g (grid_room_of l) ≡ Err c → GridCall call g l l (Err c)
  unfolding grid_result_of grid_checked cleared
  call_refused c l e =
      let q : grid_result_of call g l ≡ grid_refused c = ap (λ (a : Verdict). grid_checked a (grid_fit call g)) e in
      record {
        hands = refused q;
        number = sym (ap grid_result_number q);
        work = ap (λ (a : Verdict). cleared nought a l.work) (sym e);
        index = ap (λ (a : Verdict). cleared 0 a l.index) (sym e);
      }

  pub call_passed : (o o' : GridOutput) (work work' : List Float) (index index' : List ℕ) {r : GridAnswer} → grid_checks g (grid_room_of (grid_lent_with o work index)) ≡ pass
      → HandsOutGrid g.shape (grid_fit call g) (grid_lent_with o [] []) (grid_lent_with o' [] []) r → work' ≡ replicate (length work) nought → index' ≡ replicate (length index) 0
      → GridCall call g (grid_lent_with o work index) (grid_lent_with o' work' index') r
  unfolding grid_result_of grid_checked cleared
  call_passed o o' work work' index index' {r} e x w i =
      let l : GridLent = grid_lent_with o work index in
      let q : grid_result_of call g l ≡ grid_fit call g = ap (λ (a : Verdict). grid_checked a (grid_fit call g)) e in
      record {
        hands =
            subst (λ (f : GridResult). HandsOutGrid g.shape f l (grid_lent_with o' work' index') r) (sym q)
            (record { answer = x.answer; poles = x.poles; u_flat = x.u_flat; u_knots = x.u_knots; u_mults = x.u_mults; v_flat = x.v_flat; v_knots = x.v_knots; v_mults = x.v_mults });
        number = ap number_in (x.answer ∙ ap (grid_answer_of g.shape) (sym q)) ∙ number-grid_answer_of g.shape (grid_result_of call g l);
        work = w ∙ ap (λ (a : Verdict). cleared nought a work) (sym e);
        index = i ∙ ap (λ (a : Verdict). cleared 0 a index) (sym e);
      }

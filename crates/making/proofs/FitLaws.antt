-- Every accepted ladder fit, by whichever call, is a fit on averaged, spread or refined knots: what these have, its knots have. A call that is added adds its case. Assumes nothing.
use mathlib.Core.Path.{◌≡◌, refl, subst}
use mathlib.Core.List.{List}
use mathlib.Core.Option.{Option, none, some}
use Prim.Native.Nat.{ℕ, ◌<◌, ◌≤◌}
use native.Mathlib.Omega.{arith}
use lib.ListN.{length}
use lib.Ieee.{Float}
use Rattle.bspline.specs.declared.Refusal.{Refusal}
use Rattle.knots.specs.Knots.{averaged_knots, approximation_knots}
use Rattle.knots.proofs.KnotLaws.{length-averaged}
use Rattle.tables.specs.BasisTable.{basis_table}
use Rattle.tables.proofs.TableLaws.{length_rows}
use Rattle.tables.specs.Directions.{Direction, ladder, ladder_point}
use Rattle.solving.proofs.ThroughLaws.{length_interpolation}
use Rattle.fitting.specs.Within.{Candidate, Marked, interpolated, chosen, candidate, interpolate, fit_on_spread, fit_with_refined_knots, spread_alone, refined_or, fit_within}
use Rattle.fitting.specs.Marks.{unmarked}
use Rattle.fitting.proofs.ToleranceLaws.{ladder_lawful, search_cases}
use Rattle.checks.specs.declared.Call.{Call}
use Rattle.checks.specs.declared.Call.TheVariants.{Interpolate, Approximate, ApproximateWithin, SearchSpread}
use Rattle.checks.specs.LadderChecks.{count_verdict}
use Rattle.checks.proofs.CheckLaws.{count-chosen}
use Rattle.making.specs.Results.{chosen_or, fit_by}
use Rattle.making.proofs.HandedLaws.{FitOn, From, Sized, refined_from, spread-fit, spread_sized}
use Rattle.std.specs.Prelude.{Ok}
use Rattle.bspline.specs.Refusals.{pass}

module _ (factor : Float) (s : List Float) (degree : ℕ) (params : List Float) where
  abbrev along : Direction
  along = ladder factor s degree params

  module _ (P : List Float → Type 0) (averaged : P (averaged_knots params degree)) (spreads : (c : ℕ) → c ≤ length params → P (approximation_knots params c degree))
      (refines : (t : Float) (f : Candidate) → fit_with_refined_knots along t ≡ some f → FitOn P along f) where
    through-fit : FitOn P along (interpolate along)
    unfolding interpolate candidate ladder
    through-fit =
        let flat = averaged_knots params degree in
        let long = length_interpolation (basis_table flat degree params) (ladder_point s) in
        record { knots = flat; has = averaged; own = record { flat_is = refl; distances_are = refl; poles-long = omega (arith, length-averaged params degree, long, length_rows flat degree params) } }

    spread-has : (c : ℕ) → c ≤ length params → (f : Candidate) → fit_on_spread along c ≡ some f → FitOn P along f
    unfolding ladder
    spread-has c h f e = spread-fit P along c (spreads c h) f e

    alone-fit : (t : Float) → FitOn P along (unmarked (spread_alone along t))
    unfolding spread_alone unmarked ladder
    alone-fit t =
        search_cases along (ladder_lawful factor s degree params) (λ (a : Marked). FitOn P along (unmarked a)) (interpolated (interpolate along)) (length params) t
        (λ c f h i. spread-has c (omega arith) f i.own) (λ x. through-fit)

    within-fit : (t : Float) → FitOn P along (unmarked (fit_within along t))
    unfolding fit_within refined_or unmarked
    within-fit t = go (fit_with_refined_knots along t) refl
      where
        go : (o : Option Candidate) → fit_with_refined_knots along t ≡ o → FitOn P along (unmarked (refined_or along t o))
        go none e = alone-fit t
        go (some f) e = refines t f e

    chosen-fit : (count : ℕ) (c : Refusal) → count ≤ length params → (a : Marked) → chosen_or c (fit_on_spread along count) ≡ Ok a → FitOn P along (unmarked a)
    unfolding chosen_or unmarked
    chosen-fit count c h a e = go (fit_on_spread along count) refl e
      where
        go : (o : Option Candidate) → fit_on_spread along count ≡ o → chosen_or c o ≡ Ok a → FitOn P along (unmarked a)
        go none p q = let z : ◌≡◌ {A = ℕ} 0 1 = cc in absurd (omega arith)
        go (some f) p q = let r : chosen f ≡ a = cc in subst (λ (b : Marked). FitOn P along (unmarked b)) r (spread-has count h f p)

    pub call-fit : (call : Call) → 1 ≤ degree → count_verdict call (length params) degree ≡ pass → (a : Marked) → fit_by call along ≡ Ok a → FitOn P along (unmarked a)
    unfolding fit_by unmarked
    call-fit Interpolate low e a q = let r : interpolated (interpolate along) ≡ a = cc in subst (λ (b : Marked). FitOn P along (unmarked b)) r through-fit
    call-fit (Approximate count) low e a q = chosen-fit count _ (count-chosen count (length params) degree e low).1 a q
    call-fit (ApproximateWithin t) low e a q = let r : fit_within along t ≡ a = cc in subst (λ (b : Marked). FitOn P along (unmarked b)) r (within-fit t)
    call-fit (SearchSpread t) low e a q = let r : spread_alone along t ≡ a = cc in subst (λ (b : Marked). FitOn P along (unmarked b)) r (alone-fit t)

  -- so its lengths are right
  pub call_from : degree < length params → (call : Call) → 1 ≤ degree → count_verdict call (length params) degree ≡ pass → (a : Marked) → fit_by call along ≡ Ok a → From along (unmarked a)
  unfolding ladder
  call_from under =
      let c = length-averaged params degree in
      call-fit (Sized along) (record { low = omega (arith, c); high = omega (arith, c) }) (λ c h. spread_sized along c h) (λ t f e. refined_from along t (omega arith) f e)

-- What each call makes of a direction: the fit that stands in the regions is the definition's, with what its distances measure. Assumes nothing.
use mathlib.Core.Path.{◌≡◌, refl, sym, ap, ◌∙◌, subst}
use mathlib.Core.Option.{Option as Maybe}
use Prim.Native.Nat.{ℕ, ◌-◌, ◌≤◌, ◌<◌}
use native.Mathlib.Omega.{arith}
use lib.ListN.{length}
use lib.Ieee.{Float}
use Rattle.std.specs.Prelude.{Option, Some, None, Ok, Err}
use Rattle.geometry.specs.Doubles.{largest}
use Rattle.bspline.specs.declared.Refusal.{Refusal}
use Rattle.bspline.specs.declared.Refusal.TheVariants.{PoleCountMismatch}
use Rattle.tables.specs.declared.Measured.{Measured}
use Rattle.tables.specs.Measures.{measured}
use Rattle.fitting.specs.declared.Job.{Job}
use Rattle.fitting.specs.declared.Fit.{Fit}
use Rattle.fitting.specs.declared.Mark.{Mark}
use Rattle.fitting.specs.declared.Mark.TheVariants.{Refined, Spread, Interpolated, Chosen}
use Rattle.fitting.specs.declared.room.Regions.{Regions}
use Rattle.checks.specs.declared.Call.TheVariants.{Interpolate, Approximate, ApproximateWithin, SearchSpread}
use Rattle.checks.proofs.CheckLaws.{count-chosen, aim-chosen}
use Rattle.making.specs.declared.Standing.{Standing}
use Rattle.fitting.specs.Within.{Candidate, interpolated, interpolate, spread_alone, refined_or, fit_within}
use Rattle.fitting.specs.Marks.{largest_deviation, unmarked, mark_of}
use Rattle.making.specs.Results.{FitResult, chosen_or, fit_by}
use Rattle.fitting.specs.Jobs.{HasRegions, HasKnots, direction_of, candidate_in, attempted, spread_in, AttemptsSpread, PassesThrough, RefinesWithin, SpreadsBelow}
use Rattle.making.specs.Runs.{marked_as, standing_in, made_in, StandsIn, Makes, Made}

-- the same fit in other words
pub makes_same : {j : Job} {g : Regions} {fit fit' : FitResult} {r : Made} → fit' ≡ fit → Makes j fit g r → Makes j fit' g r
makes_same e x = record { answer = e ∙ x.answer; standing = x.standing; regions = x.regions }

module _ {j : Job} {g : Regions} where
  pub fails : {fit : FitResult} (c : Refusal) → fit ≡ Err c → HasRegions j g → Makes j fit g (Err c)
  unfolding made_in
  fails c e h = record {
    answer = e;
    standing = λ x z. absurd (cc);
    regions = h;
  }

  -- a fit with what its distances measure stands there
  pub stands : {fit : FitResult} (mk : Mark) (y : Measured) → fit ≡ Ok (marked_as mk (g.knots.count - j.degree - 1) (candidate_in j g)) → largest_deviation mk ≡ y.largest
      → y ≡ measured (candidate_in j g).distances → HasKnots j g.knots.count → HasRegions j g → Makes j fit g (Ok (record { mark = mk; unreadable = y.unreadable }))
  unfolding made_in standing_in measured
  stands mk y e m q knots h =
      let here : Standing = record { mark = mk; unreadable = y.unreadable } in
      record {
        answer = e;
        standing = λ x z.
            let u : here ≡ x = cc in
            subst (StandsIn j g) u (record { most = m ∙ ap (λ (v : Measured). v.largest) q; unread = ap (λ (v : Measured). v.unreadable) q; few = knots });
        regions = h;
      }

  -- ---- through the points
  pub made_through : {y : Measured} → PassesThrough j g y → Makes j (fit_by Interpolate (direction_of j)) g (Ok (record { mark = Interpolated y.largest; unreadable = y.unreadable }))
  unfolding fit_by marked_as
  made_through {y} x =
      let under = j.inside.under in
      let count = x.count in
      stands (Interpolated y.largest) y (ap (λ (f : Candidate). Ok (interpolated f)) (sym x.fit)) refl
      (x.measures ∙ ap (λ (f : Candidate). measured f.distances) (sym x.fit))
      (record { least = omega (arith, under, count); most = omega (arith, count) }) x.regions

  -- ---- with a chosen pole count
  module _ {m : ℕ} {r : Option Measured} (x : AttemptsSpread j m g r) where
    pub chosen_unfitted : r ≡ None → Makes j (fit_by (Approximate m) (direction_of j)) g (Err PoleCountMismatch)
    unfolding fit_by chosen_or attempted
    chosen_unfitted e =
        fails PoleCountMismatch (ap (chosen_or PoleCountMismatch) (x.answer ∙ ap (λ (a : Option Measured). attempted a (candidate_in j g)) e)) x.regions

    pub chosen_fitted : {y : Measured} → r ≡ Some y → j.degree < m → m ≤ length j.params.now
        → Makes j (fit_by (Approximate m) (direction_of j)) g (Ok (record { mark = Chosen y.largest; unreadable = y.unreadable }))
    unfolding fit_by chosen_or attempted marked_as
    chosen_fitted {y} e low high =
        let count = x.count in
        stands (Chosen y.largest) y
        (ap (chosen_or PoleCountMismatch) (x.answer ∙ ap (λ (a : Option Measured). attempted a (candidate_in j g)) e)) refl
        (rw e at x.measures) (record { least = omega (arith, low, count); most = omega (arith, high, count) }) x.regions

  -- ---- by the spread search
  module _ {t : Float} {r : Option Measured} (x : SpreadsBelow j t (length j.params.now) g r) where
    alone_is : fit_by (SearchSpread t) (direction_of j) ≡ Ok (spread_in (interpolated (interpolate (direction_of j))) r (g.knots.count - j.degree - 1) (candidate_in j g))
    unfolding fit_by spread_alone direction_of
    alone_is = ap Ok (x.answer (interpolated (interpolate (direction_of j))))

    pub spread_missed : r ≡ None → {g' : Regions} {a : Made} → Makes j (fit_by Interpolate (direction_of j)) g' a → Makes j (fit_by (SearchSpread t) (direction_of j)) g' a
    unfolding fit_by spread_in
    spread_missed e y =
        makes_same
        (alone_is ∙ ap (λ (b : Option Measured). Ok (spread_in (interpolated (interpolate (direction_of j))) b (g.knots.count - j.degree - 1) (candidate_in j g))) e) y

    pub spread_met : {y : Measured} → r ≡ Some y → Makes j (fit_by (SearchSpread t) (direction_of j)) g (Ok (record { mark = Spread y.largest; unreadable = y.unreadable }))
    unfolding spread_in marked_as
    spread_met {y} e =
        stands (Spread y.largest) y
        (alone_is ∙ ap (λ (b : Option Measured). Ok (spread_in (interpolated (interpolate (direction_of j))) b (g.knots.count - j.degree - 1) (candidate_in j g))) e) refl
        (rw e at x.reaches.measures) (rw e at x.reaches.few) x.reaches.regions

  -- ---- by refinement
  module _ {t : Float} {r : Option Measured} (x : RefinesWithin j t g r) where
    within_is : fit_by (ApproximateWithin t) (direction_of j) ≡ Ok (refined_or (direction_of j) t (attempted r (candidate_in j g)))
    unfolding fit_by fit_within
    within_is = ap (λ (o : Maybe Candidate). Ok (refined_or (direction_of j) t o)) x.answer

    pub refined_missed : r ≡ None → {g' : Regions} {a : Made} → Makes j (fit_by (SearchSpread t) (direction_of j)) g' a → Makes j (fit_by (ApproximateWithin t) (direction_of j)) g' a
    unfolding fit_by attempted refined_or
    refined_missed e y = makes_same (within_is ∙ ap (λ (b : Option Measured). Ok (refined_or (direction_of j) t (attempted b (candidate_in j g)))) e) y

    pub refined_met : {y : Measured} → r ≡ Some y → Makes j (fit_by (ApproximateWithin t) (direction_of j)) g (Ok (record { mark = Refined y.largest; unreadable = y.unreadable }))
    unfolding attempted refined_or marked_as
    refined_met {y} e =
        stands (Refined y.largest) y (within_is ∙ ap (λ (b : Option Measured). Ok (refined_or (direction_of j) t (attempted b (candidate_in j g)))) e) refl
        (rw e at x.reaches.measures) (rw e at x.reaches.few) x.reaches.regions

-- ---- a chosen pole count that was let through
pub ruleset counts = (count-chosen, aim-chosen)

-- ---- what is handed out of it

pub fit_same : (m m' : Mark) (p p' k k' u u' : ℕ) → m ≡ m' → p ≡ p' → k ≡ k' → u ≡ u'
    → ◌≡◌ {A = Fit} (record { mark = m; poles = p; knots = k; unreadable = u }) (record { mark = m'; poles = p'; knots = k'; unreadable = u' })
fit_same m m' p p' k k' u u' a b c d = rw (a, b, c, d)

-- a fit that stands there has its own mark
pub unmarked_as : (mk : Mark) (m : ℕ) (f : Candidate) → unmarked (marked_as mk m f) ≡ f
unfolding unmarked marked_as
unmarked_as (Refined x) m f = refl
unmarked_as (Spread x) m f = refl
unmarked_as (Interpolated x) m f = refl
unmarked_as (Chosen x) m f = refl

pub mark_as : (mk : Mark) (m : ℕ) (f : Candidate) → largest_deviation mk ≡ largest f.distances → mk ≡ mark_of (marked_as mk m f)
unfolding mark_of marked_as
mark_as (Refined x) m f e = ap Refined e
mark_as (Spread x) m f e = ap Spread e
mark_as (Interpolated x) m f e = ap Interpolated e
mark_as (Chosen x) m f e = ap Chosen e

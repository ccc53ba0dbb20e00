-- Pole counts on spread knots: a count's test from what the attempt at it came to, and the search over such tests. Assumes nothing.
use mathlib.Core.Path.{◌≡◌, sym, ◌∙◌, ap}
use mathlib.Core.Bool.{Bool, true, false}
use mathlib.Core.List.{List}
use mathlib.Core.Logic.{◌⊎◌, inl, inr}
use Prim.Native.Nat.{ℕ, ◌-◌, ◌≤◌, ◌<◌}
use native.Mathlib.Omega.{arith}
use lib.Dec.{eqb}
use lib.ListN.{length}
use lib.Ieee.{Float, le}
use borrow.Author.Tests.{eqb-true, eqb-false}
use Rattle.std.specs.Prelude.{Option, Some, None}
use Rattle.places.specs.Places.{list_of}
use Rattle.places.proofs.PlaceLaws.{length-list_of}
use Rattle.geometry.specs.Root.{roots_of}
use Rattle.tables.specs.declared.Measured.{Measured}
use Rattle.tables.specs.BasisTable.{BasisTable, basis_table, parameter_count}
use Rattle.tables.specs.Deviations.{all_within, largest_within, unreadable}
use Rattle.tables.specs.Measures.{measured}
use Rattle.tables.proofs.MeasureLaws.{ladder_square, ladder-rooted, ladder-held}
use Rattle.search.specs.declared.Search.{Search}
use Rattle.search.specs.Search.{start, next_of, fitted_at, failed_at, answer}
use Rattle.search.specs.Bounds.{Bounded}
use Rattle.search.proofs.SearchLaws.{Running, running-start, running_bounded, running-count, try-fitted, try_failed, running_done}
use Rattle.search.proofs.Fewest.{found}
use Rattle.fitting.specs.declared.Job.{Job}
use Rattle.fitting.specs.declared.Kind.{Kind}
use Rattle.fitting.specs.declared.Surface.{Surface}
use Rattle.fitting.specs.declared.Kind.TheVariants.{Ladder, Rows, Columns}
use Rattle.fitting.specs.declared.room.Regions.{Regions}
use Rattle.fitting.specs.Flat.{flat_of}
use Rattle.fitting.specs.Within.{Marked, pole_count, candidate, table_on, spread, candidate_passes, passes_on_spread, spread_or, found_or, fit_on_spread_knots}
use Rattle.fitting.specs.Jobs.{distances_by, within_by, direction_of, poles_in, candidate_in, attempted, HasRegions, AttemptsSpread, Tested, FewestFound, spread_in, SpreadsBelow}
use Rattle.fitting.proofs.DeviationLaws.{all-unread, all-largest}

-- ---- one count's test, from what the attempt at it came to
module _ {j : Job} {m : ℕ} {g : Regions} where
  pub tested_unfitted : {tolerance : Float} → AttemptsSpread j m g None → Tested j tolerance m g false
  unfolding passes_on_spread candidate_passes attempted
  tested_unfitted {tolerance} x = record { answer = sym (ap (candidate_passes (direction_of j) tolerance) x.answer); regions = x.regions }

  module _ {y : Measured} (x : AttemptsSpread j m g (Some y)) where
    -- by the direction's own test of the distances
    tested_by : {tolerance : Float} (b : Bool) → b ≡ within_by j.kind tolerance (candidate_in j g).distances → Tested j tolerance m g b
    unfolding passes_on_spread candidate_passes attempted direction_of
    tested_by {tolerance} b p = record { answer = p ∙ sym (ap (candidate_passes (direction_of j) tolerance) x.answer); regions = x.regions }

    -- a ladder's, by the measures: its distances are roots, and there is one
    module _ (z : j.kind ≡ Ladder) where
      abbrev table : BasisTable
      table = table_on (direction_of j) (flat_of g.knots)

      abbrev squares : List Float
      squares = list_of (parameter_count table) (ladder_square j.factor table (poles_in j g) j.lines.points.now)

      distances-rooted : (candidate_in j g).distances ≡ roots_of squares
      unfolding candidate_in candidate direction_of distances_by
      distances-rooted =
          ap (λ (k : Kind). distances_by j.factor j.lines k table (pole_count j.degree (flat_of g.knots)) (poles_in j g)) z ∙ ladder-rooted j.factor table (poles_in j g) j.lines.points.now

      counted : parameter_count table ≡ length j.params.now
      unfolding basis_table direction_of
      counted = length-list_of _ _

      some_squares : 1 ≤ length squares
      some_squares = omega (arith, length-list_of (parameter_count table) (ladder_square j.factor table (poles_in j g) j.lines.points.now), counted, j.inside.under)

      pub tested_unread : {tolerance : Float} → eqb y.unreadable 0 ≡ false → Tested j tolerance m g false
      unfolding within_by measured
      tested_unread {tolerance} u =
          tested_by false
          (sym
          (ap (λ (k : Kind). within_by k tolerance (candidate_in j g).distances) z
          ∙ all-unread tolerance _ (λ v. eqb-false _ _ u (ap (λ (q : Measured). q.unreadable) x.measures ∙ v))))

      pub tested_ladder : {tolerance : Float} → eqb y.unreadable 0 ≡ true → Tested j tolerance m g (le y.largest tolerance)
      unfolding within_by measured
      tested_ladder {tolerance} u =
          let told : y ≡ measured (roots_of squares) = x.measures ∙ ap measured distances-rooted in
          let none : unreadable (roots_of squares) ≡ 0 = sym (ap (λ (v : Measured). v.unreadable) told) ∙ eqb-true _ _ u in
          tested_by (le y.largest tolerance)
          (ap (λ (v : Measured). le v.largest tolerance) told
          ∙ all-largest tolerance squares (ladder-held j.factor table (poles_in j g) j.lines.points.now _) some_squares none
          ∙ ap (all_within tolerance) (sym distances-rooted)
          ∙ ap (λ (k : Kind). within_by k tolerance (candidate_in j g).distances) (sym z))

    pub tested_grid : {tolerance : Float} → (j.kind ≡ Rows) ⊎ ((s : Surface) × (j.kind ≡ Columns s)) → Tested j tolerance m g (le y.largest tolerance)
    unfolding within_by largest_within measured
    tested_grid {tolerance} z = tested_by (le y.largest tolerance) (ap (λ (v : Measured). le v.largest tolerance) x.measures ∙ sym (by_kind z))
      where
        by_kind : (j.kind ≡ Rows) ⊎ ((s : Surface) × (j.kind ≡ Columns s)) → within_by j.kind tolerance (candidate_in j g).distances ≡ largest_within tolerance (candidate_in j g).distances
        by_kind (inl e) = ap (λ (k : Kind). within_by k tolerance (candidate_in j g).distances) e
        by_kind (inr (s, e)) = ap (λ (k : Kind). within_by k tolerance (candidate_in j g).distances) e

-- ---- the search over such tests: what its loop keeps
pub record Searching (j : Job) (tolerance : Float) (last : ℕ) (s : Search) (g : Regions) : Type 0 where
  pub running : Running (passes_on_spread (direction_of j) tolerance) j.degree last s
  pub regions : HasRegions j g

module _ {j : Job} {tolerance : Float} {last : ℕ} where
  pub searching_start : {g : Regions} → HasRegions j g → j.degree < last → Searching j tolerance last (start j.degree last) g
  searching_start has h = record { running = running-start _ _ _ h; regions = has }

  module _ {s : Search} {g : Regions} (going : Searching j tolerance last s g) where
    pub searching_bounded : last ≤ length j.params.now → Bounded s
    searching_bounded h = running_bounded _ _ _ s (omega (arith, j.inside.few)) going.running

    pub searching_done : {r : Option ℕ} → r ≡ answer last s → None ≡ next_of s → FewestFound j tolerance last g r
    searching_done a e = record { answer = a ∙ running_done _ _ _ s (sym e) going.running; regions = going.regions }

    module _ {m : ℕ} (told : Some m ≡ next_of s) where
      pub searching_count : last ≤ length j.params.now → HasRegions j g × (j.degree < m) × (m ≤ length j.params.now)
      searching_count h =
          let n = running-count _ _ _ _ _ (sym told) going.running in
          (going.regions, n.0, omega (arith, n.1))

      module _ {g' : Regions} {b : Bool} (x : Tested j tolerance m g' b) where
        pub searching_fitted : b ≡ true → Searching j tolerance last (fitted_at s m) g'
        searching_fitted e = record { running = try-fitted _ _ _ s m (sym told) (sym x.answer ∙ e) going.running; regions = x.regions }

        pub searching_failed : b ≡ false → Searching j tolerance last (failed_at s m) g'
        searching_failed e = record { running = try_failed _ _ _ s m (sym told) (sym x.answer ∙ e) going.running; regions = x.regions }

-- ---- the search, and then the fit of the count that it found
module _ {j : Job} {tolerance : Float} {last : ℕ} {g : Regions} where
  pub spread_none : FewestFound j tolerance last g None → SpreadsBelow j tolerance last g None
  unfolding fit_on_spread_knots found_or spread_in direction_of
  spread_none x = record {
    answer = λ other. ap (found_or (direction_of j) other) (sym x.answer);
    reaches = record { measures = tt; few = tt; regions = x.regions };
  }

  module _ {m : ℕ} (x : FewestFound j tolerance last g (Some m)) (most : last ≤ length j.params.now) where
    pub found_between : (j.degree < m) × (m ≤ length j.params.now)
    found_between = let f = found _ _ _ m (sym x.answer) in (f.above, omega (arith, f.below))

    module _ {g' : Regions} where
      spread_is : (a : Option Measured) → AttemptsSpread j m g' a → (other : Marked)
          → fit_on_spread_knots (direction_of j) tolerance last other ≡ spread_or other m (attempted a (candidate_in j g'))
      unfolding fit_on_spread_knots found_or direction_of
      spread_is a y other = ap (found_or (direction_of j) other) (sym x.answer) ∙ ap (spread_or other m) y.answer

      pub spread_unfitted : AttemptsSpread j m g' None → SpreadsBelow j tolerance last g' None
      unfolding attempted spread_or spread_in
      spread_unfitted y = record { answer = spread_is None y; reaches = record { measures = tt; few = tt; regions = y.regions } }

      pub spread_fit : {z : Measured} → AttemptsSpread j m g' (Some z) → SpreadsBelow j tolerance last g' (Some z)
      unfolding attempted spread_or spread_in
      spread_fit {z} y = record {
        answer = λ other.
            let n : m ≡ g'.knots.count - j.degree - 1 = omega (arith, y.count) in
            spread_is (Some z) y other ∙ ap (λ (k : ℕ). spread k (candidate_in j g')) n;
        reaches = record {
          measures = y.measures;
          few = record { least = omega (arith, y.count, found_between.0); most = omega (arith, y.count, found_between.1) };
          regions = y.regions;
        };
      }

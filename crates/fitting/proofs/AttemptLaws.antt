-- A fit in its regions: the table on the flat knots that stand there, its poles, and what their distances measure. Assumes nothing.
use mathlib.Core.Path.{◌≡◌, refl, sym, ◌∙◌, ap}
use mathlib.Core.Bool.{true, false}
use mathlib.Core.List.{List}
use mathlib.Core.Option.{some}
use Prim.Native.Nat.{ℕ, ◌+◌, ◌-◌, ◌*◌, ◌≤◌}
use native.Mathlib.Omega.{arith}
use lib.ListN.{length, take}
use lib.Seq.{length-take-le}
use lib.Ieee.{Float}
use Rattle.std.specs.Prelude.{Some, None}
use Rattle.places.proofs.PlaceLaws.{length-list_of}
use Rattle.knots.specs.Knots.{averaged_knots}
use Rattle.knots.specs.OnLines.{on_lines}
use Rattle.tables.specs.declared.Measured.{Measured}
use Rattle.tables.specs.BasisTable.{BasisTable, basis_table}
use Rattle.tables.specs.Directions.{Direction}
use Rattle.tables.specs.Layout.{table_in, Filled}
use Rattle.tables.specs.Measures.{measured, LeavesSquares}
use Rattle.solving.specs.LeastSquares.{least_squares}
use Rattle.solving.specs.Interpolation.{interpolation}
use Rattle.fitting.specs.declared.Job.{Job}
use Rattle.fitting.specs.declared.flat.FlatKnots.{FlatKnots}
use Rattle.fitting.specs.declared.room.Fitted.{Fitted}
use Rattle.fitting.specs.declared.room.Regions.{Regions}
use Rattle.fitting.specs.Flat.{flat_of, Laid}
use Rattle.fitting.specs.Solves.{poles_of, HasLines, Solved, Passed, HasFit}
use Rattle.fitting.specs.Within.{Candidate, candidate, candidate_of, pole_count, table_on, fit_on, interpolate}
use Rattle.fitting.specs.Jobs.{direction_of, distances_on, candidate_in, attempted, HasRegions, HasKnots, Attempts, PassesThrough}

-- regions with these knots and this fit, as large as others
pub record Leaves (g : Regions) (k : FlatKnots) (x : Fitted) (g' : Regions) : Type 0 where
  pub knots : g'.knots ≡ k
  pub fit : g'.fit ≡ x
  pub band : length g'.band.now ≡ length g.band.now
  pub curve : length g'.curve.now ≡ length g.curve.now
  pub squares : length g'.squares.now ≡ length g.squares.now
  pub fresh : length g'.fresh.now ≡ length g.fresh.now

-- with the table x₁ on the knots that stand there
module _ (j : Job) (g : Regions) (has : HasRegions j g) (knots : HasKnots j g.knots.count)
    (x₁ : Fitted) (filled : Filled g.fit.table x₁.table (flat_of g.knots) j.params.now) (same : x₁.poles.now ≡ g.fit.poles.now) where
  abbrev d : Direction
  d = direction_of j

  abbrev flat : List Float
  flat = flat_of g.knots

  flat-long : length (flat_of g.knots) ≡ g.knots.count
  flat-long = length-take-le g.knots.count g.knots.places.now (omega (arith, has.flat, knots.most))

  table_is : table_in x₁.table ≡ table_on (direction_of j) (flat_of g.knots)
  unfolding direction_of
  table_is = filled.table ∙ ap (λ (p : ℕ). basis_table flat p j.params.now) has.degree

  degree_is : x₁.table.degree ≡ j.degree
  unfolding direction_of basis_table
  degree_is = ap (λ (t : BasisTable). t.degree) table_is

  firsts-long : length x₁.table.firsts.now ≡ length j.params.now
  unfolding direction_of basis_table
  firsts-long = ap (λ (t : BasisTable). length t.firsts) table_is ∙ length-list_of (length j.params.now) _

  poles_are : x₁.table.poles ≡ g.knots.count - j.degree - 1
  poles_are = filled.poles ∙ rw (has.degree, flat-long) refl

  few : x₁.table.poles ≤ length j.params.now
  few = omega (arith, poles_are, knots.most)

  pub has_lines : HasLines x₁ j.lines (length g.band.now)
  has_lines = record {
    table = filled.has;
    most = rw firsts-long few;
    points = j.inside.points ∙ sym firsts-long;
    one = j.inside.one;
    few = j.inside.most;
    matrix = rw (degree_is, firsts-long, has.band) (omega arith);
    places = rw (firsts-long, same, has.poles) (omega arith);
  }

  -- the poles are there
  module _ (x₂ : Fitted) (table : x₂.table ≡ x₁.table) (long : length x₂.poles.now ≡ length x₁.poles.now) where
    poles-long : length x₂.poles.now ≡ 3 * (j.lines.lines * length j.params.now)
    poles-long = long ∙ ap length same ∙ has.poles

    pub measurable : HasFit j x₂ (length g.curve.now) (length g.squares.now)
    measurable = record {
      table = rw table filled.has;
      params = rw table firsts-long;
      most = rw table few;
      places = rw poles-long (omega arith);
      for_curve = has.curve;
      for_squares = has.squares;
    }

    module _ (g' : Regions) (after : Leaves g g.knots x₂ g') where
      regions_after : HasRegions j g'
      regions_after = record {
        degree = rw (after.fit, table) degree_is;
        flat = rw after.knots has.flat;
        firsts = rw (after.fit, table) firsts-long;
        values = rw (after.fit, table) (filled.has.long ∙ rw (firsts-long, degree_is) refl);
        band = after.band ∙ has.band;
        poles = rw after.fit poles-long;
        curve = after.curve ∙ has.curve;
        squares = after.squares ∙ has.squares;
        fresh = after.fresh ∙ has.fresh;
      }

      poles_here : take (3 * (j.lines.lines * (g'.knots.count - j.degree - 1))) g'.fit.poles.now ≡ poles_of j.lines.lines x₂
      poles_here = rw (after.knots, after.fit, table, poles_are) refl

      candidate_is : candidate_in j g' ≡ candidate (direction_of j) (flat_of g.knots) (table_on (direction_of j) (flat_of g.knots)) (poles_of j.lines.lines x₂)
      unfolding candidate_in
      candidate_is = rw (poles_here, after.knots) refl

      distances_are : (candidate_in j g').distances ≡ distances_on j x₂
      unfolding candidate direction_of
      distances_are =
          let count : pole_count j.degree flat ≡ x₂.table.poles = rw (table, poles_are, flat-long) refl in
          let here : table_in x₂.table ≡ table_on d flat = rw table table_is in
          ap (λ (c : Candidate). c.distances) candidate_is ∙ rw (count, here) refl

  -- least squares of the lines is the direction's
  fit_is : fit_on (direction_of j) (flat_of g.knots)
      ≡ candidate_of (direction_of j) (flat_of g.knots) (table_on (direction_of j) (flat_of g.knots)) (least_squares (table_in x₁.table) x₁.table.poles j.lines.lines (on_lines j.lines))
  unfolding fit_on direction_of
  fit_is =
      let count : pole_count j.degree flat ≡ x₁.table.poles = rw (poles_are, flat-long) refl in
      rw (count, table_is) refl

  pub unfitted : (x₂ : Fitted) → Solved x₁ x₂ j.lines false → (g' : Regions) → Leaves g g.knots x₂ g' → Attempts j g g' None
  unfolding attempted candidate_of direction_of
  unfitted x₂ s g' after = record {
    answer = fit_is ∙ ap (candidate_of d flat (table_on d flat)) s.answer;
    measures = tt;
    deviations = tt;
    firsts = rw (after.fit, s.table) (ap (λ (t : BasisTable). t.firsts) table_is);
    knots = ap flat_of after.knots;
    count = ap (λ (k : FlatKnots). k.count) after.knots;
    regions = regions_after x₂ s.table s.long g' after;
  }

  pub fitting : (x₂ : Fitted) → Solved x₁ x₂ j.lines true → (g' : Regions) → Leaves g g.knots x₂ g'
      → (y : Measured) → LeavesSquares (direction_of j).deviations (distances_on j x₂) g'.squares.now y
      → Attempts j g g' (Some y)
  unfolding attempted candidate_of direction_of
  fitting x₂ s g' after y m =
      let same = distances_are x₂ s.table s.long g' after in
      record {
        answer = fit_is ∙ ap (candidate_of d flat (table_on d flat)) s.answer ∙ ap some (sym (candidate_is x₂ s.table s.long g' after));
        measures = m.measures ∙ ap measured (sym same);
        deviations = m.deviations ∙ ap (direction_of j).deviations (sym same);
        firsts = rw (after.fit, s.table) (ap (λ (t : BasisTable). t.firsts) table_is);
        knots = ap flat_of after.knots;
        count = ap (λ (k : FlatKnots). k.count) after.knots;
        regions = regions_after x₂ s.table s.long g' after;
      }

  -- and so is interpolation
  through_is : (x₂ : Fitted) → Passed x₁ x₂ j.lines → poles_of j.lines.lines x₂ ≡ interpolation (table_on (direction_of j) (flat_of g.knots)) j.lines.lines (on_lines j.lines)
  through_is x₂ p = p.poles ∙ ap (λ (t : BasisTable). interpolation t j.lines.lines (on_lines j.lines)) table_is

-- ---- interpolation, on averaged knots

module _ (j : Job) (g : Regions) (has : HasRegions j g) (k : FlatKnots) (laid : Laid g.knots k (length j.params.now + j.degree + 1) (averaged_knots j.params.now j.degree)) where
  abbrev averaged : Regions
  averaged = record { knots = k; fit = g.fit; band = g.band; curve = g.curve; squares = g.squares; fresh = g.fresh }

  has-averaged : HasRegions j averaged
  has-averaged = record {
    degree = has.degree;
    flat = laid.places ∙ has.flat;
    firsts = has.firsts;
    values = has.values;
    band = has.band;
    poles = has.poles;
    curve = has.curve;
    squares = has.squares;
    fresh = has.fresh;
  }

  most-knots : HasKnots j k.count
  most-knots = rw laid.count (record { least = omega (arith, j.inside.under); most = omega arith })

  module _ (x₁ : Fitted) (filled : Filled g.fit.table x₁.table (flat_of k) j.params.now) (same : x₁.poles.now ≡ g.fit.poles.now) where
    pub through_lines : HasLines x₁ j.lines (length g.band.now)
    through_lines = has_lines j averaged has-averaged most-knots x₁ filled same

    pub through_poles : x₁.table.poles ≡ length x₁.table.firsts.now
    through_poles =
        poles_are j averaged has-averaged most-knots x₁ filled same ∙ rw (laid.count, firsts-long j averaged has-averaged most-knots x₁ filled same) (omega arith)

    module _ (x₂ : Fitted) (p : Passed x₁ x₂ j.lines) where
      pub through_measurable : HasFit j x₂ (length g.curve.now) (length g.squares.now)
      through_measurable = measurable j averaged has-averaged most-knots x₁ filled same x₂ p.table p.long

      pub passes : (g' : Regions) → Leaves g k x₂ g' → (y : Measured) → LeavesSquares (direction_of j).deviations (distances_on j x₂) g'.squares.now y → PassesThrough j g' y
      unfolding interpolate direction_of
      passes g' after y m =
          let laid-after : Leaves averaged k x₂ g' =
          record { knots = after.knots; fit = after.fit; band = after.band; curve = after.curve; squares = after.squares; fresh = after.fresh } in
          let there : candidate_in j g' ≡ interpolate (direction_of j) =
          candidate_is j averaged has-averaged most-knots x₁ filled same x₂ p.table p.long g' laid-after
          ∙ rw (through_is j averaged has-averaged most-knots x₁ filled same x₂ p, laid.knots) refl in
          record {
            fit = there;
            measures = m.measures ∙ ap measured (sym (distances_are j averaged has-averaged most-knots x₁ filled same x₂ p.table p.long g' laid-after)) ∙ ap (λ (v : Candidate). measured v.distances) there;
            count = ap (λ (x : FlatKnots). x.count) after.knots ∙ laid.count;
            regions = regions_after j averaged has-averaged most-knots x₁ filled same x₂ p.table p.long g' laid-after;
          }

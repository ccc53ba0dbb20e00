-- The fits that stand in their regions: their tables, and what is handed back of them. Assumes nothing.
use mathlib.Core.Path.{◌≡◌, refl, sym, ◌∙◌, ap}
use mathlib.Core.List.{List}
use Prim.Native.Nat.{ℕ}
use native.Mathlib.Omega.{arith}
use lib.ListN.{length}
use lib.Seq.{length-take-le}
use lib.Ieee.{Float}
use Rattle.knots.specs.Knots.{distinct_knots}
use Rattle.tables.specs.BasisTable.{BasisTable, basis_table}
use Rattle.tables.specs.Deviations.{unreadable}
use Rattle.tables.specs.Layout.{Filled}
use Rattle.tables.proofs.TableLaws.{length_rows}
use Rattle.fitting.specs.declared.Job.{Job}
use Rattle.fitting.specs.declared.room.Fitted.{Fitted}
use Rattle.fitting.specs.declared.room.Regions.{Regions}
use Rattle.fitting.specs.Flat.{flat_of}
use Rattle.fitting.specs.Within.{Candidate, candidate, pole_count}
use Rattle.fitting.specs.Marks.{unmarked, fit_of}
use Rattle.fitting.specs.Jobs.{HasRegions, HasKnots, candidate_in, poles_in}
use Rattle.making.specs.declared.StandingFit.{StandingFit}
use Rattle.making.specs.HandedOut.{HandedKnots}
use Rattle.making.specs.Runs.{standing_in}
use Rattle.making.proofs.MakeLaws.{fit_same, unmarked_as, mark_as}
use Rattle.grids.specs.declared.output.Placed.{Placed}
use Rattle.grids.specs.GridRuns.{stood, count_of, TableStands, placed, count_in, direction_fit, HandsDirection}

-- ---- the table of a fit's knots

-- the regions with another table and poles
abbrev with_fit : Regions → Fitted → Regions
with_fit g x = record { knots = g.knots; fit = x; band = g.band; curve = g.curve; squares = g.squares; fresh = g.fresh }

module _ (j : Job) (g : Regions) (x : Fitted) (has : HasRegions j g) (knots : HasKnots j g.knots.count) (filled : Filled g.fit.table x.table (flat_of g.knots) j.params.now) (poles : x.poles.now ≡ g.fit.poles.now) where
  flat-long : length (flat_of g.knots) ≡ g.knots.count
  flat-long = length-take-le g.knots.count g.knots.places.now (omega (arith, has.flat, knots.most))

  same-degree : x.table.degree ≡ j.degree
  unfolding basis_table
  same-degree = ap (λ (t : BasisTable). t.degree) filled.table ∙ has.degree

  firsts-long : length x.table.firsts.now ≡ length j.params.now
  firsts-long = ap (λ (t : BasisTable). length t.firsts) filled.table ∙ length_rows (flat_of g.knots) g.fit.table.degree j.params.now

  fit-same : candidate_in j (with_fit g x) ≡ candidate_in j g
  unfolding candidate_in
  fit-same = rw poles

  pub table_stands : TableStands j g (with_fit g x)
  table_stands = record {
    table = rw has.degree at filled.table;
    poles = filled.poles ∙ rw (flat-long, has.degree);
    has = filled.has;
    fit = fit-same;
    knots = refl;
    count = refl;
    regions =
        record {
          degree = same-degree;
          flat = has.flat;
          firsts = firsts-long;
          values = filled.has.long ∙ rw (firsts-long, same-degree);
          band = has.band;
          poles = ap length poles ∙ has.poles;
          curve = has.curve;
          squares = has.squares;
          fresh = has.fresh;
        };
  }

-- ---- a fit that stands there, as it is handed back
module _ (x : StandingFit) where
  flat_long : length (flat_of x.at.now.knots) ≡ x.at.now.knots.count
  flat_long = length-take-le x.at.now.knots.count x.at.now.knots.places.now (omega (arith, x.regions.flat, x.stands.few.most))

  standing-is : unmarked (stood x) ≡ candidate_in x.job x.at.now
  unfolding standing_in
  standing-is = unmarked_as x.standing.mark (count_of x) (candidate_in x.job x.at.now)

  pub stood-flat : (unmarked (stood x)).flat ≡ flat_of x.at.now.knots
  unfolding candidate_in candidate
  stood-flat = ap (λ (f : Candidate). f.flat) standing-is

  pub stood-poles : (unmarked (stood x)).poles ≡ poles_in x.job x.at.now
  unfolding candidate_in candidate
  stood-poles = ap (λ (f : Candidate). f.poles) standing-is

  pub stood-count : pole_count x.job.degree (unmarked (stood x)).flat ≡ count_of x
  stood-count = rw (stood-flat, flat_long)

  pub handed_back : fit_of x.job.degree (stood x) ≡ direction_fit (placed x)
  unfolding fit_of standing_in
  handed_back =
      fit_same _ _ _ _ _ _ _ _ (sym (mark_as x.standing.mark (count_of x) (candidate_in x.job x.at.now) x.stands.most)) stood-count (ap distinct_knots stood-flat)
      (ap (λ (f : Candidate). unreadable f.distances) standing-is ∙ sym x.stands.unread)

-- a direction's knots, as they are handed out
pub hands_direction : (x : Placed) {flat flat' knots knots' : List Float} {mults mults' : List ℕ} {r : ℕ} → HandedKnots (flat_of x.at.now.knots) flat flat' knots knots' mults mults' r
    → HandsDirection x flat flat' knots knots' mults mults' (record { mark = x.standing.mark; poles = count_in x; knots = r; unreadable = x.standing.unreadable })
hands_direction x h = record {
  answer = fit_same _ _ _ _ _ _ _ _ refl refl h.runs.count refl;
  poles = refl;
  handed = record { for_flat = h.for_flat; runs = record { count = refl; values = h.runs.values; multiplicities = h.runs.multiplicities } };
}

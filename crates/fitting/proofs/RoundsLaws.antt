-- Rounds of a refinement: that rounds which are enough for the parameters are enough, what one round comes to, and the loop over them. Assumes nothing.
use mathlib.Core.Path.{◌≡◌, refl, sym, ◌∙◌, ap}
use mathlib.Core.Bool.{Bool, true, false, cond}
use mathlib.Core.List.{List}
use mathlib.Core.Option.{Option as Maybe, none, some}
use Prim.Native.Nat.{ℕ, zero, suc, ◌+◌, ◌-◌, ◌*◌, ◌≤◌, ◌<◌}
use native.Mathlib.Omega.{arith}
use lib.ListN.{length}
use borrow.Rule.Slice.Mut.{set_vals}
use lib.Ieee.{Float, le}
use Rattle.std.specs.Prelude.{Option, Some, None}
use Rattle.std.proofs.Common.{length-take-le}
use Rattle.geometry.specs.Doubles.{largest}
use Rattle.knots.specs.Knots.{bezier_knots}
use Rattle.knots.proofs.KnotLaws.{length_bezier}
use Rattle.tables.specs.declared.Measured.{Measured}
use Rattle.tables.specs.declared.basis_table.TablePlaces.{TablePlaces}
use Rattle.tables.specs.Deviations.{largest_within}
use Rattle.tables.specs.Directions.{Direction}
use Rattle.tables.specs.Measures.{measured}
use Rattle.refinement.specs.Refinement.{refined_knots}
use Rattle.refinement.proofs.RoundLaws.{refined-grows}
use Rattle.fitting.specs.declared.Job.{Job}
use Rattle.fitting.specs.declared.flat.FlatKnots.{FlatKnots}
use Rattle.fitting.specs.declared.room.Regions.{Regions}
use Rattle.fitting.specs.Flat.{flat_of, next_in, Laid, Refined}
use Rattle.fitting.specs.Within.{Candidate, table_on, fit_on, Refining, going, fitted, stuck, going_on, judged, refinement_round, refinement_rounds, fit_in, fit_with_refined_knots}
use Rattle.fitting.specs.Jobs.{direction_of, candidate_in, attempted, HasRegions, HasKnots, Attempts, RefinesWithin}

-- ---- the rounds of a direction

module _ (d : Direction) (t : Float) where
  pub rounds-fitted : (k : ℕ) (f : Candidate) → refinement_rounds d t k (fitted f) ≡ fitted f
  unfolding refinement_rounds refinement_round
  rounds-fitted zero f = refl
  rounds-fitted (suc k) f = rounds-fitted k f

  pub rounds-stuck : (k : ℕ) → refinement_rounds d t k stuck ≡ stuck
  unfolding refinement_rounds refinement_round
  rounds-stuck zero = refl
  rounds-stuck (suc k) = rounds-stuck k

  pub rounds-suc : (k : ℕ) (s : Refining) → refinement_rounds d t (suc k) s ≡ refinement_rounds d t k (refinement_round d t s)
  unfolding refinement_rounds
  rounds-suc k s = refl

  -- a round makes the flat knots more, and at most those of a pole less than there are parameters
  pub round-grows : (flat all : List Float) → d.degree + 1 ≤ length flat → refinement_round d t (going flat) ≡ going all
      → (length flat < length all) × (length all ≤ length d.params + d.degree)
  unfolding refinement_round judged going_on
  round-grows flat all h e = by-fit (fit_on d flat) e
    where
      by_next : (f : Candidate) (o : Maybe (List Float)) → refined_knots d.params (table_on d flat).firsts (d.deviations f.distances) (largest f.distances) t d.degree flat ≡ o
          → going_on o ≡ going all → (length flat < length all) × (length all ≤ length d.params + d.degree)
      by_next f none q r = absurd (cc)
      by_next f (some x) q r =
          let z : x ≡ all = cc in
          refined-grows d.params (table_on d flat).firsts (d.deviations f.distances) (largest f.distances) t d.degree flat all (q ∙ ap some z) h

      by_test : (b : Bool) (f : Candidate)
          → cond b (fitted f) (going_on (refined_knots d.params (table_on d flat).firsts (d.deviations f.distances) (largest f.distances) t d.degree flat)) ≡ going all
          → (length flat < length all) × (length all ≤ length d.params + d.degree)
      by_test true f r = absurd (cc)
      by_test false f r = by_next f (refined_knots d.params (table_on d flat).firsts (d.deviations f.distances) (largest f.distances) t d.degree flat) refl r

      by-fit : (o : Maybe Candidate) → judged d t flat o ≡ going all → (length flat < length all) × (length all ≤ length d.params + d.degree)
      by-fit none r = absurd (cc)
      by-fit (some f) r = by_test (largest_within t f.distances) f r

  -- any two numbers of rounds that are large enough come to the same
  pub enough : (a b : ℕ) (flat : List Float) → d.degree + 1 ≤ length flat → length flat ≤ length d.params + d.degree + 1
      → length d.params + d.degree + 1 < a + length flat → length d.params + d.degree + 1 < b + length flat
      → refinement_rounds d t a (going flat) ≡ refinement_rounds d t b (going flat)
  enough zero b flat g h p q = absurd (omega arith)
  enough (suc a) zero flat g h p q = absurd (omega arith)
  enough (suc a) (suc b) flat g h p q =
      rounds-suc a (going flat) ∙ go (refinement_round d t (going flat)) refl (λ x i m u v. enough a b x i m u v) ∙ sym (rounds-suc b (going flat))
    where
      go : (s : Refining) → refinement_round d t (going flat) ≡ s
          → ((x : List Float) → d.degree + 1 ≤ length x → length x ≤ length d.params + d.degree + 1 → length d.params + d.degree + 1 < a + length x
          → length d.params + d.degree + 1 < b + length x → refinement_rounds d t a (going x) ≡ refinement_rounds d t b (going x))
          → refinement_rounds d t a s ≡ refinement_rounds d t b s
      go (going x) e ih = let r = round-grows flat x g e in ih x (omega arith) (omega arith) (omega arith) (omega arith)
      go (fitted f) e ih = rounds-fitted a f ∙ sym (rounds-fitted b f)
      go stuck e ih = rounds-stuck a ∙ sym (rounds-stuck b)

  -- a round by its fit
  pub round_unfitted : (flat : List Float) → fit_on d flat ≡ none → refinement_round d t (going flat) ≡ stuck
  unfolding refinement_round judged
  round_unfitted flat e = ap (judged d t flat) e

  pub round-within : (flat : List Float) (f : Candidate) → fit_on d flat ≡ some f → largest_within t f.distances ≡ true → refinement_round d t (going flat) ≡ fitted f
  unfolding refinement_round judged
  round-within flat f e w =
      ap (judged d t flat) e
      ∙ ap (λ (b : Bool). cond b (fitted f) (going_on (refined_knots d.params (table_on d flat).firsts (d.deviations f.distances) (largest f.distances) t d.degree flat))) w

  pub round_beyond : (flat : List Float) (f : Candidate) → fit_on d flat ≡ some f → largest_within t f.distances ≡ false
      → refinement_round d t (going flat) ≡ going_on (refined_knots d.params (table_on d flat).firsts (d.deviations f.distances) (largest f.distances) t d.degree flat)
  unfolding refinement_round judged
  round_beyond flat f e w =
      ap (judged d t flat) e
      ∙ ap (λ (b : Bool). cond b (fitted f) (going_on (refined_knots d.params (table_on d flat).firsts (d.deviations f.distances) (largest f.distances) t d.degree flat))) w

-- ---- one round on the flat knots that stand in a job's regions

module _ (j : Job) (t : Float) (g g' : Regions) where
  abbrev d : Direction
  d = direction_of j

  abbrev flat : List Float
  flat = flat_of g.knots

  round_stuck : Attempts j g g' None → refinement_round d t (going flat) ≡ stuck
  unfolding attempted
  round_stuck x = round_unfitted d t flat x.answer

  module _ {y : Measured} (x : Attempts j g g' (Some y)) where
    abbrev f : Candidate
    f = candidate_in j g'

    fit_there : fit_on d flat ≡ some f
    unfolding attempted
    fit_there = x.answer

    most_is : y.largest ≡ largest f.distances
    unfolding measured
    most_is = ap (λ (m : Measured). m.largest) x.measures

    test_is : largest_within t f.distances ≡ le y.largest t
    unfolding largest_within
    test_is = ap (λ (m : Float). le m t) (sym most_is)

    round_fits : le y.largest t ≡ true → refinement_round d t (going flat) ≡ fitted f
    round_fits h = round-within d t flat f fit_there (test_is ∙ h)

    -- with a splitting after it
    module _ {k : FlatKnots} {x' : TablePlaces} {squares fresh : List Float} {r : Option (Unit {0})}
        (z : Refined j g'.knots k g'.fit.table x' g'.squares.now squares g'.fresh.now fresh t y.largest r) where
      next_is : refined_knots d.params (table_on d flat).firsts (d.deviations f.distances) (largest f.distances) t d.degree flat ≡ next_in r k
      unfolding direction_of
      next_is = rw (sym x.firsts, sym x.deviations, sym most_is, sym x.knots) z.answer

      round_splits : le y.largest t ≡ false → refinement_round d t (going flat) ≡ going_on (next_in r k)
      round_splits h = round_beyond d t flat f fit_there (test_is ∙ h) ∙ ap going_on next_is

-- ---- the loop

-- regions with other flat knots; and with those, the table, the squares and the new knots of a splitting
abbrev pub relaid : Regions → FlatKnots → Regions
relaid g k = record { knots = k; fit = g.fit; band = g.band; curve = g.curve; squares = g.squares; fresh = g.fresh }

abbrev pub resplit : Regions → FlatKnots → TablePlaces → List Float → List Float → Regions
resplit g k x squares fresh = record {
  knots = k;
  fit = record { table = x; poles = g.fit.poles };
  band = g.band;
  curve = g.curve;
  squares = set_vals squares g.squares;
  fresh = set_vals fresh g.fresh;
}

-- the rounds that are left give what all of them give
pub record Rounding (j : Job) (t : Float) (g : Regions) : Type 0 where
  pub regions : HasRegions j g
  pub knots : HasKnots j g.knots.count
  pub rest : refinement_rounds (direction_of j) t (length j.params.now + j.degree + 2 - g.knots.count) (going (flat_of g.knots))
      ≡ refinement_rounds (direction_of j) t (length j.params.now) (going (bezier_knots j.degree))

-- enough rounds, by the job's own numbers
enough_here : (j : Job) (t : Float) (a b : ℕ) (knots : List Float) → j.degree + 1 ≤ length knots → length knots ≤ length j.params.now + j.degree + 1
    → length j.params.now + j.degree + 1 < a + length knots → length j.params.now + j.degree + 1 < b + length knots
    → refinement_rounds (direction_of j) t a (going knots) ≡ refinement_rounds (direction_of j) t b (going knots)
unfolding direction_of
enough_here j t a b knots g h p q = enough (direction_of j) t a b knots g h p q

module _ {j : Job} {t : Float} where
  -- from the knots of a single piece
  pub rounding_start : {g : Regions} {k : FlatKnots} → HasRegions j g → Laid g.knots k (2 * j.degree + 2) (bezier_knots j.degree) → Rounding j t (relaid g k)
  rounding_start {g} {k} has x =
      let h = j.inside.under in
      let size : length (bezier_knots j.degree) ≡ 2 * j.degree + 2 = length_bezier j.degree ∙ omega arith in
      record {
        regions = record {
          degree = has.degree;
          flat = x.places ∙ has.flat;
          firsts = has.firsts;
          values = has.values;
          band = has.band;
          poles = has.poles;
          curve = has.curve;
          squares = has.squares;
          fresh = has.fresh;
        };
        knots = record { least = omega (arith, x.count); most = omega (arith, x.count) };
        rest =
            ap (λ (v : List Float). refinement_rounds (direction_of j) t (length j.params.now + j.degree + 2 - k.count) (going v)) x.knots
            ∙ enough_here j t (length j.params.now + j.degree + 2 - k.count) (length j.params.now) (bezier_knots j.degree) (omega arith) (omega arith) (omega (arith, x.count)) (omega arith);
      }

  module _ {g : Regions} (v : Rounding j t g) where
    abbrev more : ℕ
    more = length j.params.now + j.degree + 1 - g.knots.count

    -- the rest, after this round
    rest_is : {s : Refining} → refinement_round (direction_of j) t (going (flat_of g.knots)) ≡ s
        → refinement_rounds (direction_of j) t (length j.params.now) (going (bezier_knots j.degree)) ≡ refinement_rounds (direction_of j) t more s
    rest_is x =
        let z : length j.params.now + j.degree + 2 - g.knots.count ≡ suc more = omega (arith, v.knots.most) in
        sym v.rest
        ∙ ap (λ (n : ℕ). refinement_rounds (direction_of j) t n (going (flat_of g.knots))) z
        ∙ rounds-suc (direction_of j) t more (going (flat_of g.knots))
        ∙ ap (refinement_rounds (direction_of j) t more) x

    -- an end without a fit
    ended : {g' : Regions} → HasRegions j g' → refinement_round (direction_of j) t (going (flat_of g.knots)) ≡ stuck → RefinesWithin j t g' None
    unfolding attempted fit_with_refined_knots fit_in direction_of
    ended has x = record {
      answer = ap fit_in (rest_is x ∙ rounds-stuck (direction_of j) t more);
      reaches = record { measures = tt; few = tt; regions = has };
    }

    module _ {g' : Regions} where
      pub rounding_ended : Attempts j g g' None → RefinesWithin j t g' None
      rounding_ended x = ended x.regions (round_stuck j t g g' x)

      module _ {y : Measured} (x : Attempts j g g' (Some y)) where
        pub rounding_fits : le y.largest t ≡ true → RefinesWithin j t g' (Some y)
        unfolding attempted fit_with_refined_knots fit_in direction_of
        rounding_fits h = record {
          answer = ap fit_in (rest_is (round_fits j t g g' x h) ∙ rounds-fitted (direction_of j) t more (candidate_in j g'));
          reaches = record {
            measures = x.measures;
            few = record { least = omega (arith, x.count, v.knots.least); most = omega (arith, x.count, v.knots.most) };
            regions = x.regions;
          };
        }

        module _ (beyond : le y.largest t ≡ false) {k : FlatKnots} {x' : TablePlaces} {squares fresh : List Float} where
          split_regions : {r : Option (Unit {0})} → Refined j g'.knots k g'.fit.table x' g'.squares.now squares g'.fresh.now fresh t y.largest r
              → HasRegions j (resplit g' k x' squares fresh)
          split_regions z =
              let has = x.regions in
              record {
                degree = z.degree ∙ has.degree;
                flat = z.places ∙ has.flat;
                firsts = z.firsts ∙ has.firsts;
                values = z.values ∙ has.values;
                band = has.band;
                poles = has.poles;
                curve = has.curve;
                squares = z.for_squares ∙ has.squares;
                fresh = z.for_fresh ∙ has.fresh;
              }

          pub rounding_stuck : Refined j g'.knots k g'.fit.table x' g'.squares.now squares g'.fresh.now fresh t y.largest None
              → RefinesWithin j t (resplit g' k x' squares fresh) None
          unfolding going_on next_in
          rounding_stuck z = ended (split_regions z) (round_splits j t g g' x z beyond)

          pub rounding_next : Refined j g'.knots k g'.fit.table x' g'.squares.now squares g'.fresh.now fresh t y.largest (Some tt)
              → Rounding j t (resplit g' k x' squares fresh)
          unfolding going_on next_in
          rounding_next z =
              let grows : (g'.knots.count < k.count) × (k.count ≤ length j.params.now + j.degree) = z.grows in
              let has = x.regions in
              let long : length (flat_of k) ≡ k.count = length-take-le k.count k.places.now (omega (arith, grows.1, z.places, has.flat)) in
              record {
                regions = split_regions z;
                knots = record { least = omega (arith, grows.0, x.count, v.knots.least); most = omega (arith, grows.1) };
                rest =
                    sym
                    (rest_is (round_splits j t g g' x z beyond)
                    ∙ enough_here j t more (length j.params.now + j.degree + 2 - k.count) (flat_of k) (omega (arith, grows.0, x.count, v.knots.least)) (omega (arith, grows.1))
                    (omega (arith, grows.0, x.count, grows.1)) (omega (arith, grows.1)));
              }

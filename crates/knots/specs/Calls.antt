-- What the functions ask of the lists lent to them, and what they leave in them. Definitions only.
use Rattle.std.specs.Prelude.{◌≡◌, List, ℕ, ◌+◌, ◌-◌, ◌≤◌, ◌<◌, length, take, drop, Result, MatchResult, Float}
use Rattle.std.proofs.Math.Option.{Option, none, some}
use Rattle.places.specs.Places.{laid}
use Rattle.geometry.specs.declared.Point.{Point}
use Rattle.geometry.specs.Doubles.{at, sum_below}
use Rattle.bspline.specs.declared.Refusal.{Refusal}
use Rattle.bspline.specs.declared.Refusal.TheVariants.{ConfusedPoints}
use Rattle.knots.specs.declared.Metric.{Metric}
use Rattle.knots.specs.declared.parameters.LineChords.{LineChords}
use Rattle.knots.specs.declared.parameters.LineSums.{LineSums}
use Rattle.knots.specs.Parameters.{chords, step_sums, confused}
use Rattle.knots.specs.Knots.{distinct_knots, knot_at, multiplicity_at}

-- ---- parameters

-- What the chords of a line of n points come to: their length, and whether two neighbours are confused
unfoldable pub line_chords : Float → ℕ → (ℕ → Point) → LineChords
line_chords f n point =
    let ds = chords f n point in
    record { length = sum_below (n - 1) (at ds); confused = confused n ds }

-- What a line of n points is summed up to, beside its running sums: its chords, and its last running sum
unfoldable pub line_sums : Metric → ℕ → (ℕ → Point) → LineSums
line_sums v n point = record { chords = line_chords v.factor n point; total = at (step_sums v.spacing n (chords v.factor n point)) (n - 1) }

-- The n parameters that were looked for: where r is Ok, they stand in the first n places; where it is an error, there are none, and points are confused.
-- Places from m on stay.
pub record Found (parameters : Option (List Float)) (n m : ℕ) (out out' : List Float) (r : Result (Unit {0}) Refusal) : Type 0 where
  pub answer : MatchResult r (λ _. parameters ≡ some (take n out')) (λ e. (parameters ≡ none) × (e ≡ ConfusedPoints))
  pub rest : drop m out' ≡ drop m out

-- ---- knots

-- m + p + 1 flat knots of degree p, from n parameters
pub record KnotRoom (n m p size : ℕ) : Type 0 where
  pub low : 1 ≤ p
  pub high : p ≤ 25
  pub few : n ≤ 1024
  pub more : p < m
  pub most : m ≤ n
  pub room : size ≡ m + p + 1

-- ---- runs

-- room for as many distinct knots as there are knots
pub record HasRoom (flat knots : List Float) (mults : List ℕ) : Type 0 where
  pub few : length flat ≤ 1050
  pub for_knots : length flat ≤ length knots
  pub for_mults : length flat ≤ length mults

-- flat knots handed out as distinct knots with multiplicities
pub record Compressed (flat knots knots' : List Float) (mults mults' : List ℕ) (r : ℕ) : Type 0 where
  pub count : r ≡ distinct_knots flat
  pub values : knots' ≡ laid 0 (distinct_knots flat) (knot_at flat) knots
  pub multiplicities : mults' ≡ laid 0 (distinct_knots flat) (multiplicity_at flat) mults

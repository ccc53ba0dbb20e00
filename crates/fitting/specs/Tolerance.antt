-- Demand 3 of a fit of one direction: what is kept to the tolerance, in the words of document 01, and of nothing but what was handed in. Definitions only.
use Rattle.std.specs.Prelude.{ℕ, ◌-◌, ◌<◌, ◌≡◌, true, false, List, [], length, get_or, Float}
use Rattle.std.proofs.Math.Option.{Option, none, some}
use Rattle.std.specs.Float.{nan}
use Rattle.std.specs.Float.Ieee.{lt}
use Rattle.tables.specs.Directions.{Direction}
use Rattle.fitting.specs.Within.{Candidate, Marked, refined, spread, interpolated, passes_on_spread}

-- no computed deviation is above the tolerance
abbrev pub NoneAbove : Float → List Float → Type 0
NoneAbove t ds = (k : ℕ) → k < length ds → lt t (get_or ds k nan) ≡ false

-- a count, if above the degree, fails the test on spread knots
abbrev pub Fails : Direction → Float → ℕ → Type 0
Fails d t count = d.degree < count → passes_on_spread d t count ≡ false

-- `refinement` is what the call's refinement gives, and none where the call has no refinement.
pub record KeepsTolerance (d : Direction) (t : Float) (refinement : Option Candidate) (a : Marked) : Type 0 where
  pub refined_within : (f : Candidate) → a ≡ refined f → NoneAbove t f.distances
  pub spread_within : (count : ℕ) (f : Candidate) → a ≡ spread count f → NoneAbove t f.distances
  pub spread_passes : (count : ℕ) (f : Candidate) → a ≡ spread count f → passes_on_spread d t count ≡ true
  pub one_below_fails : (count : ℕ) (f : Candidate) → a ≡ spread count f → Fails d t (count - 1)
  pub interpolated_stuck : (f : Candidate) → a ≡ interpolated f → refinement ≡ none
  pub interpolated_last : (f : Candidate) → a ≡ interpolated f → Fails d t (length d.params - 1)

-- the parameters of a direction; none where its spacing gives none
abbrev pub params_or : Option (List Float) → List Float
params_or none = []
params_or (some params) = params

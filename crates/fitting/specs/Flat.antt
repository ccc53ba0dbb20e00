-- The flat knots that stand in their places, and the laying of others. Definitions only.
use Rattle.std.specs.Prelude.{◌≡◌, List, ℕ, ◌+◌, ◌≤◌, ◌<◌, length, take, Float, OnSome}
use Rattle.std.specs.Prelude as prelude
use Rattle.std.proofs.Math.Option.{Option, none, some}
use Rattle.geometry.specs.Root.{roots_of}
use Rattle.refinement.specs.Refinement.{refined_knots}
use Rattle.tables.specs.declared.basis_table.TablePlaces.{TablePlaces}
use Rattle.fitting.specs.declared.Job.{Job}
use Rattle.fitting.specs.declared.flat.FlatKnots.{FlatKnots}

abbrev pub flat_of : FlatKnots → List Float
flat_of k = take k.count k.places.now

-- l flat knots, these, in the same places
pub record Laid (k k' : FlatKnots) (l : ℕ) (flat : List Float) : Type 0 where
  pub knots : flat_of k' ≡ flat
  pub count : k'.count ≡ l
  pub places : length k'.places.now ≡ length k.places.now

-- What a round of splitting asks: a square and a first pole for each parameter, and room for as many knots more as there are parameters.
pub record HasRound (j : Job) (k : FlatKnots) (t : TablePlaces) (squares fresh : ℕ) : Type 0 where
  pub least : j.degree < k.count
  pub inside : k.count ≤ length k.places.now
  pub room : length j.params.now + j.degree + 1 ≤ length k.places.now
  pub firsts : length t.firsts.now ≡ length j.params.now
  pub for_squares : squares ≡ length j.params.now
  pub for_fresh : length j.params.now ≤ fresh

-- the knots of the next round, if there are any
unfoldable pub next_in : prelude.Option (Unit {0}) → FlatKnots → Option (List Float)
next_in prelude.None k = none
next_in (prelude.Some x) k = some (flat_of k)

-- And what it leaves: more flat knots, or none for the next round. All lengths stay, and the table's values.
pub record Refined (j : Job) (k k' : FlatKnots) (t t' : TablePlaces) (squares squares' fresh fresh' : List Float) (tolerance most : Float) (r : prelude.Option (Unit {0})) : Type 0 where
  pub answer : refined_knots j.params.now t.firsts.now (roots_of squares) most tolerance j.degree (flat_of k) ≡ next_in r k'
  pub grows : OnSome r ((k.count < k'.count) × (k'.count ≤ length j.params.now + j.degree))
  pub places : length k'.places.now ≡ length k.places.now
  pub degree : t'.degree ≡ t.degree
  pub firsts : length t'.firsts.now ≡ length t.firsts.now
  pub values : length t'.values.now ≡ length t.values.now
  pub for_squares : length squares' ≡ length squares
  pub for_fresh : length fresh' ≡ length fresh

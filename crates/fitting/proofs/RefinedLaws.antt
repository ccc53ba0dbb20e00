-- A fit by refinement is a fit within the tolerance, on knots that have whatever the first round's knots have and each round keeps. Assumes nothing.
use mathlib.Core.Path.{◌≡◌, refl, subst}
use mathlib.Core.Bool.{Bool, true, false, cond}
use mathlib.Core.List.{List}
use mathlib.Core.Option.{Option, none, some}
use Prim.Native.Nat.{ℕ, zero, suc}
use lib.ListN.{length}
use lib.Ieee.{Float}
use Rattle.geometry.specs.Doubles.{largest}
use Rattle.knots.specs.Knots.{bezier_knots}
use Rattle.tables.specs.Deviations.{largest_within}
use Rattle.tables.specs.Directions.{Direction}
use Rattle.refinement.specs.Refinement.{refined_knots}
use Rattle.fitting.specs.Within.{Candidate, table_on, fit_on, Refining, going, fitted, stuck, going_on, judged, refinement_round, refinement_rounds, fit_in, fit_with_refined_knots}

-- the knots of the round after one whose fit f was beyond the tolerance
abbrev pub next_knots : Direction → Float → List Float → Candidate → Option (List Float)
next_knots d t flat f = refined_knots d.params (table_on d flat).firsts (d.deviations f.distances) (largest f.distances) t d.degree flat

-- a fit within the tolerance, on knots that have P
pub record Refined (d : Direction) (t : Float) (P : List Float → Type 0) (f : Candidate) : Type 0 where
  pub flat : List Float
  pub has : P flat
  pub own : fit_on d flat ≡ some f
  pub close : largest_within t f.distances ≡ true

module _ (d : Direction) (t : Float) (P : List Float → Type 0) (keeps : (flat all : List Float) (f : Candidate) → P flat → next_knots d t flat f ≡ some all → P all) where
  abbrev Good : Refining → Type 0
  Good (going flat) = P flat
  Good (fitted f) = Refined d t P f
  Good stuck = Unit {0}

  next_good : (o : Option (List Float)) → ((all : List Float) → o ≡ some all → P all) → Good (going_on o)
  unfolding going_on
  next_good none h = tt
  next_good (some all) h = h all refl

  judged_good : (flat : List Float) → P flat → (o : Option Candidate) → fit_on d flat ≡ o → Good (judged d t flat o)
  unfolding judged
  judged_good flat h none e = tt
  judged_good flat h (some f) e = go (largest_within t f.distances) refl
    where
      go : (b : Bool) → largest_within t f.distances ≡ b → Good (cond b (fitted f) (going_on (next_knots d t flat f)))
      go true w = record { flat = flat; has = h; own = e; close = w }
      go false w = next_good (next_knots d t flat f) (λ all q. keeps flat all f h q)

  round_good : (s : Refining) → Good s → Good (refinement_round d t s)
  unfolding refinement_round
  round_good (going flat) h = judged_good flat h (fit_on d flat) refl
  round_good (fitted f) h = h
  round_good stuck h = h

  rounds_good : (k : ℕ) (s : Refining) → Good s → Good (refinement_rounds d t k s)
  unfolding refinement_rounds
  rounds_good zero s h = h
  rounds_good (suc k) s h = rounds_good k (refinement_round d t s) (round_good s h)

  in_good : (s : Refining) → Good s → (f : Candidate) → fit_in s ≡ some f → Refined d t P f
  unfolding fit_in
  in_good (going k) h f e = absurd (cc)
  in_good (fitted g) h f e = let q : g ≡ f = cc in subst (Refined d t P) q h
  in_good stuck h f e = absurd (cc)

  pub refined_on : P (bezier_knots d.degree) → (f : Candidate) → fit_with_refined_knots d t ≡ some f → Refined d t P f
  unfolding fit_with_refined_knots
  refined_on h f e = in_good _ (rounds_good (length d.params) (going (bezier_knots d.degree)) h) f e

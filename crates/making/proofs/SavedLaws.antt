-- A refined fit that is put by while the spread search runs below it: what is put back is the fit itself. Assumes nothing.
use mathlib.Core.Path.{◌≡◌, refl, sym, ap, ◌∙◌}
use mathlib.Core.List.{List, ◌++◌}
use mathlib.Core.Option.{some}
use Prim.Native.Nat.{ℕ, ◌-◌, ◌*◌, ◌≤◌}
use native.Mathlib.Omega.{arith}
use lib.ListN.{length, take, drop, length-append, length-drop}
use lib.Seq.{length-take-le, take_at}
use lib.Ieee.{Float}
use Rattle.std.specs.Prelude.{Option, Some, None, Ok}
use Rattle.tables.specs.declared.Measured.{Measured}
use Rattle.tables.specs.Directions.{Direction}
use Rattle.tables.specs.Measures.{measured}
use Rattle.fitting.specs.declared.Job.{Job}
use Rattle.fitting.specs.declared.Mark.TheVariants.{Refined, Spread}
use Rattle.fitting.specs.declared.room.Regions.{Regions}
use Rattle.checks.specs.declared.Call.TheVariants.{SearchSpread}
use Rattle.fitting.specs.Flat.{flat_of}
use Rattle.fitting.specs.Within.{Candidate, refined, candidate, table_on, pole_count, fit_on_spread_knots, fewer_or, fit_within_fewest}
use Rattle.fitting.specs.Jobs.{HasRegions, HasKnots, direction_of, poles_in, candidate_in, attempted, spread_in, RefinesWithin, SpreadsBelow}
use Rattle.making.specs.declared.saved.SavedFit.{SavedFit}
use Rattle.making.specs.Results.{fit_by}
use Rattle.making.specs.Runs.{marked_as, Makes, Made}
use Rattle.making.specs.Saving.{Saved, Restored}
use Rattle.making.proofs.MakeLaws.{stands, makes_same}

-- ---- what is copied to the front of a list

pub front-copied : (n : ℕ) (xs ys : List Float) → length xs ≡ n → take n (xs ++ drop n ys) ≡ xs
front-copied n xs ys h = take_at xs (drop n ys) n h

pub length-copied : (n : ℕ) (xs ys : List Float) → length xs ≡ n → n ≤ length ys → length (xs ++ drop n ys) ≡ length ys
length-copied n xs ys h k = simp (length-append, length-drop) (omega arith)

pub ruleset copied = (front-copied, length-copied, length-take-le)

-- the places of the poles on l flat knots
abbrev pole_places : Job → ℕ → ℕ
pole_places j l = 3 * (j.lines.lines * (l - j.degree - 1))

-- ---- the search below the fit

module _ {j : Job} {g : Regions} (has : HasRegions j g) (knots : HasKnots j g.knots.count) where
  abbrev d : Direction
  d = direction_of j

  abbrev fit : Candidate
  fit = candidate_in j g

  pole-count : pole_count j.degree (flat_of g.knots) ≡ g.knots.count - j.degree - 1
  pole-count =
      let places = has.flat in
      let most = knots.most in
      let n : length (flat_of g.knots) ≡ g.knots.count = length-take-le g.knots.count g.knots.places.now (omega (arith, places, most)) in
      omega (arith, n)

  module _ {t : Float} {g₂ : Regions} {r : Option Measured} (x : SpreadsBelow j t (g.knots.count - j.degree - 1) g₂ r) where
    fewer_is : fewer_or d t (some fit) ≡ spread_in (refined fit) r (g₂.knots.count - j.degree - 1) (candidate_in j g₂)
    unfolding fewer_or candidate_in candidate direction_of
    fewer_is = ap (λ (n : ℕ). fit_on_spread_knots d t n (refined fit)) pole-count ∙ x.answer (refined fit)

    pub fewer_met : {y : Measured} → r ≡ Some y → Makes j (Ok (fewer_or d t (some fit))) g₂ (Ok (record { mark = Spread y.largest; unreadable = y.unreadable }))
    unfolding spread_in marked_as
    fewer_met {y} e =
        stands (Spread y.largest) y
        (ap Ok (fewer_is ∙ ap (λ (b : Option Measured). spread_in (refined fit) b (g₂.knots.count - j.degree - 1) (candidate_in j g₂)) e)) refl
        (rw e at x.reaches.measures) (rw e at x.reaches.few) x.reaches.regions

    module _ {s s' : SavedFit} {g₃ : Regions} (put : Saved s s' (pole_places j g.knots.count) g) (back : Restored s' g₂ g₃) where
      same-count : g₃.knots.count ≡ g.knots.count
      same-count = back.count ∙ put.knots

      poles-back : poles_in j g₃ ≡ poles_in j g
      poles-back = let p = rw put.places at back.poles in rw same-count (p ∙ put.poles)

      fit-back : candidate_in j g₃ ≡ fit
      unfolding candidate_in
      fit-back =
          ap (λ (v : List Float). candidate d v (table_on d v) (poles_in j g₃)) (back.flat ∙ put.flat)
          ∙ ap (candidate d (flat_of g.knots) (table_on d (flat_of g.knots))) poles-back

      has_back : HasRegions j g₃
      has_back =
          let h = x.reaches.regions in
          record {
            degree = rw back.table h.degree;
            flat = back.flat_long ∙ h.flat;
            firsts = rw back.table h.firsts;
            values = rw back.table h.values;
            band = back.band ∙ h.band;
            poles = back.poles_long ∙ h.poles;
            curve = back.curve ∙ h.curve;
            squares = back.squares ∙ h.squares;
            fresh = back.fresh ∙ h.fresh;
          }

      pub fewer_missed : r ≡ None → {y : Measured} → y ≡ measured fit.distances
          → Makes j (Ok (fewer_or d t (some fit))) g₃ (Ok (record { mark = Refined y.largest; unreadable = y.unreadable }))
      unfolding spread_in marked_as
      fewer_missed e {y} m =
          stands (Refined y.largest) y
          (ap Ok (fewer_is ∙ ap (λ (b : Option Measured). spread_in (refined fit) b (g₂.knots.count - j.degree - 1) (candidate_in j g₂)) e ∙ ap refined (sym fit-back))) refl
          (m ∙ ap (λ (f : Candidate). measured f.distances) (sym fit-back)) (rw same-count knots) has_back

-- ---- after refinement

module _ {j : Job} {t : Float} {g : Regions} {r : Option Measured} (x : RefinesWithin j t g r) where
  fewest_is : fit_within_fewest (direction_of j) t ≡ fewer_or (direction_of j) t (attempted r (candidate_in j g))
  unfolding fit_within_fewest
  fewest_is = ap (fewer_or (direction_of j) t) x.answer

  pub fewest_missed : r ≡ None → {g' : Regions} {a : Made} → Makes j (fit_by (SearchSpread t) (direction_of j)) g' a → Makes j (Ok (fit_within_fewest (direction_of j) t)) g' a
  unfolding fit_by attempted fewer_or
  fewest_missed e y = makes_same (ap Ok (fewest_is ∙ ap (λ (b : Option Measured). fewer_or (direction_of j) t (attempted b (candidate_in j g))) e)) y

  pub fewest_met : (y : Measured) → r ≡ Some y → {g' : Regions} {a : Made} → Makes j (Ok (fewer_or (direction_of j) t (some (candidate_in j g)))) g' a
      → Makes j (Ok (fit_within_fewest (direction_of j) t)) g' a
  unfolding attempted
  fewest_met y e z = makes_same (ap Ok (fewest_is ∙ ap (λ (b : Option Measured). fewer_or (direction_of j) t (attempted b (candidate_in j g))) e)) z

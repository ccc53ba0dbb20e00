-- Demand 3 of the definitions: nothing marked refined or spread has a deviation above the tolerance, a spread count passes and the one below it fails,
-- an interpolated fit follows a refinement that gave none and a largest count that fails; and a larger tolerance takes the spread search alone to no more
-- poles. Assumes nothing.
use mathlib.Core.Path.{◌≡◌, refl, sym, ◌∙◌, ap, subst}
use mathlib.Core.Bool.{true, true≢false}
use mathlib.Core.List.{List}
use mathlib.Core.Option.{Option as Maybe, none, some}
use Rattle.std.specs.Prelude.{Option, Some, None}
use Prim.Native.Nat.{ℕ, ◌-◌, ◌<◌, ◌≤◌}
use native.Mathlib.Omega.{arith}
use lib.ListN.{length}
use lib.Ieee.{Float, le}
use Rattle.knots.specs.Knots.{averaged_knot, averaged_knots, spread_knot, approximation_knots}
use Rattle.knots.proofs.KnotLaws.{length_clamped}
use Rattle.tables.specs.BasisTable.{BasisTable}
use Rattle.tables.specs.Deviations.{largest_within}
use Rattle.tables.specs.Directions.{Direction, ladder, grid_rows, grid_columns}
use Rattle.search.specs.Search.{fewest}
use Rattle.fitting.specs.Within.{Candidate, Marked, refined, spread, interpolated, chosen, pole_count, candidate, candidate_of, fit_on, fit_on_spread, interpolate, fit_with_refined_knots, candidate_passes, passes_on_spread, spread_or, found_or, fit_on_spread_knots, spread_alone, refined_or, fit_within, fewer_or, fit_within_fewest}
use Rattle.fitting.specs.Tolerance.{NoneAbove, Fails, KeepsTolerance}
use Rattle.fitting.specs.Marks.{unmarked}
use Rattle.search.proofs.Fewest.{IsFound, found, nothing, fewest_monotone}
use Rattle.fitting.proofs.RefinedLaws.{refined_on}
use Rattle.fitting.proofs.DeviationLaws.{all_none, all_mono, largest-none, largest_mono}

-- what a direction's test has to keep for demand 3
pub record Lawful (d : Direction) : Type 0 where
  pub close : (t : Float) (ds : List Float) → d.within t ds ≡ true → NoneAbove t ds
  pub rises : (t u : Float) (ds : List Float) → le t u ≡ true → d.within t ds ≡ true → d.within u ds ≡ true

-- the three kinds
pub ladder_lawful : (x : Float) (s : List Float) (degree : ℕ) (params : List Float) → Lawful (ladder x s degree params)
unfolding ladder
ladder_lawful x s degree params = record { close = all_none; rises = all_mono }

pub rows_lawful : (x : Float) (s : List Float) (rows degree : ℕ) (params : List Float) → Lawful (grid_rows x s rows degree params)
unfolding grid_rows
rows_lawful x s rows degree params = record { close = λ t ds h. (largest-none t ds h).1; rises = largest_mono }

pub columns_lawful : (x : Float) (s : List Float) (v : BasisTable) (columns : ℕ) (row_poles : List Float) (degree : ℕ) (params : List Float) → Lawful (grid_columns x s v columns row_poles degree params)
unfolding grid_columns
columns_lawful x s v columns row_poles degree params = record { close = λ t ds h. (largest-none t ds h).1; rises = largest_mono }

-- ---- the marks are told apart
abbrev mark_number : Marked → ℕ
mark_number (refined f) = 0
mark_number (spread c f) = 1
mark_number (interpolated f) = 2
mark_number (chosen f) = 3

other_mark : (a b : Marked) → mark_number a < mark_number b → a ≡ b → ⊥
other_mark a b h e = let m : mark_number a ≡ mark_number b = ap mark_number e in omega arith

-- ---- refinement gives only what is within
pub refined_close : (d : Direction) (t : Float) (f : Candidate) → fit_with_refined_knots d t ≡ some f → largest_within t f.distances ≡ true
refined_close d t f e = (refined_on d t (λ flat. Unit {0}) (λ flat all g h q. tt) tt f e).close

-- what is shown of a fit on spread knots of c poles
pub record IsSpread (d : Direction) (t : Float) (c : ℕ) (f : Candidate) : Type 0 where
  pub own : fit_on_spread d c ≡ some f
  pub close : NoneAbove t f.distances
  pub passed : passes_on_spread d t c ≡ true
  pub least : Fails d t (c - 1)

-- pole counts
abbrev pub poles_of : ℕ → Marked → ℕ
poles_of degree a = pole_count degree (unmarked a).flat

pub poles-spread : (params : List Float) (c p : ℕ) → pole_count p (approximation_knots params c p) ≡ c
unfolding approximation_knots
poles-spread params c p = omega (arith, length_clamped c p (spread_knot params c p))

pub poles-interpolated : (d : Direction) → poles_of d.degree (interpolated (interpolate d)) ≡ length d.params
unfolding interpolate candidate averaged_knots unmarked
poles-interpolated d = omega (arith, length_clamped (length d.params) d.degree (averaged_knot d.params d.degree))

module _ (d : Direction) (lawful : Lawful d) where
  -- the search's answer by its two cases
  pub search_cases : (Q : Marked → Type 0) (other : Marked) (last : ℕ) (t : Float)
      → ((c : ℕ) (f : Candidate) → c < last → IsSpread d t c f → Q (spread c f))
      → (Fails d t (last - 1) → Q other)
      → Q (fit_on_spread_knots d t last other)
  unfolding fit_on_spread_knots found_or spread_or passes_on_spread candidate_passes
  search_cases Q other last t a b = go (fewest (passes_on_spread d t) d.degree last) refl
    where
      fit : (c : ℕ) (o : Maybe Candidate) → fit_on_spread d c ≡ o → IsFound (passes_on_spread d t) d.degree last c → Q (spread_or other c o)
      fit c none e h = absurd (true≢false (sym h.passed ∙ ap (candidate_passes d t) e))
      fit c (some f) e h =
          a c f h.below
          (record {
            own = e;
            close = lawful.close t f.distances (sym (ap (candidate_passes d t) e) ∙ h.passed);
            passed = h.passed;
            least = h.failed-below;
          })

      go : (r : Option ℕ) → fewest (passes_on_spread d t) d.degree last ≡ r → Q (found_or d other r)
      go None e = b (nothing (passes_on_spread d t) d.degree last e)
      go (Some c) e = fit c (fit_on_spread d c) refl (found (passes_on_spread d t) d.degree last c e)

  kept-refined : (t : Float) (r : Maybe Candidate) (f : Candidate) → largest_within t f.distances ≡ true → KeepsTolerance d t r (refined f)
  kept-refined t r f h =
      record {
        refined_within = λ g e. let q : f ≡ g = cc in subst (λ (x : Candidate). NoneAbove t x.distances) q (largest-none t f.distances h).1;
        spread_within = λ c g e. absurd (other_mark (refined f) (spread c g) (omega arith) e);
        spread_passes = λ c g e. absurd (other_mark (refined f) (spread c g) (omega arith) e);
        one_below_fails = λ c g e. absurd (other_mark (refined f) (spread c g) (omega arith) e);
        interpolated_stuck = λ g e. absurd (other_mark (refined f) (interpolated g) (omega arith) e);
        interpolated_last = λ g e. absurd (other_mark (refined f) (interpolated g) (omega arith) e);
      }

  kept-spread : (t : Float) (r : Maybe Candidate) (c : ℕ) (f : Candidate) → IsSpread d t c f → KeepsTolerance d t r (spread c f)
  kept-spread t r c f h =
      record {
        refined_within = λ g e. absurd (other_mark (refined g) (spread c f) (omega arith) (sym e));
        spread_within = λ n g e. let q : f ≡ g = cc in subst (λ (x : Candidate). NoneAbove t x.distances) q h.close;
        spread_passes = λ n g e. let q : c ≡ n = cc in rw (← q) h.passed;
        one_below_fails = λ n g e. let q : c ≡ n = cc in rw (← q) h.least;
        interpolated_stuck = λ g e. absurd (other_mark (spread c f) (interpolated g) (omega arith) e);
        interpolated_last = λ g e. absurd (other_mark (spread c f) (interpolated g) (omega arith) e);
      }

  kept-interpolated : (t : Float) (f : Candidate) → Fails d t (length d.params - 1) → KeepsTolerance d t none (interpolated f)
  kept-interpolated t f l =
      record {
        refined_within = λ g e. absurd (other_mark (refined g) (interpolated f) (omega arith) (sym e));
        spread_within = λ c g e. absurd (other_mark (spread c g) (interpolated f) (omega arith) (sym e));
        spread_passes = λ c g e. absurd (other_mark (spread c g) (interpolated f) (omega arith) (sym e));
        one_below_fails = λ c g e. absurd (other_mark (spread c g) (interpolated f) (omega arith) (sym e));
        interpolated_stuck = λ g e. refl;
        interpolated_last = λ g e. l;
      }

  -- demand 3 for the spread search alone
  pub alone-kept : (t : Float) → KeepsTolerance d t none (spread_alone d t)
  unfolding spread_alone
  alone-kept t =
      search_cases (KeepsTolerance d t none) (interpolated (interpolate d)) (length d.params) t (λ c f b h. kept-spread t none c f h) (λ l. kept-interpolated t (interpolate d) l)

  -- demand 3 for `fit_within`: a ladder
  pub within-kept : (t : Float) → KeepsTolerance d t (fit_with_refined_knots d t) (fit_within d t)
  unfolding fit_within refined_or
  within-kept t = go (fit_with_refined_knots d t) refl
    where
      go : (o : Maybe Candidate) → fit_with_refined_knots d t ≡ o → KeepsTolerance d t o (refined_or d t o)
      go none r = alone-kept t
      go (some f) r = kept-refined t (some f) f (refined_close d t f r)

  -- demand 3 for `fit_within_fewest`: a grid's direction
  pub within-fewest-kept : (t : Float) → KeepsTolerance d t (fit_with_refined_knots d t) (fit_within_fewest d t)
  unfolding fit_within_fewest fewer_or
  within-fewest-kept t = go (fit_with_refined_knots d t) refl
    where
      go : (o : Maybe Candidate) → fit_with_refined_knots d t ≡ o → KeepsTolerance d t o (fewer_or d t o)
      go none r = alone-kept t
      go (some f) r =
          search_cases (KeepsTolerance d t (some f)) (refined f) (pole_count d.degree f.flat) t (λ c g b h. kept-spread t (some f) c g h) (λ l. kept-refined t (some f) f (refined_close d t f r))

  -- ---- two tolerances
  passes-rises : (t u : Float) → le t u ≡ true → (c : ℕ) → passes_on_spread d t c ≡ true → passes_on_spread d u c ≡ true
  unfolding passes_on_spread candidate_passes
  passes-rises t u h c = go (fit_on_spread d c)
    where
      go : (o : Maybe Candidate) → candidate_passes d t o ≡ true → candidate_passes d u o ≡ true
      go none e = e
      go (some f) e = lawful.rises t u f.distances h e

  alone_at : (t : Float) (c : ℕ) → fewest (passes_on_spread d t) d.degree (length d.params) ≡ Some c → (f : Candidate) × (spread_alone d t ≡ spread c f)
  unfolding spread_alone fit_on_spread_knots found_or spread_or passes_on_spread candidate_passes
  alone_at t c e = go (fit_on_spread d c) refl
    where
      go : (o : Maybe Candidate) → fit_on_spread d c ≡ o → (f : Candidate) × (found_or d (interpolated (interpolate d)) (fewest (passes_on_spread d t) d.degree (length d.params)) ≡ spread c f)
      go none o = absurd (true≢false (sym (found (passes_on_spread d t) d.degree (length d.params) c e).passed ∙ ap (candidate_passes d t) o))
      go (some f) o = (f, ap (found_or d (interpolated (interpolate d))) e ∙ ap (spread_or (interpolated (interpolate d)) c) o)

  alone-nothing : (t : Float) → fewest (passes_on_spread d t) d.degree (length d.params) ≡ None → spread_alone d t ≡ interpolated (interpolate d)
  unfolding spread_alone fit_on_spread_knots found_or
  alone-nothing t e = ap (found_or d (interpolated (interpolate d))) e

  alone-found : (t : Float) (c : ℕ) (f : Candidate) → spread_alone d t ≡ spread c f → fewest (passes_on_spread d t) d.degree (length d.params) ≡ Some c
  alone-found t c f e = go (fewest (passes_on_spread d t) d.degree (length d.params)) refl
    where
      go : (r : Option ℕ) → fewest (passes_on_spread d t) d.degree (length d.params) ≡ r → fewest (passes_on_spread d t) d.degree (length d.params) ≡ Some c
      go None r = absurd (other_mark (spread c f) (interpolated (interpolate d)) (omega arith) (sym e ∙ alone-nothing t r))
      go (Some n) r = let a = alone_at t n r in let s : spread n a.0 ≡ spread c f = sym a.1 ∙ e in let q : n ≡ c = cc in r ∙ ap Some q

  -- where the first tolerance gives a fit on spread knots so does the second, over no more poles
  pub spread_again : (t u : Float) → le t u ≡ true → (c : ℕ) (f : Candidate) → spread_alone d t ≡ spread c f
      → (n : ℕ) × ((g : Candidate) × ((spread_alone d u ≡ spread n g) × (n ≤ c)))
  spread_again t u h c f e =
      let m = fewest_monotone (passes_on_spread d t) (passes_on_spread d u) (passes-rises t u h) d.degree (length d.params) c (alone-found t c f e) in
      let a = alone_at u m.0 m.1 in
      (m.0, (a.0, (a.1, m.2)))

  -- a fit on spread knots has the poles of its count, and an interpolation as many as there are parameters
  private-flat : (flat : List Float) (t : BasisTable) (o : Maybe (List Float)) (f : Candidate) → candidate_of d flat t o ≡ some f → f.flat ≡ flat
  unfolding candidate_of candidate
  private-flat flat t none f e = absurd (cc)
  private-flat flat t (some poles) f e = let q : candidate d flat t poles ≡ f = cc in sym (ap (λ (x : Candidate). x.flat) q)

  pub spread-flat : (c : ℕ) (f : Candidate) → fit_on_spread d c ≡ some f → f.flat ≡ approximation_knots d.params c d.degree
  unfolding fit_on_spread fit_on
  spread-flat c f e = private-flat (approximation_knots d.params c d.degree) _ _ f e

  alone-poles : (t : Float) (c : ℕ) → fewest (passes_on_spread d t) d.degree (length d.params) ≡ Some c → poles_of d.degree (spread_alone d t) ≡ c
  unfolding spread_alone unmarked
  alone-poles t c e =
      search_cases (λ (a : Marked). spread_alone d t ≡ a → poles_of d.degree a ≡ c) (interpolated (interpolate d)) (length d.params) t
      (λ n f b h q. let a = alone_at t c e in let s : spread c a.0 ≡ spread n f = sym a.1 ∙ q in let k : c ≡ n = cc in rw (spread-flat n f h.own, poles-spread d.params n d.degree) (sym k))
      (λ l q. absurd (other_mark (spread c (alone_at t c e).0) (interpolated (interpolate d)) (omega arith) (sym (alone_at t c e).1 ∙ q)))
      refl

  alone_all : (t : Float) → fewest (passes_on_spread d t) d.degree (length d.params) ≡ None → poles_of d.degree (spread_alone d t) ≡ length d.params
  alone_all t e = ap (poles_of d.degree) (alone-nothing t e) ∙ poles-interpolated d

  -- in any case the second has no more poles than the first
  pub no_more : (t u : Float) → le t u ≡ true → poles_of d.degree (spread_alone d u) ≤ poles_of d.degree (spread_alone d t)
  no_more t u h = go (fewest (passes_on_spread d t) d.degree (length d.params)) refl (fewest (passes_on_spread d u) d.degree (length d.params)) refl
    where
      go : (r : Option ℕ) → fewest (passes_on_spread d t) d.degree (length d.params) ≡ r → (s : Option ℕ) → fewest (passes_on_spread d u) d.degree (length d.params) ≡ s
          → poles_of d.degree (spread_alone d u) ≤ poles_of d.degree (spread_alone d t)
      go None r None s = omega (arith, alone_all t r, alone_all u s)
      go None r (Some n) s = let b = (found (passes_on_spread d u) d.degree (length d.params) n s).below in omega (arith, alone_all t r, alone-poles u n s)
      go (Some c) r s e =
          let m = fewest_monotone (passes_on_spread d t) (passes_on_spread d u) (passes-rises t u h) d.degree (length d.params) c r in
          omega (arith, alone-poles t c r, alone-poles u m.0 m.1, m.2)

-- The ladder calls: their refusals, answers, and each place of each lent slice at exit. Definitions only.
use Rattle.std.specs.Prelude.{ℕ, ◌+◌, ◌-◌, ◌*◌, ◌≤◌, ◌≡◌, true, List, length, take, Result, Ok, Err, Float}
use Rattle.std.proofs.Math.Option.{Option, none, some}
use Rattle.std.specs.Float.Ieee.{le}
use Rattle.places.specs.Places.{laid}
use Rattle.geometry.specs.Doubles.{nought, at}
use Rattle.geometry.specs.Points.{point_at}
use Rattle.bspline.specs.declared.Refusal.TheVariants.{ConfusedPoints}
use Rattle.bspline.specs.Refusals.{◌next◌}
use Rattle.bspline.specs.Reader.{number_in}
use Rattle.bspline.specs.declared.Refusal.{Refusal}
use Rattle.knots.specs.declared.Metric.{Metric}
use Rattle.knots.specs.Parameters.{point_parameters}
use Rattle.knots.specs.Knots.{distinct_knots, knot_at, multiplicity_at}
use Rattle.tables.specs.BasisTable.{basis_table}
use Rattle.tables.specs.Deviations.{ladder_distances}
use Rattle.tables.specs.Directions.{Direction, ladder}
use Rattle.fitting.specs.declared.Mark.TheVariants.{Refined, Spread, Interpolated}
use Rattle.fitting.specs.declared.Fit.{Fit}
use Rattle.checks.specs.declared.Call.{Call}
use Rattle.checks.specs.declared.Call.TheVariants.{Interpolate, Approximate, ApproximateWithin, SearchSpread}
use Rattle.fitting.specs.Within.{Candidate, fit_with_refined_knots, passes_on_spread}
use Rattle.fitting.specs.Marks.{unmarked, fit_of}
use Rattle.fitting.specs.Tolerance.{NoneAbove, Fails, params_or}
use Rattle.checks.specs.LadderChecks.{Lent, point_count, ladder_checks, cleared}
use Rattle.making.specs.Results.{FitResult, fit_by}

-- ---- what comes of a ladder that passes the checks: 5, then 6, or a fit

-- with the parameters, or 5 where neighbours are confused
unfoldable pub fit_with : Float → List Float → ℕ → (Direction → FitResult) → Option (List Float) → FitResult
fit_with f s degree fit none = Err ConfusedPoints
fit_with f s degree fit (some params) = fit (ladder f s degree params)

unfoldable pub ladder_fit : Metric → List Float → ℕ → (Direction → FitResult) → FitResult
ladder_fit v s degree fit = fit_with v.factor s degree fit (point_parameters v (point_count s) (point_at s))

unfoldable pub result_of : Call → List Float → ℕ → Metric → Lent → FitResult
result_of call s degree v l = (ladder_checks call s degree v l next ladder_fit v s degree (fit_by call))

-- ---- what is handed back

-- the answer
abbrev pub Answer : Type 0
Answer = Result Fit Refusal

unfoldable pub answer_of : ℕ → FitResult → Answer
answer_of degree (Err c) = Err c
answer_of degree (Ok a) = Ok (fit_of degree a)

-- an output slice: as lent after a refusal, else g's values in its first n places, and the places beyond as lent
unfoldable pub handed : {A : Type 0} → (Candidate → ℕ) → (Candidate → ℕ → A) → FitResult → List A → List A
handed n g (Err c) xs = xs
handed n g (Ok a) xs = laid 0 (n (unmarked a)) (g (unmarked a)) xs

-- the four output slices
abbrev pub handed_poles : FitResult → List Float → List Float
handed_poles = handed (λ f. length f.poles) (λ f. at f.poles)

abbrev pub handed_flat : FitResult → List Float → List Float
handed_flat = handed (λ f. length f.flat) (λ f. at f.flat)

abbrev pub handed_knots : FitResult → List Float → List Float
handed_knots = handed (λ f. distinct_knots f.flat) (λ f. knot_at f.flat)

abbrev pub handed_mults : FitResult → List ℕ → List ℕ
handed_mults = handed (λ f. distinct_knots f.flat) (λ f. multiplicity_at f.flat)

-- the answer and the output slices. The slices are l as lent and l' at exit.
pub record HandsOut (degree : ℕ) (fit : FitResult) (l l' : Lent) (r : Answer) : Type 0 where
  pub answer : r ≡ answer_of degree fit
  pub poles : l'.poles ≡ handed_poles fit l.poles
  pub flat : l'.flat ≡ handed_flat fit l.flat
  pub knots : l'.knots ≡ handed_knots fit l.knots
  pub mults : l'.mults ≡ handed_mults fit l.mults

-- The contract of a ladder call.
pub record LadderCall (call : Call) (s : List Float) (degree : ℕ) (v : Metric) (l l' : Lent) (r : Answer) : Type 0 where
  pub hands : HandsOut degree (result_of call s degree v l) l l' r
  pub number : number_in r ≡ number_in (result_of call s degree v l)
  pub work : l'.work ≡ cleared nought (ladder_checks call s degree v l) l.work
  pub index : l'.index ≡ cleared 0 (ladder_checks call s degree v l) l.index

-- the ladder with its parameters; where there are none, with no parameters
unfoldable pub ladder_of : Metric → List Float → ℕ → Direction
ladder_of v s degree = ladder v.factor s degree (params_or (point_parameters v (point_count s) (point_at s)))

-- Demand 3 of what a ladder call hands out: the deviations are those of the knots and poles that stand in the output slices at exit.
-- `refinement` is none where the call has no refinement.
module _ (v : Metric) (s : List Float) (degree : ℕ) where
  abbrev pub handed_distances : Fit → Lent → List Float
  handed_distances f l =
      ladder_distances v.factor (basis_table (take (f.poles + degree + 1) l.flat) degree (ladder_of v s degree).params) (take (3 * f.poles) l.poles) s

  pub record LadderKept (t : Float) (refinement : Option Candidate) (l' : Lent) (r : Answer) : Type 0 where
    pub refined_within : (f : Fit) (x : Float) → r ≡ Ok f → f.mark ≡ Refined x → NoneAbove t (handed_distances f l')
    pub spread_within : (f : Fit) (x : Float) → r ≡ Ok f → f.mark ≡ Spread x → NoneAbove t (handed_distances f l')
    pub spread_passes : (f : Fit) (x : Float) → r ≡ Ok f → f.mark ≡ Spread x → passes_on_spread (ladder_of v s degree) t f.poles ≡ true
    pub one_below_fails : (f : Fit) (x : Float) → r ≡ Ok f → f.mark ≡ Spread x → Fails (ladder_of v s degree) t (f.poles - 1)
    pub interpolated_stuck : (f : Fit) (x : Float) → r ≡ Ok f → f.mark ≡ Interpolated x → refinement ≡ none
    pub interpolated_last : (f : Fit) (x : Float) → r ≡ Ok f → f.mark ≡ Interpolated x → Fails (ladder_of v s degree) t (point_count s - 1)

-- ---- the contracts

-- `interpolate`
pub record Interpolates (s : List Float) (degree : ℕ) (v : Metric) (l l' : Lent) (r : Answer) : Type 0 where
  pub call : LadderCall Interpolate s degree v l l' r

-- `approximate`, with a chosen pole count
pub record Approximates (s : List Float) (degree count : ℕ) (v : Metric) (l l' : Lent) (r : Answer) : Type 0 where
  pub call : LadderCall (Approximate count) s degree v l l' r

-- `approximate_within`, with demand 3
pub record ApproximatesWithin (s : List Float) (degree : ℕ) (t : Float) (v : Metric) (l l' : Lent) (r : Answer) : Type 0 where
  pub call : LadderCall (ApproximateWithin t) s degree v l l' r
  pub kept : LadderKept v s degree t (fit_with_refined_knots (ladder_of v s degree) t) l' r

-- the spread search alone, with demand 3
pub record SearchesSpread (s : List Float) (degree : ℕ) (t : Float) (v : Metric) (l l' : Lent) (r : Answer) : Type 0 where
  pub call : LadderCall (SearchSpread t) s degree v l l' r
  pub kept : LadderKept v s degree t none l' r

-- The second half of demand 3: two calls of the spread search alone on the same ladder and with the same slices lent, the first tolerance at or below the second.
abbrev pub SpreadNeverMorePoles : Type 0
SpreadNeverMorePoles =
    (s : List Float) (degree : ℕ) (v : Metric) (t t' : Float) (l l₁ l₂ : Lent) (r₁ r₂ : Answer) (f₁ : Fit)
    → SearchesSpread s degree t v l l₁ r₁ → SearchesSpread s degree t' v l l₂ r₂ → le t t' ≡ true → r₁ ≡ Ok f₁
    → (f₂ : Fit) × ((r₂ ≡ Ok f₂) × ((f₂.poles ≤ f₁.poles) × ((x : Float) → f₁.mark ≡ Spread x → (y : Float) × (f₂.mark ≡ Spread y))))

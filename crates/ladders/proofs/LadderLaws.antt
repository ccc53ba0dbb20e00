-- Demand 3 of what a ladder call hands out follows from the rest of its contract, whatever the program. Assumes nothing.
use mathlib.Core.Path.{◌≡◌, refl, sym, ◌∙◌, ap, subst}
use mathlib.Core.Bool.{true}
use mathlib.Core.List.{List}
use mathlib.Core.Option.{Option, none, some}
use Prim.Native.Nat.{ℕ, ◌+◌, ◌-◌, ◌*◌, ◌≤◌}
use native.Mathlib.Omega.{arith}
use lib.ListN.{length, take}
use lib.Ieee.{Float, le}
use Rattle.places.specs.Places.{laid, some_below}
use Rattle.geometry.specs.declared.Point.{Point}
use Rattle.geometry.specs.Doubles.{◌⊗◌, ◌⊘◌, one, at, largest}
use Rattle.geometry.specs.Points.{point_at}
use Rattle.bspline.specs.declared.Refusal.{Refusal}
use Rattle.bspline.specs.declared.Refusal.TheVariants.{ConfusedPoints}
use Rattle.knots.specs.declared.Metric.{Metric}
use Rattle.knots.specs.Parameters.{confusion, chords, step_sums, from_zero_to_one, point_parameters}
use Rattle.knots.proofs.ParameterLaws.{unless-some, length-zero_to-one}
use Rattle.tables.specs.BasisTable.{basis_table}
use Rattle.tables.specs.Deviations.{ladder_distances}
use Rattle.tables.specs.Directions.{Direction, ladder}
use Rattle.fitting.specs.declared.Mark.TheVariants.{Refined, Spread, Interpolated}
use Rattle.fitting.specs.declared.Fit.{Fit}
use Rattle.fitting.specs.Within.{Candidate, Marked, refined, spread, pole_count, fit_with_refined_knots, refined_or, fit_within, spread_alone, passes_on_spread}
use Rattle.fitting.specs.Marks.{unmarked, mark_of, fit_of}
use Rattle.fitting.specs.Tolerance.{NoneAbove, Fails, KeepsTolerance, params_or}
use Rattle.checks.proofs.CheckLaws.{checks_give, count_under}
use Rattle.checks.specs.declared.Call.{Call}
use Rattle.checks.specs.declared.Call.TheVariants.{ApproximateWithin, SearchSpread}
use Rattle.checks.specs.LadderChecks.{ladder_verdict, Lent, point_count, count_verdict, ladder_checks, room_of, Roomy}
use Rattle.making.specs.Results.{FitResult, fit_by}
use Rattle.ladders.specs.Ladders.{ladder_fit, fit_with, result_of, answer_of, handed, handed_flat, handed_poles, ladder_of, HandsOut, LadderCall, LadderKept, ApproximatesWithin, SearchesSpread, SpreadNeverMorePoles, Answer}
use Rattle.fitting.proofs.ToleranceLaws.{Lawful, ladder_lawful, alone-kept, within-kept, poles_of, no_more, spread_again}
use Rattle.making.proofs.HandedLaws.{From, taken, refined_from, refined_mark, spread_mark, interpolated_mark, alone_cases}
use Rattle.std.specs.Prelude.{Ok, Err}
use Rattle.bspline.specs.Refusals.{Verdict, pass, ◌next◌}

-- as many parameters as points
pub params-long : (v : Metric) (n : ℕ) (point : ℕ → Point) (params : List Float) → point_parameters v n point ≡ some params → length params ≡ n
unfolding point_parameters
params-long v n point params e =
    let ds : List Float = chords v.factor n point in
    let sums : List Float = step_sums v.spacing n ds in
    let g : ℕ → Float = λ k. at sums k ⊗ (one ⊘ at sums (n - 1)) in
    sym (ap length (unless-some (some_below (n - 1) (λ k. le (at ds k) confusion)) (from_zero_to_one n g) params e)) ∙ length-zero_to-one n g

-- `LadderKept`, over the direction and the distances that it speaks of
record LadderKeptBy (d : Direction) (distances : Fit → List Float) (refinement : Option Candidate) (t : Float) (n : ℕ) (r : Answer) : Type 0 where
  refined_within : (f : Fit) (x : Float) → r ≡ Ok f → f.mark ≡ Refined x → NoneAbove t (distances f)
  spread_within : (f : Fit) (x : Float) → r ≡ Ok f → f.mark ≡ Spread x → NoneAbove t (distances f)
  spread_passes : (f : Fit) (x : Float) → r ≡ Ok f → f.mark ≡ Spread x → passes_on_spread d t f.poles ≡ true
  one_below_fails : (f : Fit) (x : Float) → r ≡ Ok f → f.mark ≡ Spread x → Fails d t (f.poles - 1)
  interpolated_stuck : (f : Fit) (x : Float) → r ≡ Ok f → f.mark ≡ Interpolated x → refinement ≡ none
  interpolated_last : (f : Fit) (x : Float) → r ≡ Ok f → f.mark ≡ Interpolated x → Fails d t (n - 1)

-- what a way to fit a ladder within a tolerance keeps
pub record Keeps (t : Float) (refinement : Direction → Option Candidate) (fit : Direction → Marked) : Type 0 where
  pub kept : (d : Direction) → Lawful d → KeepsTolerance d t (refinement d) (fit d)
  pub from-refined : (d : Direction) → Lawful d → d.degree + 1 ≤ length d.params → (f : Candidate) → fit d ≡ refined f → From d f
  pub from-spread : (d : Direction) → Lawful d → (c : ℕ) (f : Candidate) → fit d ≡ spread c f → From d f × (pole_count d.degree f.flat ≡ c)

-- what the definitions say of each way through
stopped : (c : Refusal) (x : FitResult) (r : Answer) (degree : ℕ) → r ≡ answer_of degree (Err c next x) → r ≡ Err c
unfolding answer_of
stopped c x r degree e = e

confused : (factor : Float) (s : List Float) (degree : ℕ) (fit : Direction → FitResult) (r : Answer) → r ≡ answer_of degree (pass next (fit_with factor s degree fit none)) → r ≡ Err ConfusedPoints
unfolding answer_of fit_with
confused factor s degree fit r e = e

module _ (call : Call) (fit : Direction → Marked) (by : (d : Direction) → fit_by call d ≡ Ok (fit d)) (factor : Float) (s : List Float) (degree : ℕ) (params : List Float) where
  result_is : pass next (fit_with factor s degree (fit_by call) (some params)) ≡ Ok (fit (ladder factor s degree params))
  unfolding fit_with
  result_is = by (ladder factor s degree params)

  accepted-answer : (r : Answer) → r ≡ answer_of degree (pass next (fit_with factor s degree (fit_by call) (some params))) → r ≡ Ok (fit_of degree (fit (ladder factor s degree params)))
  unfolding answer_of
  accepted-answer r e = e ∙ ap (answer_of degree) result_is

  accepted-flat : (xs ys : List Float) → xs ≡ handed_flat (pass next (fit_with factor s degree (fit_by call) (some params))) ys
      → xs ≡ laid 0 (length (unmarked (fit (ladder factor s degree params))).flat) (at (unmarked (fit (ladder factor s degree params))).flat) ys
  unfolding handed
  accepted-flat xs ys e = e ∙ ap (λ (x : FitResult). handed_flat x ys) result_is

  accepted-poles : (xs ys : List Float) → xs ≡ handed_poles (pass next (fit_with factor s degree (fit_by call) (some params))) ys
      → xs ≡ laid 0 (length (unmarked (fit (ladder factor s degree params))).poles) (at (unmarked (fit (ladder factor s degree params))).poles) ys
  unfolding handed
  accepted-poles xs ys e = e ∙ ap (λ (x : FitResult). handed_poles x ys) result_is

module _ (v : Metric) (s : List Float) (degree : ℕ) (l l' : Lent) (r : Answer) (t : Float)
    (refinement : Direction → Option Candidate) (fit : Direction → Marked) (keeps : Keeps t refinement fit) where
  -- an accepted ladder: its parameters are there
  module _ (params : List Float) (n : length params ≡ point_count s) (under : degree + 1 ≤ point_count s) (room : Roomy (point_count s) degree (room_of l))
      (answer : r ≡ Ok (fit_of degree (fit (ladder v.factor s degree params))))
      (flat : l'.flat ≡ laid 0 (length (unmarked (fit (ladder v.factor s degree params))).flat) (at (unmarked (fit (ladder v.factor s degree params))).flat) l.flat)
      (poles : l'.poles ≡ laid 0 (length (unmarked (fit (ladder v.factor s degree params))).poles) (at (unmarked (fit (ladder v.factor s degree params))).poles) l.poles) where
    distances_of : Fit → List Float
    distances_of f = ladder_distances v.factor (basis_table (take (f.poles + degree + 1) l'.flat) degree params) (take (3 * f.poles) l'.poles) s

    -- what stands in the slices is the fit c
    private-handed : (c : Candidate) → unmarked (fit (ladder v.factor s degree params)) ≡ c → From (ladder v.factor s degree params) c → distances_of (fit_of degree (fit (ladder v.factor s degree params))) ≡ c.distances
    unfolding distances_of ladder fit_of
    private-handed c u h =
        let k = h.knots in
        let lo = h.has.low in
        let hi = h.has.high in
        let q = h.own.poles-long in
        let fs : length c.flat ≡ length k = ap length h.own.flat_is in
        let a : length c.flat - degree - 1 + degree + 1 ≡ length c.flat = omega arith in
        let b : 3 * (length c.flat - degree - 1) ≡ length c.poles = omega arith in
        let x : take (length c.flat - degree - 1 + degree + 1) l'.flat ≡ k = rw (a, flat, u) (taken c.flat l.flat (omega arith)) ∙ h.own.flat_is in
        let y : take (3 * (length c.flat - degree - 1)) l'.poles ≡ c.poles = rw (b, poles, u) (taken c.poles l.poles (omega arith)) in
        rw (u, x, y) (sym h.own.distances_are)

    handed-kept : LadderKeptBy (ladder v.factor s degree params) (distances_of) (refinement (ladder v.factor s degree params)) t (point_count s) r
    unfolding fit_of ladder unmarked
    handed-kept =
        let d = ladder v.factor s degree params in
        let k = keeps.kept d (ladder_lawful v.factor s degree params) in
        record {
          refined_within = λ f x e m.
              let q : fit_of degree (fit d) ≡ f = cc in
              let c = refined_mark (fit d) x (ap (λ (g : Fit). g.mark) q ∙ m) in
              subst (NoneAbove t) (sym (ap distances_of (sym q) ∙ private-handed c.0 (ap unmarked c.1) (keeps.from-refined d (ladder_lawful v.factor s degree params) (omega (arith, under)) c.0 c.1))) (k.refined_within c.0 c.1);
          spread_within = λ f x e m.
              let q : fit_of degree (fit d) ≡ f = cc in
              let c = spread_mark (fit d) x (ap (λ (g : Fit). g.mark) q ∙ m) in
              subst (NoneAbove t) (sym (ap distances_of (sym q) ∙ private-handed c.1.0 (ap unmarked c.1.1) (keeps.from-spread d (ladder_lawful v.factor s degree params) c.0 c.1.0 c.1.1).0)) (k.spread_within c.0 c.1.0 c.1.1);
          spread_passes = λ f x e m.
              let q : fit_of degree (fit d) ≡ f = cc in
              let c = spread_mark (fit d) x (ap (λ (g : Fit). g.mark) q ∙ m) in
              let p : f.poles ≡ c.0 = ap (λ (g : Fit). g.poles) (sym q) ∙ ap (λ (a : Marked). pole_count degree (unmarked a).flat) c.1.1 ∙ (keeps.from-spread d (ladder_lawful v.factor s degree params) c.0 c.1.0 c.1.1).1 in
              rw p (k.spread_passes c.0 c.1.0 c.1.1);
          one_below_fails = λ f x e m.
              let q : fit_of degree (fit d) ≡ f = cc in
              let c = spread_mark (fit d) x (ap (λ (g : Fit). g.mark) q ∙ m) in
              let p : f.poles ≡ c.0 = ap (λ (g : Fit). g.poles) (sym q) ∙ ap (λ (a : Marked). pole_count degree (unmarked a).flat) c.1.1 ∙ (keeps.from-spread d (ladder_lawful v.factor s degree params) c.0 c.1.0 c.1.1).1 in
              rw p (k.one_below_fails c.0 c.1.0 c.1.1);
          interpolated_stuck = λ f x e m.
              let q : fit_of degree (fit d) ≡ f = cc in
              let c = interpolated_mark (fit d) x (ap (λ (g : Fit). g.mark) q ∙ m) in
              k.interpolated_stuck c.0 c.1;
          interpolated_last = λ f x e m.
              let q : fit_of degree (fit d) ≡ f = cc in
              let c = interpolated_mark (fit d) x (ap (λ (g : Fit). g.mark) q ∙ m) in
              rw (← n) (k.interpolated_last c.0 c.1);
        }

  -- the same in the contract's words
  accepted-kept : (params : List Float) → point_parameters v (point_count s) (point_at s) ≡ some params → degree + 1 ≤ point_count s → Roomy (point_count s) degree (room_of l)
      → r ≡ Ok (fit_of degree (fit (ladder v.factor s degree params)))
      → l'.flat ≡ laid 0 (length (unmarked (fit (ladder v.factor s degree params))).flat) (at (unmarked (fit (ladder v.factor s degree params))).flat) l.flat
      → l'.poles ≡ laid 0 (length (unmarked (fit (ladder v.factor s degree params))).poles) (at (unmarked (fit (ladder v.factor s degree params))).poles) l.poles
      → LadderKept v s degree t (refinement (ladder_of v s degree)) l' r
  unfolding ladder_of distances_of ladder
  accepted-kept params p under room answer flat poles =
      let k = handed-kept params (params-long v (point_count s) (point_at s) params p) under room answer flat poles in
      let q : ladder v.factor s degree (params_or (point_parameters v (point_count s) (point_at s))) ≡ ladder v.factor s degree params = ap (λ (o : Option (List Float)). ladder v.factor s degree (params_or o)) p in
      record {
        refined_within = λ f x e m. rw p (k.refined_within f x e m);
        spread_within = λ f x e m. rw p (k.spread_within f x e m);
        spread_passes = λ f x e m. rw q (k.spread_passes f x e m);
        one_below_fails = λ f x e m. rw q (k.one_below_fails f x e m);
        interpolated_stuck = λ f x e m. rw q (k.interpolated_stuck f x e m);
        interpolated_last = λ f x e m. rw q (k.interpolated_last f x e m);
      }

  refused-kept : (c : Refusal) → r ≡ Err c → LadderKept v s degree t (refinement (ladder_of v s degree)) l' r
  refused-kept c e =
      record {
        refined_within = λ f x q m. let z : ◌≡◌ {A = ℕ} 0 1 = cc in absurd (omega arith);
        spread_within = λ f x q m. let z : ◌≡◌ {A = ℕ} 0 1 = cc in absurd (omega arith);
        spread_passes = λ f x q m. let z : ◌≡◌ {A = ℕ} 0 1 = cc in absurd (omega arith);
        one_below_fails = λ f x q m. let z : ◌≡◌ {A = ℕ} 0 1 = cc in absurd (omega arith);
        interpolated_stuck = λ f x q m. let z : ◌≡◌ {A = ℕ} 0 1 = cc in absurd (omega arith);
        interpolated_last = λ f x q m. let z : ◌≡◌ {A = ℕ} 0 1 = cc in absurd (omega arith);
      }

  -- who hands a call's result out keeps demand 3. The slices that the call was judged by are m: those that were lent, or none.
  pub kept_by-hands : (call : Call) (m : Lent) → ((d : Direction) → fit_by call d ≡ Ok (fit d)) → (ladder_checks call s degree v m ≡ pass → ladder_checks call s degree v l ≡ pass)
      → HandsOut degree (result_of call s degree v m) l l' r → LadderKept v s degree t (refinement (ladder_of v s degree)) l' r
  unfolding ladder_fit result_of
  kept_by-hands call m by lends h = go (ladder_checks call s degree v m) refl (point_parameters v (point_count s) (point_at s)) refl h.answer h.flat h.poles
    where
      go : (w : Verdict) → ladder_checks call s degree v m ≡ w → (o : Option (List Float)) → point_parameters v (point_count s) (point_at s) ≡ o
          → r ≡ answer_of degree (w next (fit_with v.factor s degree (fit_by call) o))
          → l'.flat ≡ handed_flat (w next (fit_with v.factor s degree (fit_by call) o)) l.flat
          → l'.poles ≡ handed_poles (w next (fit_with v.factor s degree (fit_by call) o)) l.poles
          → LadderKept v s degree t (refinement (ladder_of v s degree)) l' r
      go (Err c) e o p a f q = refused-kept c (stopped c (fit_with v.factor s degree (fit_by call) o) r degree a)
      go (Ok p₀) e none p a f q = refused-kept _ (confused v.factor s degree (fit_by call) r a)
      go (Ok p₀) e (some params) p a f q =
          let g = checks_give call s degree v l (lends e) in
          accepted-kept params p (omega (arith, count_under call (point_count s) degree g.1 g.0.low)) g.2 (accepted-answer call fit by v.factor s degree params r a) (accepted-flat call fit by v.factor s degree params l'.flat l.flat f)
          (accepted-poles call fit by v.factor s degree params l'.poles l.poles q)

-- ---- the two calls
abbrev pub Spreads : Direction → Marked → Type 0
Spreads d a = (c : ℕ) (f : Candidate) → a ≡ spread c f → From d f × (pole_count d.degree f.flat ≡ c)

pub alone_spreads : (d : Direction) → Lawful d → (t : Float) → Spreads d (spread_alone d t)
alone_spreads d lawful t =
    alone_cases d lawful t (Spreads d)
    (λ c f h p n g e. let q : c ≡ n = cc in let i : f ≡ g = cc in (subst (From d) i h, rw (← i, ← q) p))
    (λ n g e. let z : ◌≡◌ {A = ℕ} 0 1 = cc in absurd (omega arith))

pub alone_unrefined : (d : Direction) → Lawful d → (t : Float) (f : Candidate) → spread_alone d t ≡ refined f → ⊥
alone_unrefined d lawful t f e =
    alone_cases d lawful t (λ (a : Marked). a ≡ refined f → ⊥) (λ c g h p q. let z : ◌≡◌ {A = ℕ} 0 1 = cc in omega arith) (λ q. let z : ◌≡◌ {A = ℕ} 0 1 = cc in omega arith) e

keeps_alone : (t : Float) → Keeps t (λ d. none) (λ d. spread_alone d t)
keeps_alone t =
    record {
      kept = λ d lawful. alone-kept d lawful t;
      from-refined = λ d lawful h f e. absurd (alone_unrefined d lawful t f e);
      from-spread = λ d lawful. alone_spreads d lawful t;
    }

within-refined : (d : Direction) → Lawful d → (t : Float) → d.degree + 1 ≤ length d.params → (f : Candidate) → fit_within d t ≡ refined f → From d f
unfolding fit_within refined_or
within-refined d lawful t h f e = go (fit_with_refined_knots d t) refl e
  where
    go : (o : Option Candidate) → fit_with_refined_knots d t ≡ o → refined_or d t o ≡ refined f → From d f
    go none p q = absurd (alone_unrefined d lawful t f q)
    go (some g) p q = let i : g ≡ f = cc in subst (From d) i (refined_from d t h g p)

within_spreads : (d : Direction) → Lawful d → (t : Float) → Spreads d (fit_within d t)
unfolding fit_within refined_or
within_spreads d lawful t = go (fit_with_refined_knots d t)
  where
    go : (o : Option Candidate) → Spreads d (refined_or d t o)
    go none = alone_spreads d lawful t
    go (some g) = λ c f q. let z : ◌≡◌ {A = ℕ} 0 1 = cc in absurd (omega arith)

keeps-within : (t : Float) → Keeps t (λ d. fit_with_refined_knots d t) (λ d. fit_within d t)
keeps-within t =
    record {
      kept = λ d lawful. within-kept d lawful t;
      from-refined = λ d lawful. within-refined d lawful t;
      from-spread = λ d lawful. within_spreads d lawful t;
    }

-- Demand 3 needs no proof of the program: it follows from the call's equations.
module _ (s : List Float) (degree : ℕ) (t : Float) (v : Metric) (l l' : Lent) (r : Answer) where
  pub within-handed : (m : Lent) → (ladder_checks (ApproximateWithin t) s degree v m ≡ pass → ladder_checks (ApproximateWithin t) s degree v l ≡ pass)
      → HandsOut degree (result_of (ApproximateWithin t) s degree v m) l l' r → LadderKept v s degree t (fit_with_refined_knots (ladder_of v s degree) t) l' r
  unfolding fit_by
  within-handed m = kept_by-hands v s degree l l' r t (λ d. fit_with_refined_knots d t) (λ d. fit_within d t) (keeps-within t) (ApproximateWithin t) m (λ d. refl)

  pub spread-handed : (m : Lent) → (ladder_checks (SearchSpread t) s degree v m ≡ pass → ladder_checks (SearchSpread t) s degree v l ≡ pass)
      → HandsOut degree (result_of (SearchSpread t) s degree v m) l l' r → LadderKept v s degree t none l' r
  unfolding fit_by
  spread-handed m = kept_by-hands v s degree l l' r t (λ d. none) (λ d. spread_alone d t) (keeps_alone t) (SearchSpread t) m (λ d. refl)

  pub approximates-within : LadderCall (ApproximateWithin t) s degree v l l' r → ApproximatesWithin s degree t v l l' r
  approximates-within c = record { call = c; kept = within-handed l (λ e. e) c.hands }

  pub searches-spread : LadderCall (SearchSpread t) s degree v l l' r → SearchesSpread s degree t v l l' r
  searches-spread c = record { call = c; kept = spread-handed l (λ e. e) c.hands }

-- ---- two calls of the spread search alone
spread-answer : (factor : Float) (s : List Float) (degree : ℕ) (params : List Float) (t : Float) (r : Answer) → r ≡ answer_of degree (pass next (fit_with factor s degree (fit_by (SearchSpread t)) (some params))) → r ≡ Ok (fit_of degree (spread_alone (ladder factor s degree params) t))
unfolding fit_by
spread-answer factor s degree params t r e = accepted-answer (SearchSpread t) (λ d. spread_alone d t) (λ d. refl) factor s degree params r e

fits_again : (factor : Float) (s : List Float) (degree : ℕ) (params : List Float) (t t' : Float) (r₁ r₂ : Answer) (f₁ : Fit) → le t t' ≡ true → r₁ ≡ Ok f₁
    → r₁ ≡ Ok (fit_of degree (spread_alone (ladder factor s degree params) t)) → r₂ ≡ Ok (fit_of degree (spread_alone (ladder factor s degree params) t'))
    → (f₂ : Fit) × ((r₂ ≡ Ok f₂) × ((f₂.poles ≤ f₁.poles) × ((x : Float) → f₁.mark ≡ Spread x → (y : Float) × (f₂.mark ≡ Spread y))))
unfolding fit_of ladder mark_of
fits_again factor s degree params t t' r₁ r₂ f₁ h e a b =
    let d = ladder factor s degree params in
    let q : fit_of degree (spread_alone d t) ≡ f₁ = cc in (
      fit_of degree (spread_alone d t'),
      (
        b,
        (
          subst (λ (f : Fit). poles_of degree (spread_alone d t') ≤ f.poles) q (no_more d (ladder_lawful factor s degree params) t t' h),
          λ x m.
              let c = spread_mark (spread_alone d t) x (ap (λ (g : Fit). g.mark) q ∙ m) in
              let n = spread_again d (ladder_lawful factor s degree params) t t' h c.0 c.1.0 c.1.1 in
              (largest n.1.0.distances, ap mark_of n.1.1.0),
        ),
      ),
    )

-- the second half of demand 3, of two calls
pub spread_never-more : SpreadNeverMorePoles
unfolding ladder_fit result_of ladder_verdict count_verdict
spread_never-more s degree v t t' l l₁ l₂ r₁ r₂ f₁ c₁ c₂ h e =
    go (ladder_checks (SearchSpread t) s degree v l) (point_parameters v (point_count s) (point_at s)) c₁.call.hands.answer c₂.call.hands.answer
  where
    refusal : (c : Refusal) → r₁ ≡ Err c → ⊥
    refusal c q = let z : ◌≡◌ {A = ℕ} 0 1 = cc in omega arith

    go : (w : Verdict) (o : Option (List Float)) → r₁ ≡ answer_of degree (w next (fit_with v.factor s degree (fit_by (SearchSpread t)) o)) → r₂ ≡ answer_of degree (w next (fit_with v.factor s degree (fit_by (SearchSpread t')) o))
        → (f₂ : Fit) × ((r₂ ≡ Ok f₂) × ((f₂.poles ≤ f₁.poles) × ((x : Float) → f₁.mark ≡ Spread x → (y : Float) × (f₂.mark ≡ Spread y))))
    go (Err c) o a b = absurd (refusal c (stopped c (fit_with v.factor s degree (fit_by (SearchSpread t)) o) r₁ degree a))
    go (Ok p₀) none a b = absurd (refusal _ (confused v.factor s degree (fit_by (SearchSpread t)) r₁ a))
    go (Ok p₀) (some params) a b = fits_again v.factor s degree params t t' r₁ r₂ f₁ h e (spread-answer v.factor s degree params t r₁ a) (spread-answer v.factor s degree params t' r₂ b)

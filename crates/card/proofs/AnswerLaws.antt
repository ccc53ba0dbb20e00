-- What stands in the slices after a ladder call is the text's fit, and a fit has few poles and knots. Assumes nothing.
use Prim.Native.Nat.{ℕ, ◌+◌, ◌*◌, ◌<◌, ◌≤◌}
use mathlib.Core.Path.{◌≡◌, refl, sym, ap, ◌∙◌, subst}
use mathlib.Core.List.{List}
use mathlib.Core.Option.{Option, none, some}
use Rattle.std.specs.Prelude as std
use native.Mathlib.Omega.{arith}
use lib.Dec.{ltb}
use lib.Ieee.{Float, nan}
use lib.ListN.{length, take, replicate, length-replicate}
use Rattle.places.specs.Places.{list_of, laid}
use Rattle.places.proofs.PlaceLaws.{part-laid}
use Rattle.places.proofs.GatheredLaws.{count_most}
use Rattle.geometry.specs.Doubles.{nought, at}
use Rattle.geometry.specs.Points.{point_at}
use Rattle.bspline.specs.declared.Refusal.{Refusal}
use Rattle.bspline.specs.declared.Refusal.TheVariants.{ConfusedPoints}
use Rattle.knots.specs.declared.Metric.{Metric}
use Rattle.knots.specs.Parameters.{point_parameters}
use Rattle.knots.specs.Knots.{run_start, distinct_knots, knot_at, multiplicity_at}
use Rattle.tables.specs.Deviations.{unreadable}
use Rattle.tables.specs.Directions.{ladder}
use Rattle.checks.specs.declared.Call.{Call}
use Rattle.fitting.specs.Within.{Candidate, Marked, pole_count}
use Rattle.fitting.specs.Marks.{unmarked, mark_of, fit_of}
use Rattle.checks.specs.LadderChecks.{Lent, point_count, count_verdict, ladder_checks}
use Rattle.making.specs.Results.{FitResult, fit_by}
use Rattle.ladders.specs.Ladders.{fit_with, ladder_fit, result_of, answer_of, handed, handed_poles, handed_knots, handed_mults, LadderCall, Answer}
use Rattle.checks.proofs.CheckLaws.{checks_give, count_under}
use Rattle.making.proofs.HandedLaws.{From, taken}
use Rattle.making.proofs.FitLaws.{call_from}
use Rattle.ladders.proofs.LadderLaws.{params-long}
use Rattle.card_printer.specs.Answer.{answer_text}
use Rattle.card.specs.Answers.{call_of, buffers, fit_text, result_text, handed_text, FewIn}
use Rattle.std.specs.Prelude.{Ok, Err}
use Rattle.bspline.specs.Refusals.{◌next◌, Verdict, pass}

-- a fit of n points of degree p: at most n poles, and flat knots to them
pub record Stands (p n : ℕ) (f : Candidate) : Type 0 where
  pub low : p + 1 ≤ length f.flat
  pub high : length f.flat ≤ n + p + 1
  pub poles-long : length f.poles ≡ 3 * pole_count p f.flat

from_stands : (factor : Float) (s : List Float) (degree : ℕ) (params : List Float) (f : Candidate) → From (ladder factor s degree params) f → Stands degree (length params) f
unfolding ladder
from_stands factor s degree params f h =
    let e : length f.flat ≡ length h.knots = ap length h.own.flat_is in
    let lo = h.has.low in
    let hi = h.has.high in
    let q = h.own.poles-long in
    record { low = omega arith; high = omega arith; poles-long = omega arith }

-- what an answer and the slices have to be for a result
abbrev pub Right : Answer → Lent → FitResult → Type 0
Right r l x = FewIn r × (handed_text r l.poles l.knots l.mults ≡ result_text x)

module _ (degree : ℕ) (l : Lent) where
  right-fit : (n : ℕ) → n ≤ 64 → degree ≤ 25 → (a : Marked) → Stands degree n (unmarked a)
      → l.poles ≡ laid 0 (length (unmarked a).poles) (at (unmarked a).poles) (replicate 192 nought)
      → l.knots ≡ laid 0 (distinct_knots (unmarked a).flat) (knot_at (unmarked a).flat) (replicate 90 nought)
      → l.mults ≡ laid 0 (distinct_knots (unmarked a).flat) (multiplicity_at (unmarked a).flat) (replicate 90 0)
      → Right (Ok (fit_of degree a)) l (Ok a)
  unfolding fit_of handed_text result_text fit_text distinct_knots
  right-fit n few low a h p k m =
      let f = unmarked a in
      let lo = h.low in
      let hi = h.high in
      let long = h.poles-long in
      let runs : distinct_knots f.flat ≤ length f.flat = count_most (length f.flat) (λ j. ltb (run_start f.flat j) (length f.flat)) in
      let x : take (distinct_knots f.flat) l.knots ≡ list_of (distinct_knots f.flat) (knot_at f.flat) =
      ap (take (distinct_knots f.flat)) k ∙ part-laid 0 (distinct_knots f.flat) (knot_at f.flat) (replicate 90 nought) nan (omega (arith, length-replicate 90 nought)) in
      let y : take (distinct_knots f.flat) l.mults ≡ list_of (distinct_knots f.flat) (multiplicity_at f.flat) =
      ap (take (distinct_knots f.flat)) m ∙ part-laid 0 (distinct_knots f.flat) (multiplicity_at f.flat) (replicate 90 0) 0 (omega (arith, length-replicate {A = ℕ} 90 0)) in
      let z : take (3 * pole_count degree f.flat) l.poles ≡ f.poles =
      ap (λ (j : ℕ). take j l.poles) (sym long) ∙ ap (take (length f.poles)) p ∙ taken f.poles (replicate 192 nought) (omega (arith, length-replicate 192 nought)) in
      ((omega arith, omega arith), λ i. answer_text (mark_of a) (unreadable f.distances) (x i) (y i) (z i))

  right-accepted : (r : Answer) (n : ℕ) → n ≤ 64 → degree ≤ 25 → (a : Marked) → Stands degree n (unmarked a) → r ≡ answer_of degree (Ok a)
      → l.poles ≡ handed_poles (Ok a) buffers.poles → l.knots ≡ handed_knots (Ok a) buffers.knots → l.mults ≡ handed_mults (Ok a) buffers.mults
      → Right r l (Ok a)
  unfolding answer_of handed
  right-accepted r n few low a h e p k m = subst (λ (b : Answer). Right b l (Ok a)) (sym e) (right-fit n few low a h p k m)

  right-refused : (r : Answer) (c : Refusal) → r ≡ answer_of degree (Err c) → Right r l (Err c)
  unfolding answer_of handed_text result_text
  right-refused r c e = subst (λ (b : Answer). Right b l (Err c)) (sym e) (tt, refl)

-- the fit that a tolerance asks for
fit-right : (t : std.Option ℕ) (factor : Float) (s : List Float) (degree : ℕ) (params : List Float) (l : Lent) (r : Answer)
    → degree < length params → length params ≤ 64 → 1 ≤ degree → degree ≤ 25 → count_verdict (call_of t) (length params) degree ≡ pass
    → (x : FitResult) → fit_by (call_of t) (ladder factor s degree params) ≡ x → r ≡ answer_of degree x
    → l.poles ≡ handed_poles x buffers.poles → l.knots ≡ handed_knots x buffers.knots → l.mults ≡ handed_mults x buffers.mults → Right r l x
fit-right t factor s degree params l r under few low high e (Err c) q a p k m = right-refused degree l r c a
fit-right t factor s degree params l r under few low high e (Ok b) q a p k m =
    right-accepted degree l r (length params) few high b (from_stands factor s degree params (unmarked b) (call_from factor s degree params under (call_of t) low e b q)) a p k m

by-tolerance : (t : std.Option ℕ) (s : List Float) (degree : ℕ) (v : Metric) (l : Lent) (r : Answer) → length s ≤ 192 → LadderCall (call_of t) s degree v buffers l r
    → Right r l (result_of (call_of t) s degree v buffers)
unfolding ladder_fit result_of fit_with
by-tolerance t s degree v l r few c =
    go (ladder_checks (call_of t) s degree v buffers) refl (point_parameters v (point_count s) (point_at s)) refl c.hands.answer c.hands.poles c.hands.knots c.hands.mults
  where
    go : (w : Verdict) → ladder_checks (call_of t) s degree v buffers ≡ w → (o : Option (List Float)) → point_parameters v (point_count s) (point_at s) ≡ o
        → r ≡ answer_of degree (w next (fit_with v.factor s degree (fit_by (call_of t)) o))
        → l.poles ≡ handed_poles (w next (fit_with v.factor s degree (fit_by (call_of t)) o)) buffers.poles
        → l.knots ≡ handed_knots (w next (fit_with v.factor s degree (fit_by (call_of t)) o)) buffers.knots
        → l.mults ≡ handed_mults (w next (fit_with v.factor s degree (fit_by (call_of t)) o)) buffers.mults
        → Right r l (w next (fit_with v.factor s degree (fit_by (call_of t)) o))
    go (Err q) e o u a p k m = right-refused degree l r q a
    go (Ok p₀) e none u a p k m = right-refused degree l r ConfusedPoints a
    go (Ok p₀) e (some params) u a p k m =
        let g = checks_give (call_of t) s degree v buffers e in
        let long = params-long v (point_count s) (point_at s) params u in
        let under = count_under (call_of t) (point_count s) degree g.1 g.0.low in
        let count = subst (λ (n : ℕ). count_verdict (call_of t) n degree ≡ pass) (sym long) g.1 in
        fit-right t v.factor s degree params l r (omega arith) (omega arith) g.0.low g.0.high count (fit_by (call_of t) (ladder v.factor s degree params)) refl a p k m

-- after the program's call the slices hold the text's fit
pub call-right : (t : std.Option ℕ) (call : Call) → call ≡ call_of t → (s : List Float) (degree : ℕ) (v : Metric) (l : Lent) (r : Answer) → length s ≤ 192 → LadderCall call s degree v buffers l r
    → Right r l (result_of (call_of t) s degree v buffers)
call-right t call e s degree v l r few c = by-tolerance t s degree v l r few (subst (λ (k : Call). LadderCall k s degree v buffers l r) e c)

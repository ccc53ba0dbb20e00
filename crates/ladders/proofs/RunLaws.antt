-- A ladder as a direction; a fit of it that stands in its regions and is handed out is what the call's contract says; and a whole call. Assumes nothing.
use mathlib.Core.Path.{◌≡◌, refl, sym, ap, ◌∙◌, subst}
use mathlib.Core.Option.{none, some}
use mathlib.Core.List.{List, []}
use Prim.Native.Nat.{ℕ, ◌+◌, ◌-◌, ◌*◌, ◌/◌, ◌<◌}
use native.Mathlib.Omega.{arith}
use lib.ListN.{length, take, replicate}
use lib.Seq.{length-take-le, take_all}
use lib.Ieee.{Float}
use Rattle.std.specs.Prelude.{Ok, Err}
use Rattle.places.specs.Places.{laid}
use Rattle.geometry.specs.Doubles.{at, nought}
use Rattle.geometry.specs.Points.{point_at}
use Rattle.bspline.specs.declared.Refusal.{Refusal}
use Rattle.bspline.specs.declared.Refusal.TheVariants.{ConfusedPoints}
use Rattle.bspline.specs.Refusals.{Verdict, pass, ◌next◌}
use Rattle.bspline.specs.Reader.{number_in}
use Rattle.knots.specs.declared.Metric.{Metric}
use Rattle.knots.specs.declared.lines.Line.{Line}
use Rattle.knots.specs.declared.lines.Lines.{Lines}
use Rattle.knots.specs.Parameters.{point_parameters}
use Rattle.knots.specs.Knots.{distinct_knots, knot_at, multiplicity_at}
use Rattle.knots.specs.OnLines.{on_line, on_lines}
use Rattle.knots.proofs.LineLaws.{ladder-same}
use Rattle.tables.specs.BasisTable.{BasisTable}
use Rattle.tables.specs.Deviations.{ladder_distances, unreadable}
use Rattle.tables.specs.Directions.{Direction, ladder, ladder_point}
use Rattle.checks.specs.declared.Call.{Call}
use Rattle.checks.specs.declared.slices.Output.{Output}
use Rattle.checks.specs.LadderChecks.{Shaped, Lent, point_count, cleared, ladder_checks}
use Rattle.checks.specs.Slices.{lent_with}
use Rattle.fitting.specs.declared.Fit.{Fit}
use Rattle.fitting.specs.declared.Job.{Job}
use Rattle.fitting.specs.declared.Kind.TheVariants.{Ladder}
use Rattle.fitting.specs.declared.Mark.{Mark}
use Rattle.fitting.specs.declared.room.Regions.{Regions}
use Rattle.fitting.specs.Within.{Candidate, Marked, candidate, pole_count}
use Rattle.fitting.specs.Marks.{unmarked, mark_of, fit_of}
use Rattle.fitting.specs.Given.{HasJob}
use Rattle.fitting.specs.Flat.{flat_of}
use Rattle.fitting.specs.Jobs.{distances_by, deviations_by, within_by, direction_of, candidate_in, HasKnots}
use Rattle.making.specs.declared.Standing.{Standing}
use Rattle.making.specs.declared.StandingFit.{StandingFit}
use Rattle.making.specs.HandedOut.{HandedOut}
use Rattle.making.specs.Results.{FitResult, fit_by}
use Rattle.making.specs.Runs.{marked_as, standing_in, made_in, Makes, Made}
use Rattle.making.proofs.MakeLaws.{fit_same, unmarked_as, mark_as}
use Rattle.ladders.specs.Ladders.{answer_of, handed, result_of, fit_with, ladder_fit, HandsOut, LadderCall, Answer}
use Rattle.ladders.specs.Standing.{HandsStanding}

-- ---- a fit of one line that stands, handed out

module _ (j : Job) (g : Regions) (a : Marked) (stands : candidate_in j g ≡ unmarked a) (one : j.lines.lines ≡ 1) (few : HasKnots j g.knots.count) (long : length (flat_of g.knots) ≡ g.knots.count) where
  knots_are : flat_of g.knots ≡ (unmarked a).flat
  unfolding candidate_in candidate
  knots_are = ap (λ (f : Candidate). f.flat) stands

  poles_are : take (3 * (g.knots.count - j.degree - 1)) g.fit.poles.now ≡ (unmarked a).poles
  unfolding candidate_in candidate
  poles_are =
      let z : 3 * (j.lines.lines * (g.knots.count - j.degree - 1)) ≡ 3 * (g.knots.count - j.degree - 1) = rw one (omega arith) in
      ap (λ (k : ℕ). take k g.fit.poles.now) (sym z) ∙ ap (λ (f : Candidate). f.poles) stands

  count_is : g.knots.count - j.degree - 1 ≡ pole_count j.degree (unmarked a).flat
  count_is = omega (arith, ap length (sym knots_are) ∙ long)

  pub hands_out : (mk : Mark) (u : ℕ) → mk ≡ mark_of a → u ≡ unreadable (unmarked a).distances → {o o' : Output} {count : ℕ}
      → HandedOut (take (3 * (g.knots.count - j.degree - 1)) g.fit.poles.now) (flat_of g.knots) o o' count
      → HandsOut j.degree (Ok a) (lent_with o [] []) (lent_with o' [] []) (Ok (record { mark = mk; poles = g.knots.count - j.degree - 1; knots = count; unreadable = u }))
  unfolding answer_of fit_of handed
  hands_out mk u marked unread {o} {o'} {count} out = record {
    answer = ap Ok (fit_same mk (mark_of a) (g.knots.count - j.degree - 1) (pole_count j.degree (unmarked a).flat) count (distinct_knots (unmarked a).flat) u (unreadable (unmarked a).distances) marked count_is (out.knots_out.runs.count ∙ ap distinct_knots knots_are) unread);
    poles = out.for_poles ∙ ap (λ (l : List Float). laid 0 (length l) (at l) o.poles.now) poles_are;
    flat = out.knots_out.for_flat ∙ ap (λ (l : List Float). laid 0 (length l) (at l) o.flat.now) knots_are;
    knots = out.knots_out.runs.values ∙ ap (λ (l : List Float). laid 0 (distinct_knots l) (knot_at l) o.knots.now) knots_are;
    mults = out.knots_out.runs.multiplicities ∙ ap (λ (l : List Float). laid 0 (distinct_knots l) (multiplicity_at l) o.mults.now) knots_are;
  }

-- as many flat knots as are counted
flat-long : (j : Job) (g : Regions) → HasKnots j g.knots.count → length g.knots.places.now ≡ length j.params.now + j.degree + 1 → length (flat_of g.knots) ≡ g.knots.count
flat-long j g few places = length-take-le g.knots.count g.knots.places.now (omega (arith, few.most))

pub hands_standing : (x : StandingFit) (o o' : Output) (r : Fit) → x.job.lines.lines ≡ 1
    → HandedOut (take (3 * (x.at.now.knots.count - x.job.degree - 1)) x.at.now.fit.poles.now) (flat_of x.at.now.knots) o o' r.knots
    → r.mark ≡ x.standing.mark → r.poles ≡ x.at.now.knots.count - x.job.degree - 1 → r.unreadable ≡ x.standing.unreadable → HandsStanding x o o' r
unfolding standing_in
hands_standing x o o' r one out marked poles unread =
    let j = x.job in
    let g = x.at.now in
    let s = x.stands in
    let f = candidate_in j g in
    let m = g.knots.count - j.degree - 1 in
    let a = marked_as x.standing.mark m f in
    let h =
    hands_out j g a (sym (unmarked_as x.standing.mark m f)) one s.few (flat-long j g s.few x.regions.flat)
    x.standing.mark x.standing.unreadable (mark_as x.standing.mark m f s.most) (s.unread ∙ ap (λ (y : Candidate). unreadable y.distances) (sym (unmarked_as x.standing.mark m f))) out in
    record {
      hands = subst (λ (y : Fit). HandsOut j.degree (Ok a) (lent_with o [] []) (lent_with o' [] []) (Ok y)) (sym (fit_same r.mark _ r.poles _ r.knots _ r.unreadable _ marked poles refl unread)) h;
      same = out.same;
    }

-- ---- a ladder as one line

pub has_ladder_job : (degree places : ℕ) (params : List Float) (l : Lines) → Shaped places degree → degree < length params → length params ≡ places / 3
    → length l.points.now ≡ places → l.lines ≡ 1 → l.count ≡ places / 3 → HasJob degree params l Ladder
has_ladder_job degree places params l shaped under as_many points one count = record {
  low = shaped.low;
  high = shaped.high;
  under = under;
  few = omega (arith, shaped.most);
  points = omega arith;
  one = omega arith;
  most = omega arith;
  by_kind =
      record {
        ladder = λ e. (one, omega (arith, shaped.triples));
        rows = λ e. absurd (cc);
        columns = λ s e. absurd (cc);
      };
}

pub direction_is : (j : Job) (factor : Float) (s : List Float) (degree : ℕ) (params : List Float) → j.kind ≡ Ladder → j.factor ≡ factor → j.degree ≡ degree → j.params.now ≡ params
    → on_lines j.lines ≡ ladder_point s → j.lines.points.now ≡ s → j.lines.lines ≡ 1 → direction_of j ≡ ladder factor s degree params
unfolding direction_of distances_by deviations_by within_by ladder
direction_is j factor s degree params kind f d p points all one =
    let distances = ap (distances_by j.factor j.lines) kind ∙ ap (λ (xs : List Float). λ (t : BasisTable) (m : ℕ) (poles : List Float). ladder_distances j.factor t poles xs) all in
    let deviations = ap (deviations_by j.lines.lines (length j.params.now)) kind in
    rw (distances, deviations, ap within_by kind, points, one, f, d, p) refl

-- ---- the call on it, handed out

pub run-refused : (degree : ℕ) (fit : FitResult) (c : Refusal) → fit ≡ Err c → (l : Lent) → HandsOut degree fit l l (Err c)
unfolding answer_of handed
run-refused degree fit c e l = rw e (record { answer = refl; poles = refl; flat = refl; knots = refl; mults = refl })

pub run-same : {degree : ℕ} {fit fit₀ : FitResult} {l l' : Lent} {r : Answer} → fit₀ ≡ fit → HandsOut degree fit l l' r → HandsOut degree fit₀ l l' r
run-same e h = rw e h

module _ (call : Call) (j : Job) (g : Regions) (r : Made) (d : Direction) (made : Makes j (fit_by call (direction_of j)) g r) (e : direction_of j ≡ d) where
  made_on : fit_by call d ≡ made_in r (standing_in j g)
  made_on = ap (fit_by call) (sym e) ∙ made.answer

  pub hands_refused : (degree : ℕ) (l : Lent) (c : Refusal) (a : Answer) → r ≡ Err c → a ≡ Err c → HandsOut degree (fit_by call d) l l a
  unfolding made_in
  hands_refused degree l c a q i = rw i (run-refused degree (fit_by call d) c (made_on ∙ ap (λ (x : Made). made_in x (standing_in j g)) q) l)

  pub hands_made : (degree : ℕ) (l l' : Lent) (x : Standing) (a : Answer) → r ≡ Ok x → j.degree ≡ degree → HandsOut j.degree (Ok (standing_in j g x)) l l' a → HandsOut degree (fit_by call d) l l' a
  unfolding made_in
  hands_made degree l l' x a q p h =
      run-same (made_on ∙ ap (λ (y : Made). made_in y (standing_in j g)) q) (subst (λ (n : ℕ). HandsOut n (Ok (standing_in j g x)) l l' a) p h)

-- ---- with the parameters, or 5

module _ (call : Call) (v : Metric) (s : List Float) (degree : ℕ) (l : Line) (count : l.count ≡ length s / 3) (points : on_line l ≡ ladder_point s 0) where
  params_are : point_parameters v l.count (on_line l) ≡ point_parameters v (point_count s) (point_at s)
  params_are = rw (count, points) (ladder-same v (length s / 3) s)

  pub passed_none : (slices : Lent) (c : Refusal) (a : Answer) → (point_parameters v l.count (on_line l) ≡ none) × (c ≡ ConfusedPoints) → a ≡ Err c
      → HandsOut degree (ladder_fit v s degree (fit_by call)) slices slices a
  unfolding ladder_fit fit_with
  passed_none slices c a e i =
      rw (i, e.1) (run-refused degree (ladder_fit v s degree (fit_by call)) ConfusedPoints (ap (fit_with v.factor s degree (fit_by call)) (sym params_are ∙ e.0)) slices)

  pub passed_some : (params : List Float) (slices slices' : Lent) (a : Answer) → length params ≡ length s / 3 → point_parameters v l.count (on_line l) ≡ some (take l.count params)
      → HandsOut degree (fit_by call (ladder v.factor s degree params)) slices slices' a → HandsOut degree (ladder_fit v s degree (fit_by call)) slices slices' a
  unfolding ladder_fit fit_with
  passed_some params slices slices' a long e h =
      run-same (ap (fit_with v.factor s degree (fit_by call)) (sym params_are ∙ e ∙ ap some (take_all l.count params (omega arith)))) h

-- ---- a whole call

number-answer_of : (degree : ℕ) (fit : FitResult) → number_in (answer_of degree fit) ≡ number_in fit
unfolding answer_of
number-answer_of degree (Err c) = refl
number-answer_of degree (Ok a) = refl

module _ (call : Call) (s : List Float) (degree : ℕ) (v : Metric) where
  pub call_refused : (c : Refusal) (l : Lent) (a : Answer) → Err c ≡ ladder_checks call s degree v l → a ≡ Err c → LadderCall call s degree v l l a
  unfolding result_of cleared
  call_refused c l a e i =
      let q : result_of call s degree v l ≡ Err c = ap (λ (w : Verdict). w next ladder_fit v s degree (fit_by call)) (sym e) in
      rw i (record {
        hands = run-refused degree (result_of call s degree v l) c q l;
        number = sym (ap number_in q);
        work = ap (λ (w : Verdict). cleared nought w l.work) e;
        index = ap (λ (w : Verdict). cleared 0 w l.index) e;
      })

  pub call_passed : (o o' : Output) {work work' : List Float} {index index' : List ℕ} {r : Answer} → pass ≡ ladder_checks call s degree v (lent_with o work index)
      → HandsOut degree (ladder_fit v s degree (fit_by call)) (lent_with o [] []) (lent_with o' [] []) r
      → work' ≡ replicate (length work) nought → index' ≡ replicate (length index) 0
      → LadderCall call s degree v (lent_with o work index) (lent_with o' work' index') r
  unfolding result_of cleared
  call_passed o o' {work} {work'} {index} {index'} {r} e h w i =
      let l = lent_with o work index in
      let q : result_of call s degree v l ≡ ladder_fit v s degree (fit_by call) = ap (λ (u : Verdict). u next ladder_fit v s degree (fit_by call)) (sym e) in
      let h' = run-same q h in
      record {
        hands = record { answer = h'.answer; poles = h'.poles; flat = h'.flat; knots = h'.knots; mults = h'.mults };
        number = ap number_in h'.answer ∙ number-answer_of degree (result_of call s degree v l);
        work = w ∙ ap (λ (u : Verdict). cleared nought u work) e;
        index = i ∙ ap (λ (u : Verdict). cleared 0 u index) e;
      }

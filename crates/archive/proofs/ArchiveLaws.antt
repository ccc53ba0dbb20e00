-- The archive reads what the fit saw: what stands in the slices after an accepted ladder call is the fit's own curve, whose knots begin at 0 and end at 1; so where the reader
-- takes it, both ways find the same span for each point's parameter, and read the same point. From the call's promise and the reader's alone. Assumes nothing.
use mathlib.Core.Path.{◌≡◌, refl, sym, ap, ◌∙◌, subst}
use mathlib.Core.Bool.{Bool, true, false, cond}
use mathlib.Core.List.{List}
use mathlib.Core.Option.{Option, none, some}
use Prim.Native.Nat.{ℕ, ◌+◌, ◌-◌, ◌*◌, ◌<◌, ◌≤◌}
use native.Mathlib.Omega.{arith}
use lib.ListN.{length, take, get_or}
use lib.Ieee.{Float, nan}
use Rattle.places.specs.Places.{list_of, laid}
use Rattle.places.proofs.PlaceLaws.{length-list_of, list_of-at, part-laid}
use Rattle.geometry.specs.Doubles.{nought, one, at, largest}
use Rattle.geometry.specs.Points.{distance, point_at}
use Rattle.bspline.specs.declared.Refusal.{Refusal}
use Rattle.bspline.specs.Reader.{number_in, flat_knots, curve_point, reader_verdict, reading_of}
use Rattle.bspline.proofs.CheckLaws.{numbered}
use Rattle.knots.specs.declared.Metric.{Metric}
use Rattle.knots.specs.Parameters.{point_parameters}
use Rattle.knots.specs.Knots.{distinct_knots, knot_at, multiplicity_at}
use Rattle.knots.proofs.KnotLaws.{Ends}
use Rattle.knots.proofs.RunLaws.{distinct-few}
use Rattle.tables.specs.BasisTable.{basis_table, table_point, parameter_count}
use Rattle.tables.specs.Deviations.{ladder_distances, unreadable}
use Rattle.tables.specs.Directions.{Direction, ladder}
use Rattle.tables.proofs.TableLaws.{length_rows}
use Rattle.fitting.specs.declared.Fit.{Fit}
use Rattle.fitting.specs.Within.{Candidate, Marked, refined, spread, interpolated, chosen}
use Rattle.fitting.specs.Marks.{largest_deviation, unmarked, mark_of, fit_of}
use Rattle.fitting.specs.Tolerance.{params_or}
use Rattle.checks.specs.declared.Call.{Call}
use Rattle.checks.specs.LadderChecks.{Lent, Roomy, point_count, count_verdict, room_of, ladder_checks}
use Rattle.checks.proofs.CheckLaws.{checks_give, count_under}
use Rattle.checks.proofs.RisingLaws.{Rising, ladder-rises}
use Rattle.making.specs.Results.{FitResult, fit_by}
use Rattle.making.proofs.HandedLaws.{FitOn, taken}
use Rattle.ladders.specs.Ladders.{fit_with, ladder_fit, result_of, answer_of, handed, ladder_of, HandsOut, Answer}
use Rattle.telling.specs.Told.{tellable, nothing, judged, told_largest, told_counts}
use Rattle.archive.specs.Archive.{archived_poles, archived_knots, archived_mults, parameter_of, fit_point, ReadsBack, ArchiveReadsFit, ToldReadsFit}
use Rattle.archive.proofs.EndLaws.{Curve, call-curve}
use Rattle.archive.proofs.ReadLaws.{reads-taken, read-there, first-told, ends-told, told-taken, told-read}
use Rattle.std.specs.Prelude.{Ok, Err}
use Rattle.bspline.specs.Refusals.{◌next◌, Verdict, pass}

-- ---- what stands in the slices

mark_carries : (a : Marked) → largest_deviation (mark_of a) ≡ largest (unmarked a).distances
unfolding mark_of unmarked
mark_carries (refined f) = refl
mark_carries (spread c f) = refl
mark_carries (interpolated f) = refl
mark_carries (chosen f) = refl

module _ (call : Call) (s : List Float) (degree : ℕ) (v : Metric) (l l' : Lent) (f : Fit) where
  abbrev along : List Float → Direction
  along params = ladder v.factor s degree params

  module _ (params : List Float) (found : point_parameters v (point_count s) (point_at s) ≡ some params) (passes : ladder_checks call s degree v l ≡ pass)
      (a : Marked) (by : fit_by call (along params) ≡ Ok a) (is : f ≡ fit_of degree a)
      (poles : l'.poles ≡ laid 0 (length (unmarked a).poles) (at (unmarked a).poles) l.poles)
      (flat : l'.flat ≡ laid 0 (length (unmarked a).flat) (at (unmarked a).flat) l.flat)
      (knots : l'.knots ≡ laid 0 (distinct_knots (unmarked a).flat) (knot_at (unmarked a).flat) l.knots)
      (mults : l'.mults ≡ laid 0 (distinct_knots (unmarked a).flat) (multiplicity_at (unmarked a).flat) l.mults) where
    abbrev c : Candidate
    c = unmarked a

    abbrev n : ℕ
    n = point_count s

    rising : Rising params n
    rising = ladder-rises call s degree v l passes params found

    fit : FitOn (Curve (along params)) (along params) c
    fit =
        let g = checks_give call s degree v l passes in
        let low = g.0.low in
        let under = count_under call n degree g.1 low in
        call-curve v.factor s degree params (λ k h. rising.shares k (omega (arith, rising.long))) (omega (arith, under, rising.long)) call low
        (subst (λ (m : ℕ). count_verdict call m degree ≡ pass) (sym rising.long) g.1) a by

    room : Roomy n degree (room_of l)
    room = (checks_give call s degree v l passes).2

    curve : Curve (along params) c.flat
    curve = subst (Curve (along params)) (sym fit.own.flat_is) fit.has

    pole-count : f.poles ≡ length c.flat - degree - 1
    unfolding fit_of
    pole-count = ap (λ (g : Fit). g.poles) is

    knot-count : f.knots ≡ distinct_knots c.flat
    unfolding fit_of
    knot-count = ap (λ (g : Fit). g.knots) is

    low : degree + 1 ≤ length c.flat
    unfolding ladder
    low = curve.sized.low

    high : length c.flat ≤ n + degree + 1
    unfolding ladder
    high = omega (arith, curve.sized.high, rising.long)

    curve-ends : 2 * degree + 2 ≤ length c.flat → Ends degree c.flat
    unfolding ladder
    curve-ends = curve.ends

    poles-long : length c.poles ≡ 3 * (length c.flat - degree - 1)
    unfolding ladder
    poles-long = rw fit.own.flat_is (omega (arith, fit.own.poles-long))

    flat_is : take (f.poles + degree + 1) l'.flat ≡ c.flat
    flat_is =
        let e : f.poles + degree + 1 ≡ length c.flat = omega (arith, pole-count, low) in
        rw (e, flat) (taken c.flat l.flat (omega (arith, high, room.for_flat)))

    poles_are : archived_poles f l' ≡ c.poles
    poles_are =
        let e : 3 * f.poles ≡ length c.poles = omega (arith, pole-count, poles-long) in
        ap (take (3 * f.poles)) poles ∙ rw e (taken c.poles l.poles (omega (arith, high, poles-long, room.for_poles)))

    knots_are : archived_knots f l' ≡ list_of (distinct_knots c.flat) (knot_at c.flat)
    knots_are = ap (take f.knots) knots ∙ rw knot-count (part-laid 0 (distinct_knots c.flat) (knot_at c.flat) l.knots nan (omega (arith, high, distinct-few c.flat, room.for_knots)))

    mults_are : archived_mults f l' ≡ list_of (distinct_knots c.flat) (multiplicity_at c.flat)
    mults_are = ap (take f.knots) mults ∙ rw knot-count (part-laid 0 (distinct_knots c.flat) (multiplicity_at c.flat) l.mults 0 (omega (arith, high, distinct-few c.flat, room.for_mults)))

    params_are : (ladder_of v s degree).params ≡ params
    unfolding ladder_of ladder
    params_are = ap params_or found

    distances_are : c.distances ≡ ladder_distances v.factor (basis_table c.flat degree params) c.poles s
    unfolding ladder
    distances_are = rw fit.own.flat_is fit.own.distances_are

    points : (flat : List Float) → parameter_count (basis_table flat degree params) ≡ n
    points flat = length_rows flat degree params ∙ rising.long

    own-point : (k : ℕ) → fit_point v s degree f l' k ≡ table_point (basis_table c.flat degree params) c.poles 0 k
    own-point k =
        ap (λ (x : List Float). table_point (basis_table x degree (ladder_of v s degree).params) (archived_poles f l') 0 k) flat_is
        ∙ ap (λ (x : List Float). table_point (basis_table c.flat degree x) (archived_poles f l') 0 k) params_are
        ∙ ap (λ (x : List Float). table_point (basis_table c.flat degree params) x 0 k) poles_are

    -- where the reader takes what is archived, it takes the fit's own curve, and its answer at each parameter is the fit's own point
    module _ (u : Float) (takes : reader_verdict (archived_poles f l') degree (archived_knots f l') (archived_mults f l') u ≡ pass) where
      made-taken : reader_verdict c.poles degree (list_of (distinct_knots c.flat) (knot_at c.flat)) (list_of (distinct_knots c.flat) (multiplicity_at c.flat)) u ≡ pass
      made-taken = rw (poles_are, knots_are, mults_are) at takes

      answer : (k : ℕ) → k < n
          → reading_of (reader_verdict (archived_poles f l') degree (archived_knots f l') (archived_mults f l') (parameter_of v s degree k))
          (curve_point (flat_knots (archived_knots f l') (archived_mults f l')) degree (archived_poles f l') (parameter_of v s degree k)) ≡ Ok (fit_point v s degree f l' k)
      answer k h = rw (poles_are, knots_are, mults_are, params_are) (read-there c.flat degree curve-ends c.poles poles-long u made-taken params n rising k h) ∙ ap Ok (sym (own-point k))

      degree-told : get_or (archived_mults f l') 0 0 ≡ degree + 1
      degree-told = ap (λ (m : List ℕ). get_or m 0 0) mults_are ∙ first-told c.flat degree curve-ends c.poles poles-long u made-taken

      range-told : (at (archived_knots f l') 0 ≡ nought) × (at (archived_knots f l') (f.knots - 1) ≡ one)
      range-told = rw (knots_are, knot-count) (ends-told c.flat degree curve-ends c.poles poles-long u made-taken)

    accepted-back : ReadsBack v s degree l' f
    unfolding ladder_distances fit_of
    accepted-back =
        let t = basis_table c.flat degree params in
        let at-point : ℕ → Float = λ k. distance v.factor (table_point t c.poles 0 k) (point_at s k) in
        record {
          each = λ k h. rw (flat_is, poles_are, params_are) (list_of-at (parameter_count t) at-point k nan (omega (arith, points c.flat)));
          many = rw (flat_is, poles_are, params_are) (length-list_of (parameter_count t) at-point ∙ points c.flat);
          mark = rw (flat_is, poles_are, params_are) (ap (λ (g : Fit). largest_deviation g.mark) is ∙ mark_carries a ∙ ap largest distances_are);
          unread = rw (flat_is, poles_are, params_are) (ap (λ (g : Fit). g.unreadable) is ∙ ap unreadable distances_are);
          same = λ u p reads k h r there. there.answer ∙ answer u (reads-taken _ _ _ _ u p reads) k h;
          told = λ u some some' zero k h out out' r room there. told-read out out' r _ _ room there.value there.out_after (answer u (told-taken _ _ _ _ u some some' zero) k h);
          range = λ u p reads. range-told u (reads-taken _ _ _ _ u p reads);
          first = λ u p reads. degree-told u (reads-taken _ _ _ _ u p reads);
        }

  -- who hands a call's result out has handed out a curve that reads back. The slices that the call was judged by are m: those that were lent, or none.
  pub hands-back : (m : Lent) → (ladder_checks call s degree v m ≡ pass → ladder_checks call s degree v l ≡ pass) → HandsOut degree (result_of call s degree v m) l l' (Ok f) → ReadsBack v s degree l' f
  unfolding result_of ladder_fit fit_with answer_of handed
  hands-back m lends h = by_checks (ladder_checks call s degree v m) refl (point_parameters v (point_count s) (point_at s)) refl h
    where
      refusal : (x : Refusal) → Ok f ≡ Err x → ReadsBack v s degree l' f
      refusal x e = let z : ◌≡◌ {A = ℕ} 0 1 = cc in absurd (omega arith)

      by-fit : (params : List Float) → point_parameters v (point_count s) (point_at s) ≡ some params → ladder_checks call s degree v m ≡ pass
          → (r : FitResult) → fit_by call (along params) ≡ r → HandsOut degree r l l' (Ok f) → ReadsBack v s degree l' f
      by-fit params p e (Err x) q h = refusal x h.answer
      by-fit params p e (Ok a) q h = let i : f ≡ fit_of degree a = cc h.answer in accepted-back params p (lends e) a q i h.poles h.flat h.knots h.mults

      by_checks : (w : Verdict) → ladder_checks call s degree v m ≡ w → (o : Option (List Float)) → point_parameters v (point_count s) (point_at s) ≡ o
          → HandsOut degree (w next (fit_with v.factor s degree (fit_by call) o)) l l' (Ok f) → ReadsBack v s degree l' f
      by_checks (Err x) e o p h = refusal x h.answer
      by_checks (Ok p₀) e none p h = refusal _ h.answer
      by_checks (Ok p₀) e (some params) p h = by-fit params p e (fit_by call (along params)) refl h

-- of every ladder call
pub archive_reads_fit : ArchiveReadsFit
archive_reads_fit call s degree v l l' f h = hands-back call s degree v l l' f l (λ e. e) h.hands

-- ---- for C

-- a call judged with nothing lent is refused
lends : (call : Call) (s : List Float) (degree : ℕ) (v : Metric) (b : Bool) (l : Lent) → ladder_checks call s degree v (cond b l nothing) ≡ pass → ladder_checks call s degree v l ≡ pass
lends call s degree v true l e = e
lends call s degree v false l e = let g = checks_give call s degree v nothing e in absurd (omega (arith, g.0.least, g.2.for_poles))

-- a result without one is a fit
fit_told : (degree : ℕ) (r : FitResult) → 0 ≡ number_in r → (f : Fit) × (answer_of degree r ≡ Ok f)
unfolding answer_of
fit_told degree (Ok a) e = (fit_of degree a, refl)
fit_told degree (Err c) e = absurd (omega (arith, numbered c))

pub told_reads_fit : ToldReadsFit
told_reads_fit call s degree v l l' most most' counts counts' t =
    let m = judged l most counts in
    let a = fit_told degree (result_of call s degree v m) t.number in
    let told : HandsOut degree (result_of call s degree v m) l l' (Ok a.0) = rw a.1 at t.hands in
    (a.0, (t.most ∙ ap (λ (r : Answer). told_largest r most) a.1, (t.told ∙ ap (λ (r : Answer). told_counts r counts) a.1, hands-back call s degree v l l' a.0 m (lends call s degree v (tellable most counts) l) told)))

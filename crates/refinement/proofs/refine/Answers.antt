-- The spans' ends and worst deviations stand in front of the first poles and of the squares. The two tests are those of `with_knots`; where both fail the new knots are
-- laid down and taken in. Assumes nothing.
use Rattle.std.proofs.Common.{◌≡◌, ◌+◌, ◌≤◌, ◌++◌, length, take, drop, sym, ap, refl, ◌∙◌, arith, take_at}
use Rattle.std.specs.Prelude.{Some}
use mathlib.Core.Option.{none}
use Rattle.geometry.specs.Order.{sorted}
use Rattle.geometry.specs.Root.{roots_of}
use Rattle.geometry.proofs.SortLaws.{length-sorted}
use Rattle.refinement.specs.Refinement.{span_ends, span_worsts, refined_knots}
use Rattle.refinement.specs.Round.{round_knots}
use Rattle.refinement.proofs.SpanLaws.{spans, ends-front, length-worsts}
use Rattle.refinement.proofs.RoundLaws.{Found, found-knots, found-length, found-few, refined_empty, refined-full, refined-some, all-long}
use Rattle.refinement.proofs.refine.Goals as goal
use Rattle.refinement.proofs.refine.Goals.{After-span_ends-count, After-count-inserted, Joined-then-inserted-eq0, then-inserted-eq0-via-then-inserted-eq0, then-inserted-eq0-via-else-inserted-eq0+then-params-l}

ends_are : (x : After-span_ends-count) → take x.span_ends-count.result x.span_ends-count.new.firsts ≡ span_ends x.args.firsts.now
ends_are x = let y = x.span_ends-count in ends-front x.args.firsts.now y.new.firsts y.result y.ensures.count y.ensures.in_front

pub invariant_of-spans : goal.invariant_of-spans
invariant_of-spans c =
    let firsts = c.args.firsts.now in
    let g = spans firsts in
    let n : length firsts ≡ length c.args.params.now = c.requires.placed in
    rw (ends_are (goal.at.invariant_of-spans c).After-span_ends-count, ← n) (record { rising = g.rising; within = g.within })

-- what the steps up to the count find
found : (x : After-count-inserted) → let a = x.args in let n = x.span_ends-count.result in
    Found a.params.now a.squares.now a.firsts.now a.most a.tolerance (take n x.span_ends-count.new.firsts) (take n x.find_worsts.new.squares) x.threshold_of-threshold.result x.count-inserted.result
found x =
    let a = x.args in
    let y = x.span_ends-count in
    let e = ends-front a.firsts.now y.new.firsts y.result y.ensures.count y.ensures.in_front in
    let worsts = span_worsts (roots_of a.squares.now) (span_ends a.firsts.now) in
    let n : length worsts ≡ y.result = length-worsts (roots_of a.squares.now) (span_ends a.firsts.now) ∙ sym y.ensures.count in
    record {
      ends_are = e;
      worsts_are = ap (take y.result) x.find_worsts.ensures ∙ rw e (take_at worsts (drop (length worsts) a.squares.now) y.result n);
      threshold_is = x.threshold_of-threshold.ensures;
      count_is = x.count-inserted.ensures;
    }

few : (x : After-count-inserted) → x.count-inserted.result ≤ length x.args.firsts.now
few x = found-few (found x)

pub overflow_add-l : goal.overflow_add-l
overflow_add-l c = omega (arith, few (goal.at.overflow_add-l c).After-count-inserted)

pub returns-then-inserted-eq0 : goal.returns-then-inserted-eq0
returns-then-inserted-eq0 c =
    let a = c.args in
    let f = found (goal.at.returns-then-inserted-eq0 c).After-count-inserted in
    let flat = c.requires.flat_there in
    let none_new : refined_knots a.params.now a.firsts.now (roots_of a.squares.now) a.most a.tolerance a.degree (take a.l a.flat.now) ≡ none =
    elim c.then-inserted-eq0.branch [
      | then-inserted-eq0-via-then-inserted-eq0 w ↦ refined_empty f a.degree a.l a.flat.now flat w.if-inserted-eq0.true
      | then-inserted-eq0-via-else-inserted-eq0+then-params-l w ↦ refined-full f a.degree a.l a.flat.now flat w.if-params-l.true
    ] in
    rw none_new (record { value = refl; flat_after = refl; fresh_after = refl; squares_after = rw f.ends_are at c.find_worsts.ensures; firsts_after = c.span_ends-count.ensures.in_front })

pub returns : goal.returns
returns c =
    let a = c.args in
    let f = found (goal.at.returns c).After-count-inserted in
    let flat = c.requires.flat_there in
    let some_new = refined-some f a.degree a.l a.flat.now flat c.if-inserted-eq0.false c.if-params-l.false in
    let laid = c.lay_knots.ensures ∙ found-knots f in
    let new = round_knots a.params.now a.squares.now a.firsts.now a.most a.tolerance in
    let count : length new ≡ c.count-inserted.result = found-length f in
    let long : length (sorted (take a.l a.flat.now ++ new)) ≡ a.l + c.count-inserted.result = all-long f a.degree a.l a.flat.now flat in
    rw some_new
    (record {
      value = ap Some (sym long);
      flat_after = c.take_in.ensures.all ∙ rw (laid, count, long);
      fresh_after = rw (length-sorted new, count, c.take_in.ensures.fresh_sorted, laid);
      squares_after = rw f.ends_are at c.find_worsts.ensures;
      firsts_after = c.span_ends-count.ensures.in_front;
    })

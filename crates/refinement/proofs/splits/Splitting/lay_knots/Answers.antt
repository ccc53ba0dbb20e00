-- Each turn takes the next span that splits (Chosen), and lays its knot at the next place. Assumes nothing.
use Rattle.std.proofs.Common.{◌≡◌, ℕ, ◌<◌, Bool, Option, Some, None, length, refl, arith, rules, tests, ext_get_or}
use Rattle.std.proofs.lemmas.Grind.{common_steps}
use Rattle.std.proofs.lemmas.Iterator.{YieldsList-from_range}
use Rattle.std.proofs.lemmas.Iterator.Consumers.{YieldsList-at, YieldsList-from_filter, YieldsList-from_enumerate}
use lib.Ieee.{nan}
use Rattle.places.specs.Places.{count_below}
use Rattle.refinement.specs.Refinement.{splits, middle_knot, knots_at}
use Rattle.refinement.specs.declared.splits.Splitting.{Splitting}
use Rattle.refinement.proofs.SplitLaws.{Chosen, next_chosen, length-knots, splits_wide}
use Rattle.refinement.proofs.splits.Splitting.lay_knots.Goals as goal
use Rattle.refinement.proofs.splits.Splitting.lay_knots.Goals.{After-next}

abbrev split : Splitting → ℕ → Bool
split a = splits a.spans.ends.now a.worsts.now a.tolerance a.threshold

abbrev Next : Splitting → ℕ → Option (ℕ × ℕ) → Type 0
Next a i r = let n = length a.spans.ends.now in ((q : ℕ × ℕ) → r ≡ Some q → Chosen (split a) n i q) × (r ≡ None → i ≡ count_below n (split a))

next_is : (x : After-next) → Next x.args.self (length x.loop-at.yielded) x.next.result
next_is x =
    let a = x.args.self in
    let n = length a.spans.ends.now in
    next_chosen (split a) n
    (YieldsList-at x.into_iter-at-iterator.ensures.into_iter_gives
    (YieldsList-from_enumerate
    (YieldsList-at x.enumerate-at-items.ensures.source
    (YieldsList-from_filter _ (split a) (YieldsList-at x.filter-splitting.ensures.source (YieldsList-from_range 0 n n refl (omega arith))) x.filter-splitting.ensures.closure (λ x r q k. search (rules, tests))))
    x.enumerate-at-items.ensures.count))
    x.loop-at.yielded x.loop-at.yielded_by x.next.ensures.steps

pub middle_knot-requires : goal.middle_knot-requires
middle_knot-requires c = let t = (next_is (goal.at.middle_knot-requires c).After-next).0 _ c.in-Some.is in (t.below, splits_wide _ _ _ _ _ t.has)

pub offset_bounds-fresh-at : goal.offset_bounds-fresh-at
offset_bounds-fresh-at c = let t = (next_is (goal.at.offset_bounds-fresh-at c).After-next).0 _ c.in-Some.is in let y : c.in-Some.at < length c.loop-at.fresh = omega (arith, t.place, t.room, c.requires) in search rules

pub bounds-fresh-at : goal.bounds-fresh-at
bounds-fresh-at c = let t = (next_is (goal.at.bounds-fresh-at c).After-next).0 _ c.in-Some.is in omega (arith, t.place, t.room, c.requires)

pub loop-at-preserved : goal.loop-at-preserved
unfolding knots_at
loop-at-preserved c =
    let t = (next_is (goal.at.loop-at-preserved c).After-next).0 _ c.in-Some.is in
    λ k l. grind (arith, common_steps, c.loop-at.invariant k, t.gathers (middle_knot c.args.self.spans.params.now c.args.self.spans.ends.now))

pub returns : goal.returns
returns c =
    let a = c.args.self in
    let e = (next_is (goal.at.returns c).After-next).1 c.in-None.is in
    let m = length-knots a.spans.params.now a.spans.ends.now a.worsts.now a.tolerance a.threshold in
    ext_get_or nan _ _ (omega arith) (λ k l. c.loop-at.invariant k (omega arith))

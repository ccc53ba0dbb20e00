-- The knots of the spans passed stand in front. Assumes nothing.
use Rattle.std.proofs.Common.{◌≡◌, ℕ, ◌<◌, length}
use Rattle.geometry.specs.Doubles.{at}
use Rattle.refinement.specs.Refinement.{knots_at}
use Rattle.refinement.proofs.splits.Splitting.lay_knots.Given as goal

abbrev pub invariant-loop-at : goal.invariant-loop-at
invariant-loop-at l =
    let x = l.fn.self in
    (k : ℕ) → k < length l.yielded → at l.fresh k ≡ at (knots_at x.spans.params.now x.spans.ends.now x.worsts.now x.tolerance x.threshold) k

-- The rounds that are left always come to the definition's, and the knots left to add fall. Assumes nothing.
use Prim.Native.Nat.{◌+◌, ◌-◌}
use lib.ListN.{length}
use Rattle.fitting.proofs.RoundsLaws.{Rounding}
use Rattle.fitting.proofs.refining.fit_with_refined_knots.Given as goal

abbrev pub invariant-loop-measured : goal.invariant-loop-measured
invariant-loop-measured l = Rounding l.job l.tolerance l.at

abbrev pub decreases-loop-measured : goal.decreases-loop-measured
decreases-loop-measured l = length l.job.params.now + l.job.degree + 2 - l.at.knots.count

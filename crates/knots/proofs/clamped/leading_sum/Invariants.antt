-- The sum of the parameters passed. Assumes nothing.
use Rattle.std.proofs.Common.{◌≡◌, ℕ, ◌+◌}
use Rattle.geometry.specs.Doubles.{at, sum_below}
use Rattle.knots.proofs.clamped.leading_sum.Given as goal

abbrev pub invariant-loop-x : goal.invariant-loop-x
invariant-loop-x l = l.sum ≡ sum_below l.x-index (λ (k : ℕ). at l.params (k + 1))

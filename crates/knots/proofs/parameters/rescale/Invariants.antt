-- The places passed are multiplied, and those that follow are as they were. Assumes nothing.
use Rattle.std.proofs.Common.{◌≡◌, ℕ, ◌<◌, ◌≤◌}
use Rattle.geometry.specs.Doubles.{◌⊗◌, at}
use Rattle.knots.proofs.parameters.rescale.Given as goal

abbrev pub invariant-loop-x : goal.invariant-loop-x
invariant-loop-x l =
    ((k : ℕ) → k < l.x-index → at l.out k ≡ at l.initial.out k ⊗ l.inverse) × ((k : ℕ) → l.x-index ≤ k → at l.out k ≡ at l.initial.out k)

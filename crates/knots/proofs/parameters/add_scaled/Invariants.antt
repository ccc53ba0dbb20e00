-- The places passed are added to, and those that follow are as they were. Assumes nothing.
use Rattle.std.proofs.Common.{◌≡◌, ℕ, ◌<◌, ◌≤◌}
use Rattle.geometry.specs.Doubles.{◌⊕◌, ◌⊗◌, at}
use Rattle.knots.proofs.parameters.add_scaled.Given as goal

abbrev pub invariant-loop-k : goal.invariant-loop-k
invariant-loop-k l =
    ((j : ℕ) → j < l.k → at l.sums j ≡ at l.initial.sums j ⊕ at l.line j ⊗ l.inverse) × ((j : ℕ) → l.k ≤ j → at l.sums j ≡ at l.initial.sums j)

-- Before turn j the first j inner knots stand in their places. Assumes nothing.
use Rattle.std.proofs.Common.{◌≡◌, ℕ, ◌<◌}
use Rattle.geometry.specs.Doubles.{at}
use Rattle.knots.specs.Knots.{spread_knot}
use Rattle.knots.proofs.clamped.spread.Given as goal

abbrev pub invariant-loop-j : goal.invariant-loop-j
invariant-loop-j l = (k : ℕ) → k < l.j → at l.inner k ≡ spread_knot l.params l.poles l.degree k

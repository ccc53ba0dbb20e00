-- Before turn j the first j inner knots stand in their places, and `sum` is the sum that knot j adds to. Assumes nothing.
use Rattle.std.proofs.Common.{◌≡◌, ℕ, ◌<◌}
use Rattle.geometry.specs.Doubles.{at}
use Rattle.knots.specs.Knots.{carried, averaged_knot}
use Rattle.knots.proofs.clamped.average.Given as goal

abbrev pub invariant-loop-j : goal.invariant-loop-j
invariant-loop-j l = (l.sum ≡ carried l.params l.degree l.j) × ((k : ℕ) → k < l.j → at l.inner k ≡ averaged_knot l.params l.degree k)

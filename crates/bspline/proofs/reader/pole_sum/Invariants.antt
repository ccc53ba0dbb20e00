-- The invariant: the sum so far is the weighted sum of the poles passed. Assumes nothing.
use mathlib.Core.Path.{◌≡◌}
use Prim.Native.Nat.{◌+◌}
use Rattle.geometry.specs.Doubles.{at}
use Rattle.geometry.specs.Points.{weighted, point_at}
use Rattle.bspline.proofs.reader.pole_sum.Given as goal

abbrev pub invariant-loop-a : goal.invariant-loop-a
invariant-loop-a l = l.sum ≡ weighted l.a (at l.values) (λ k. point_at l.poles (l.first + k))

-- The loop's invariant: the first k points stand in their places. Assumes nothing.
use mathlib.Core.Path.{◌≡◌}
use mathlib.Core.List.{◌++◌}
use Prim.Native.Nat.{◌*◌}
use lib.ListN.{drop}
use Rattle.geometry.specs.Points.{points_of}
use Rattle.knots.specs.OnLines.{on_line}
use Rattle.solving.proofs.through.put_line.Given as goal

abbrev pub invariant-loop-k : goal.invariant-loop-k
invariant-loop-k l = l.poles ≡ points_of l.k (on_line l.fn.line) ++ drop (3 * l.k) l.initial.poles

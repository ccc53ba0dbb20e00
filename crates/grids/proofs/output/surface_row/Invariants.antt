-- The invariant: the first l poles of the row stand at its front. Assumes nothing.
use mathlib.Core.Path.{◌≡◌}
use mathlib.Core.List.{◌++◌}
use Prim.Native.Nat.{◌+◌, ◌*◌}
use lib.ListN.{drop}
use Rattle.geometry.specs.Points.{point_at, points_of}
use Rattle.grids.proofs.output.surface_row.Given as goal

abbrev pub invariant-loop-l : goal.invariant-loop-l
invariant-loop-l l = l.row ≡ points_of l.l (λ i. point_at l.from (i * l.count + l.k)) ++ drop (3 * l.l) l.fn.row

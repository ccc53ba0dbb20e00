-- The invariant: the first l poles of the curve stand in their places. Assumes nothing.
use mathlib.Core.Path.{◌≡◌}
use mathlib.Core.List.{◌++◌}
use Prim.Native.Nat.{◌*◌}
use lib.ListN.{drop}
use Rattle.geometry.specs.Points.{points_of}
use Rattle.tables.specs.BasisTable.{table_point}
use Rattle.tables.specs.Layout.{table_of}
use Rattle.tables.proofs.deviations.curve_poles.Given as goal

abbrev pub invariant-loop-l : goal.invariant-loop-l
invariant-loop-l l = l.curve ≡ points_of l.l (λ k. table_point (table_of l.u) l.poles (k * l.u.poles) l.i) ++ drop (3 * l.l) l.fn.curve

-- The invariant: the first k rows of poles stand at the front. Assumes nothing.
use mathlib.Core.Path.{◌≡◌}
use mathlib.Core.List.{◌++◌}
use Prim.Native.Nat.{◌*◌}
use lib.ListN.{drop}
use Rattle.places.specs.Places.{joined}
use Rattle.grids.proofs.SurfaceLaws.{surface_row}
use Rattle.grids.proofs.output.surface_poles.Given as goal

abbrev pub invariant-loop-k : goal.invariant-loop-k
invariant-loop-k l = l.poles ≡ joined l.k (surface_row l.columns l.count l.from) ++ drop (l.k * (3 * l.columns)) l.fn.poles

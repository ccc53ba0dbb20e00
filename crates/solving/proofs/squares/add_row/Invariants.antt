-- The loop's invariant: what the values that are left make of the matrix is what all of them make of the one at the start. Assumes nothing.
use mathlib.Core.Path.{◌≡◌}
use Prim.Native.Nat.{◌+◌}
use Rattle.places.specs.Loops.{each}
use Rattle.solving.specs.Steps.{add_row_value}
use Rattle.solving.proofs.squares.add_row.Given as goal

abbrev pub invariant-loop-a : goal.invariant-loop-a
invariant-loop-a l = each l.a (l.row.degree + 1) (add_row_value l.row.degree l.row.first l.row.values.now) l.band ≡ each 0 (l.row.degree + 1) (add_row_value l.row.degree l.row.first l.row.values.now) l.initial.band

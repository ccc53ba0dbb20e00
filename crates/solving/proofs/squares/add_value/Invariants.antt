-- The loop's invariant: what the products that are left make of the matrix is what all of them make of the one at the start. Assumes nothing.
use mathlib.Core.Path.{◌≡◌}
use Prim.Native.Nat.{◌+◌}
use Rattle.places.specs.Loops.{each}
use Rattle.solving.specs.Steps.{add_row_product, add_row_value}
use Rattle.solving.proofs.squares.add_value.Given as goal

abbrev pub invariant-loop-c : goal.invariant-loop-c
invariant-loop-c l = each l.c (l.a + 1) (add_row_product l.p l.row.first l.a l.x l.row.values.now) l.band ≡ add_row_value l.p l.row.first l.row.values.now l.a l.initial.band

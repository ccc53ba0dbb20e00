-- The loop's invariant: what the rows that are left make of the points is what all of them make of those at the start. Assumes nothing.
use mathlib.Core.Path.{◌≡◌}
use Rattle.places.specs.Loops.{each}
use Rattle.cholesky.specs.Cholesky.{forward_row}
use Rattle.cholesky.proofs.forward_rows.Given as goal

abbrev pub invariant-loop-i : goal.invariant-loop-i
invariant-loop-i l = each l.i l.n (forward_row l.h l.lower) l.poles ≡ each 0 l.n (forward_row l.h l.lower) l.initial.poles

-- The loop's invariant: what the rows that are left make of the points is what all of them make of those at the start. Assumes nothing.
use mathlib.Core.Path.{◌≡◌}
use Rattle.places.specs.Loops.{down}
use Rattle.cholesky.specs.Cholesky.{back_row}
use Rattle.cholesky.proofs.back_rows.Given as goal

abbrev pub invariant-loop-i : goal.invariant-loop-i
invariant-loop-i l = down l.i (back_row l.h l.n l.lower) l.poles ≡ down l.n (back_row l.h l.n l.lower) l.initial.poles

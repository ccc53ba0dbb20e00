-- The loop's invariant: what the rows that are left make of the list, if none stops, is what all of them from row 3 on make of it, and what the next row needs is
-- carried. Assumes nothing.
use mathlib.Core.Path.{◌≡◌}
use Rattle.places.specs.Loops.{each_while}
use Rattle.cholesky.specs.Cholesky.{factor_row}
use Rattle.cholesky.specs.Carried.{Above}
use Rattle.cholesky.proofs.carried.factor_rest.Given as goal

abbrev pub invariant-loop-i : goal.invariant-loop-i
invariant-loop-i l = Above l.i l.above l.lower × (each_while l.i l.n (factor_row 3 l.floor) l.lower ≡ each_while 3 l.n (factor_row 3 l.floor) l.initial.lower)

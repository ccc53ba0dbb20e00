-- The loop's invariant: what the rows that are left make of the list, if none stops, is what all of them make of it. Assumes nothing.
use mathlib.Core.Path.{◌≡◌}
use Rattle.places.specs.Loops.{each_while}
use Rattle.cholesky.specs.Cholesky.{factor_row}
use Rattle.cholesky.proofs.factor_rows.Given as goal

abbrev pub invariant-loop-i : goal.invariant-loop-i
invariant-loop-i l = each_while l.i l.n (factor_row l.h l.floor) l.lower ≡ each_while 0 l.n (factor_row l.h l.floor) l.initial.lower

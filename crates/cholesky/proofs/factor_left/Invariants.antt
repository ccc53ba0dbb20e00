-- The loop's invariant: what the entries that are left make of the list is what the whole row makes of it. Assumes nothing.
use mathlib.Core.Path.{◌≡◌}
use Rattle.places.specs.Loops.{each}
use Rattle.cholesky.specs.Cholesky.{factor_entry, factor_left}
use Rattle.cholesky.proofs.factor_left.Given as goal

abbrev pub invariant-loop-j : goal.invariant-loop-j
invariant-loop-j l = each l.j l.i (factor_entry l.h l.i) l.lower ≡ factor_left l.h l.i l.initial.lower

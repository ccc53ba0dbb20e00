-- The loop's invariant: what the rows that are left make of the rest is what all of them make of it. Assumes nothing.
use mathlib.Core.Path.{◌≡◌}
use Prim.Native.Nat.{◌+◌, ◌*◌}
use lib.ListN.{length}
use Rattle.places.specs.Loops.{each}
use Rattle.lu.specs.BelowPivot.{clear_row, clear_below}
use Rattle.lu.proofs.clear_below.Given as goal

abbrev pub invariant-loop-d : goal.invariant-loop-d
invariant-loop-d l = each l.d (length l.pivot) (clear_row (2 * l.h + 1) l.h (length l.pivot) l.pivot l.inverse) l.rest ≡ clear_below (2 * l.h + 1) l.h (length l.pivot) l.pivot l.inverse l.initial.rest

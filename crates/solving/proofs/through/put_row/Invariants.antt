-- The loop's invariant: what the values that are left make of the row is what all of them make of it. Assumes nothing.
use mathlib.Core.Path.{◌≡◌}
use Prim.Native.Nat.{◌+◌}
use Rattle.places.specs.Loops.{each}
use Rattle.solving.specs.Through.{put_column}
use Rattle.solving.proofs.through.put_row.Given as goal

abbrev pub invariant-loop-a : goal.invariant-loop-a
invariant-loop-a l = each l.a (l.row.degree + 1) (put_column l.h l.j l.row.first l.row.values.now) l.band ≡ each 0 (l.row.degree + 1) (put_column l.h l.j l.row.first l.row.values.now) l.initial.band

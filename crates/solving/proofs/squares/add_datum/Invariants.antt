-- The loop's invariant: what the values that are left make of the poles is what all of them make of those at the start. Assumes nothing.
use mathlib.Core.Path.{◌≡◌}
use Prim.Native.Nat.{◌+◌}
use Rattle.places.specs.Loops.{each}
use Rattle.solving.specs.Steps.{add_to_pole}
use Rattle.solving.proofs.squares.add_datum.Given as goal

abbrev pub invariant-loop-a : goal.invariant-loop-a
invariant-loop-a l = each l.a (l.row.degree + 1) (add_to_pole l.row.first l.q l.row.values.now) l.poles ≡ each 0 (l.row.degree + 1) (add_to_pole l.row.first l.q l.row.values.now) l.initial.poles

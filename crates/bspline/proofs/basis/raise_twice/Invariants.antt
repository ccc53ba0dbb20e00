-- Before turn r the first r functions of degree j + 1 stand, `lower` and `upper` are the first terms of function r of degree j and of degree j + 1, and the knots begin
-- r places on. Assumes nothing.
use Prim.Native.Nat.{◌+◌, ◌-◌}
use mathlib.Core.Path.{◌≡◌}
use mathlib.Core.List.{◌++◌}
use lib.ListN.{take, drop}
use Rattle.places.specs.Places.{list_of}
use Rattle.geometry.specs.Doubles.{at}
use Rattle.bspline.specs.Basis.{left_of, right_of, rising, row}
use Rattle.bspline.proofs.basis.raise_twice.Given as goal

abbrev pub invariant-loop-value : goal.invariant-loop-value
invariant-loop-value l =
    let L = left_of l.flat l.span l.u in
    let R = right_of l.flat l.span l.u in
    let N = at l.fn.values in
    (l.lower ≡ rising L R N l.j l.value-index)
    × (l.upper ≡ rising L R (row L R N l.j) (l.j + 1) l.value-index)
    × (l.value-items ≡ list_of l.value-index (row L R (row L R N l.j) (l.j + 1)) ++ drop l.value-index (take l.j l.fn.values))
    × (l.knots ≡ drop (l.span - l.j + l.value-index) l.flat)

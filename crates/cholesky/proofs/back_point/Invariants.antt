-- The loop's invariant: what the rows that are left make of the point is what all of them make of point i. Assumes nothing.
use mathlib.Core.Path.{◌≡◌}
use mathlib.Core.List.{List}
use Prim.Native.Nat.{ℕ, ◌+◌}
use lib.Ieee.{Float}
use Rattle.places.specs.Loops.{each}
use Rattle.geometry.specs.declared.Point.{Point}
use Rattle.geometry.specs.Points.{point_at, less_scaled}
use Rattle.bands.specs.Bands.{reach}
use Rattle.cholesky.specs.Cholesky.{lower_entry}
use Rattle.cholesky.proofs.back_point.Given as goal

abbrev turn : ℕ → List Float → List Float → ℕ → ℕ → Point → Point
turn h lower poles i k x = less_scaled x (lower_entry h lower k i) (point_at poles k)

abbrev pub invariant-loop-k : goal.invariant-loop-k
invariant-loop-k l =
    let f : ℕ → Point → Point = turn l.h l.lower l.poles l.i in
    each l.k (reach l.h l.n l.i) f l.x ≡ each (l.i + 1) (reach l.h l.n l.i) f (point_at l.poles l.i)

-- The loop's invariant: what the columns that are left make of the point is what all of them make of point i. Assumes nothing.
use mathlib.Core.Path.{◌≡◌}
use mathlib.Core.List.{List}
use Prim.Native.Nat.{ℕ}
use lib.Ieee.{Float}
use Rattle.places.specs.Loops.{each}
use Rattle.geometry.specs.declared.Point.{Point}
use Rattle.geometry.specs.Points.{point_at, less_scaled}
use Rattle.bands.specs.Bands.{entry}
use Rattle.bands.proofs.Band.solved_row.Given as goal

abbrev turn : ℕ → ℕ → List Float → List Float → ℕ → ℕ → Point → Point
turn w h factors poles i k x = less_scaled x (entry w h factors i k) (point_at poles k)

abbrev pub invariant-loop-k : goal.invariant-loop-k
invariant-loop-k l =
    let f : ℕ → Point → Point = turn l.self.width l.self.half l.self.places.now l.poles l.i in
    each l.k l.end f l.x ≡ each l.start l.end f (point_at l.poles l.i)

-- The loop's invariant: what the rows that are left make of the points is what all of them make of those at the start. Assumes nothing.
use mathlib.Core.Path.{◌≡◌}
use mathlib.Core.List.{List}
use Prim.Native.Nat.{ℕ}
use lib.Ieee.{Float}
use Rattle.places.specs.Loops.{each}
use Rattle.geometry.specs.declared.Point.{Point}
use Rattle.bands.specs.Bands.{reach}
use Rattle.lu.specs.BandLu.{band_entry, less_point, forward_step}
use Rattle.lu.proofs.forward_step.Given as goal

abbrev turn : ℕ → ℕ → Point → List Float → ℕ → List Float → List Float
turn h k q band i = less_point i (band_entry h band i k) q

abbrev pub invariant-loop-i : goal.invariant-loop-i
invariant-loop-i l = each l.i (reach l.h l.n l.k) (turn l.h l.k l.q l.band) l.poles ≡ forward_step l.h l.n l.band l.k l.initial.poles

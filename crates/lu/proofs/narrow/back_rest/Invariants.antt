-- The loop's invariant: what the rows that are left make of the points is what all of them make of those at the start, and two points are known. Assumes nothing.
use mathlib.Core.Path.{◌≡◌}
use Rattle.places.specs.Loops.{down}
use Rattle.lu.specs.BandLu.{back_band_row}
use Rattle.lu.specs.Narrow.{Known}
use Rattle.lu.proofs.narrow.back_rest.Given as goal

abbrev pub invariant-loop-i : goal.invariant-loop-i
invariant-loop-i l = Known l.i l.known l.poles × (down l.i (back_band_row 2 l.n l.band) l.poles ≡ down l.most (back_band_row 2 l.n l.band) l.initial.poles)

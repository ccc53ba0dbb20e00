-- The loop's invariant: what the rows that are left make of the points is what all of them make of those at the start. Assumes nothing.
use mathlib.Core.Path.{◌≡◌}
use Rattle.places.specs.Loops.{down}
use Rattle.lu.specs.BandLu.{back_band_row}
use Rattle.lu.proofs.back_band_rows.Given as goal

abbrev pub invariant-loop-i : goal.invariant-loop-i
invariant-loop-i l = down l.i (back_band_row l.h l.n l.band) l.poles ≡ down l.n (back_band_row l.h l.n l.band) l.initial.poles

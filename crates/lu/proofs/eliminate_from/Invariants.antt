-- The loop's invariant: what the pivots that are left make of the band is what all of them make of it. Assumes nothing.
use mathlib.Core.Path.{◌≡◌}
use Rattle.places.specs.Loops.{each}
use Rattle.lu.specs.BandLu.{eliminate}
use Rattle.lu.proofs.eliminate_from.Given as goal

abbrev pub invariant-loop-k : goal.invariant-loop-k
invariant-loop-k l = each l.k l.n (eliminate l.h l.n) l.band ≡ each l.start l.n (eliminate l.h l.n) l.initial.band

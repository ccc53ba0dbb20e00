-- The loop's invariant: what the pivots that are left make of the points is what all of them make of those at the start. Assumes nothing.
use mathlib.Core.Path.{◌≡◌}
use Rattle.places.specs.Loops.{each}
use Rattle.lu.specs.BandLu.{forward_step}
use Rattle.lu.proofs.forward_steps.Given as goal

abbrev pub invariant-loop-k : goal.invariant-loop-k
invariant-loop-k l = each l.k l.n (forward_step l.h l.n l.band) l.poles ≡ each 0 l.n (forward_step l.h l.n l.band) l.initial.poles

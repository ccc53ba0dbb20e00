-- The loop's invariant: what the places that are left make of the rest is what all of them make of it once the multiplier is put. Assumes nothing.
use mathlib.Core.Path.{◌≡◌}
use lib.ListN.{length}
use Rattle.places.specs.Loops.{each}
use Rattle.lu.specs.BelowPivot.{less_place}
use Rattle.lu.proofs.less_places.Given as goal

abbrev pub invariant-loop-m : goal.invariant-loop-m
invariant-loop-m l = each l.m (length l.pivot) (less_place l.at l.multiplier l.pivot) l.rest ≡ each 0 (length l.pivot) (less_place l.at l.multiplier l.pivot) l.initial.rest

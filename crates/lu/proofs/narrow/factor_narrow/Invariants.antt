-- The loop's invariant: what the pivots that are left make of the band is what all of them make of it, and what the next needs is carried. Assumes nothing.
use mathlib.Core.Path.{◌≡◌}
use Rattle.places.specs.Loops.{each}
use Rattle.lu.specs.BandLu.{eliminate, factor_band}
use Rattle.lu.specs.Narrow.{Carried}
use Rattle.lu.proofs.narrow.factor_narrow.Given as goal

abbrev pub invariant-loop-k : goal.invariant-loop-k
invariant-loop-k l = Carried l.k l.row l.band × (each l.k l.n (eliminate 2 l.n) l.band ≡ factor_band 2 l.n l.initial.band)

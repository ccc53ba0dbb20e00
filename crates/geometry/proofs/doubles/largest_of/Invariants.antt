-- The loop's invariant: the fold from `most` over what is left is the fold over all. Assumes nothing.
use Rattle.std.proofs.Common.{◌≡◌, drop}
use Rattle.geometry.specs.Doubles.{largest_from, largest}
use Rattle.geometry.proofs.doubles.largest_of.Given as goal

abbrev pub invariant-loop-x : goal.invariant-loop-x
invariant-loop-x l = largest_from l.most (drop l.x-index l.list) ≡ largest l.list

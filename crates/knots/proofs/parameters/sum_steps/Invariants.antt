-- The sums up to the chords passed stand in their places, and `total` is the last; the chords that follow stand in theirs. Assumes nothing.
use Rattle.knots.proofs.ParameterLaws.{Stepped}
use Rattle.knots.proofs.parameters.sum_steps.Given as goal

abbrev pub invariant-loop-x : goal.invariant-loop-x
invariant-loop-x l = Stepped l.spacing l.initial.out l.x-index l.out l.total

-- The definition, bound by bound. Assumes nothing.
use Rattle.bspline.specs.Refusals.{outside}
use Rattle.checks.proofs.ladder.is_outside.Goals as goal
use Rattle.checks.proofs.ladder.is_outside.Goals.{then-x, else-x}

pub returns : goal.returns
unfolding outside
returns c = elim c.if-x.branch [ then-x w ↦ rw (w.result-is, w.if-x.true) | else-x w ↦ rw (w.result-is, w.if-x.false) ]

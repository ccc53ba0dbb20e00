-- The definition, by the test. Assumes nothing.
use Rattle.geometry.specs.Doubles.{larger}
use Rattle.geometry.proofs.doubles.max.Goals as goal

pub returns-then-x-y : goal.returns-then-x-y
unfolding larger
returns-then-x-y c = simp c.if-x-y.true

pub returns-else-x-y : goal.returns-else-x-y
unfolding larger
returns-else-x-y c = simp c.if-x-y.false

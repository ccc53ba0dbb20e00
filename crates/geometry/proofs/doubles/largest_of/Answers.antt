-- The loop's invariant: the fold from `most` over what is left is the fold over all. Assumes nothing.
use Rattle.std.proofs.Common.{sym, refl, ◌∙◌}
use Rattle.geometry.specs.Doubles.{largest}
use Rattle.geometry.proofs.Folds.{largest_step, largest_end}
use Rattle.geometry.proofs.doubles.largest_of.Goals as goal

pub loop-x-init : goal.loop-x-init
unfolding largest lib.Ieee.of_bits
loop-x-init c = refl

pub loop-x-preserved : goal.loop-x-preserved
loop-x-preserved c = rw c.max-most.ensures (sym (largest_step _ _ _ c.loop-x-test.true) ∙ c.loop-x.invariant)

pub returns : goal.returns
returns c = sym (largest_end _ _ _ c.loop-x-test.false) ∙ c.loop-x.invariant

-- The sums up to the chords passed stand in their places, and `total` is the last; the chords that follow stand in theirs. Assumes nothing.
use Rattle.std.proofs.Common.{arith}
use Rattle.knots.proofs.ParameterLaws.{stepped_none, stepped_next, stepped_all}
use Rattle.knots.proofs.parameters.sum_steps.Goals as goal

pub loop-x-init : goal.loop-x-init
loop-x-init c = stepped_none _ _

pub loop-x-preserved : goal.loop-x-preserved
loop-x-preserved c = let l = c.loop-x in stepped_next _ _ l.x-index l.out l.total l.invariant _ c.step-total.ensures

pub returns : goal.returns
returns c =
    let l = c.loop-x in
    let all = stepped_all _ _ l.x-index l.out l.total l.invariant (omega arith) in
    record { last = all.0; stand = all.1 }

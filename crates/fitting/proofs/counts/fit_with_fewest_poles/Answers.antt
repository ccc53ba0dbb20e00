-- A try takes the search on by what came of it, and once there is nothing to try it has its answer. Assumes nothing.
use Rattle.std.proofs.Common.{refl, ◌∙◌}
use Rattle.fitting.proofs.CountLaws.{searching_fitted, searching_failed, searching_done}
use Rattle.fitting.proofs.counts.fit_with_fewest_poles.Goals as goal

pub loop-m-preserved-then-passes : goal.loop-m-preserved-then-passes
loop-m-preserved-then-passes c =
    (rw c.fitted-s.ensures (searching_fitted c.loop-m.invariant.0 c.in-Some.ensures c.if-passes.ensures.tested refl), c.if-passes.ensures.fresh_stays ∙ c.loop-m.invariant.1)

pub loop-m-preserved : goal.loop-m-preserved
loop-m-preserved c =
    (rw c.failed-s.ensures (searching_failed c.loop-m.invariant.0 c.in-Some.ensures c.if-passes.ensures.tested refl), c.if-passes.ensures.fresh_stays ∙ c.loop-m.invariant.1)

pub returns-clause-found : goal.returns-clause-found
returns-clause-found c = searching_done c.loop-m.invariant.0 c.found.ensures c.in_default.ensures

-- A round that goes on leaves more knots, and the rounds that are left come to the definition's. Assumes nothing.
use Rattle.std.proofs.Common.{rules}
use Rattle.fitting.proofs.RoundsLaws.{rounding_next}
use Rattle.fitting.proofs.refining.fit_with_refined_knots.Goals as goal

pub loop-measured-preserved : goal.loop-measured-preserved
loop-measured-preserved c = search (rules, rounding_next)

-- The two ends are all there is. Assumes nothing.
use Rattle.std.proofs.Common.{◌∙◌}
use Rattle.knots.proofs.KnotLaws.{bezier-by}
use Rattle.knots.proofs.clamped.bezier_knots.Goals as goal

pub returns : goal.returns
returns c = c.clamp_ends.ensures ∙ bezier-by c.args.degree _

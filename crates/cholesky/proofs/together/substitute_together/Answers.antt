-- Two passes over the lines. Assumes nothing.
use Rattle.cholesky.specs.Cholesky.{substitute_symmetric_band}
use Rattle.cholesky.proofs.TogetherLaws.{each_then}
use Rattle.cholesky.proofs.together.substitute_together.Goals as goal

pub returns : goal.returns
unfolding substitute_symmetric_band
returns c = each_then c.forward_together.ensures c.back_together.ensures

-- The inner knots, then the two ends. Assumes nothing.
use Rattle.std.proofs.Common.{refl}
use Rattle.knots.specs.Knots.{approximation_knots}
use Rattle.knots.proofs.KnotLaws.{clamped-by}
use Rattle.knots.proofs.clamped.approximation_knots.Goals as goal

pub returns : goal.returns
unfolding approximation_knots
returns c =
    let a = c.args in
    clamped-by a.poles a.degree _ a.flat.now c.spread.new.inner _ _ c.requires.more c.requires.room c.spread.ensures refl c.clamp_ends.ensures

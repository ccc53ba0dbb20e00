-- The inner knots, then the two ends. Assumes nothing.
use Rattle.std.proofs.Common.{refl, length}
use Rattle.knots.specs.Knots.{averaged_knots}
use Rattle.knots.proofs.KnotLaws.{clamped-by}
use Rattle.knots.proofs.clamped.averaged_knots.Goals as goal

pub returns : goal.returns
unfolding averaged_knots
returns c =
    let a = c.args in
    clamped-by (length a.params.now) a.degree _ a.flat.now c.average.new.inner _ _ c.requires.more c.requires.room c.average.ensures refl c.clamp_ends.ensures

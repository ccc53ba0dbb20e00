-- The definition, coordinate by coordinate. Assumes nothing.
use Rattle.std.proofs.Common.{refl}
use Rattle.geometry.specs.Points.{scaled}
use Rattle.geometry.proofs.Point.scaled.Goals as goal

pub returns : goal.returns
unfolding scaled
returns c = refl

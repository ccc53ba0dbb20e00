-- The definition, coordinate by coordinate. Assumes nothing.
use Rattle.std.proofs.Common.{refl}
use Rattle.geometry.specs.Points.{plus_scaled}
use Rattle.geometry.proofs.Point.plus_scaled.Goals as goal

pub returns : goal.returns
unfolding plus_scaled
returns c = refl

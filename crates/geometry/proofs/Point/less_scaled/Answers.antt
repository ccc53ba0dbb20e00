-- The definition, coordinate by coordinate. Assumes nothing.
use Rattle.std.proofs.Common.{refl}
use Rattle.geometry.specs.Points.{less_scaled}
use Rattle.geometry.proofs.Point.less_scaled.Goals as goal

pub returns : goal.returns
unfolding less_scaled
returns c = refl

-- The definition. Assumes nothing.
use Rattle.std.proofs.Common.{refl}
use Rattle.geometry.specs.Points.{squared_distance}
use Rattle.geometry.proofs.Point.squared_distance.Goals as goal

pub returns : goal.returns
unfolding squared_distance
returns c = refl

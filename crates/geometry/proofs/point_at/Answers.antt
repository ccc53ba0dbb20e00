-- The three places of the definition. Assumes nothing.
use Rattle.std.proofs.Common.{refl}
use Rattle.geometry.specs.Points.{point_at}
use Rattle.geometry.proofs.point_at.Goals as goal

pub returns : goal.returns
unfolding point_at
returns c = refl

-- The three stores of the definition. Assumes nothing.
use Rattle.std.proofs.Common.{refl, arith, length-set}
use Rattle.geometry.specs.Points.{put_point}
use Rattle.geometry.proofs.put_point.Goals as goal

pub bounds-points-at-2 : goal.bounds-points-at-2
bounds-points-at-2 c = simp length-set (omega arith)

pub bounds-points-at-3 : goal.bounds-points-at-3
bounds-points-at-3 c = simp length-set (omega arith)

pub returns : goal.returns
unfolding put_point
returns c = refl

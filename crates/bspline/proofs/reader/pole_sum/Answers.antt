-- The invariant: the sum so far is the weighted sum of the poles passed. Assumes nothing.
use mathlib.Core.Path.{refl, sym, ◌∙◌}
use Rattle.geometry.specs.Doubles.{sum_below}
use Rattle.geometry.specs.Points.{weighted}
use Rattle.geometry.proofs.PointLaws.{weighted-more}
use Rattle.bspline.proofs.reader.pole_sum.Goals as goal

pub loop-a-init : goal.loop-a-init
unfolding weighted sum_below
loop-a-init c = refl

pub loop-a-preserved : goal.loop-a-preserved
loop-a-preserved c =
    let a = c.loop-a.a in
    c.plus_scaled-sum.ensures ∙ rw (c.point_at.ensures, c.loop-a.invariant) (sym (weighted-more a _ _))

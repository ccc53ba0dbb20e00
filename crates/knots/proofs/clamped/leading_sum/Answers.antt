-- The sum of the parameters passed. Assumes nothing.
use Rattle.std.proofs.Common.{◌≡◌, ◌+◌, sym, arith}
use Rattle.std.specs.Float.{nan}
use Rattle.places.proofs.RegionLaws.{get_d_part, length_part}
use Rattle.knots.proofs.ParameterLaws.{below_none, below_more}
use Rattle.knots.proofs.clamped.leading_sum.Goals as goal

pub loop-x-init : goal.loop-x-init
loop-x-init c = sym (below_none _)

pub loop-x-preserved : goal.loop-x-preserved
loop-x-preserved c =
    let a = c.args in
    let k = c.loop-x.x-index in
    let e : 1 + k ≡ k + 1 = omega arith in
    let h = length_part 1 a.degree a.params.now (omega arith) in
    rw (below_more, ← c.loop-x.invariant, get_d_part 1 a.degree a.params.now k nan (omega (arith, h)), e)

-- `root::short_root` meets its contract. The invariant: q is at least the root. The measure is q. Assumes nothing.
use Rattle.std.proofs.Common.{arith}
use Rattle.geometry.proofs.Steps.{small_square, above_zero, one_down, found}
use Rattle.geometry.proofs.root.short_root.Goals as goal

pub overflow_mul-q : goal.overflow_mul-q
overflow_mul-q c = record { fits = small_square c.loop-q.q c.loop-q.invariant.1 }

pub overflow_sub-q : goal.overflow_sub-q
overflow_sub-q c = above_zero _ c.loop-q.q c.loop-q-test.true

pub loop-q-smaller : goal.loop-q-smaller
loop-q-smaller c = omega (arith, above_zero _ c.loop-q.q c.loop-q-test.true)

pub loop-q-preserved : goal.loop-q-preserved
loop-q-preserved c = (one_down _ c.loop-q.q c.loop-q-test.true, omega arith)

pub overflow_mul-result : goal.overflow_mul-result
overflow_mul-result c = record { fits = small_square c.loop-q.q c.loop-q.invariant.1 }

pub returns : goal.returns
returns c = found _ c.loop-q.q c.loop-q-test.false c.loop-q.invariant.0

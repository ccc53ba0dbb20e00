-- The definition, by the tests; a NaN has the rank of its one pattern. Assumes nothing.
use Rattle.std.proofs.Common.{arith, sym, ◌∙◌, le-ltb, lt-ltb}
use lib.Ieee.{binary64}
use lib.Ieee.Bits.{to_bits-lt}
use denote.Floats.{passes}
use Rattle.geometry.specs.Order.{rank_of}
use Rattle.geometry.proofs.SortLaws.{nan_rank}
use Rattle.geometry.proofs.order.rank.Goals as goal

pub returns-then-is_nan : goal.returns-then-is_nan
returns-then-is_nan c = nan_rank _ (sym c.is_nan.ensures.value ∙ c.if-is_nan.true)

pub overflow_sub-result : goal.overflow_sub-result
overflow_sub-result c = omega (arith, to_bits-lt binary64 c.args.x (passes _ c.well_formed.0.1))

pub returns-then-b-lt9223372036854775808 : goal.returns-then-b-lt9223372036854775808
unfolding rank_of
returns-then-b-lt9223372036854775808 c = rw (lt-ltb _ _ c.if-b-lt9223372036854775808.true)

pub returns-else-b-lt9223372036854775808 : goal.returns-else-b-lt9223372036854775808
unfolding rank_of
returns-else-b-lt9223372036854775808 c = rw (le-ltb _ _ c.if-b-lt9223372036854775808.false)

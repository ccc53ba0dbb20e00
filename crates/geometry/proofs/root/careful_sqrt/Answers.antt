-- NaN, zero, negative and infinite values by the laws of `Special`; every other pattern by `positive_bits`. Assumes nothing.
use Rattle.std.proofs.Common.{T, sym, refl, ◌∙◌, subst}
use lib.Ieee.{binary64, fits, to_bits}
use lib.Ieee.Bits.{of_bits-to_bits}
use Rattle.geometry.proofs.Patterns.{NotPositive, not_positive}
use Rattle.geometry.proofs.Special.{at_nan, at_zero, at_negative, not-zero, at_infinity, root_is-number, at_positive}
use Rattle.geometry.proofs.root.careful_sqrt.Goals as goal

pub returns-then-is_nan : goal.returns-then-is_nan
returns-then-is_nan c = at_nan c.args.x (sym c.is_nan.ensures.value ∙ c.if-is_nan.true)

pub returns-then-x : goal.returns-then-x
returns-then-x c = at_zero c.args.x c.if-x.true

pub returns-then-x-2 : goal.returns-then-x-2
returns-then-x-2 c = at_negative c.args.x c.if-x-2.true

-- at the call of `positive_bits` x is the value of its pattern, which lies between 0 and the infinity's; owning an `f64` tells that the format holds it
pub positive_bits-requires : goal.positive_bits-requires
positive_bits-requires c = (not-zero c.args.x (subst T (sym c.well_formed.0.1) tt) c.if-x.false, c.if-b-lt9218868437227405312.true)

pub float_from_bits-result : goal.float_from_bits-result
float_from_bits-result c =
    root_is-number _ _ (not-zero c.args.x (subst T (sym c.well_formed.0.1) tt) c.if-x.false) c.if-b-lt9218868437227405312.true c.positive_bits.ensures

pub returns-then-b-lt9218868437227405312 : goal.returns-then-b-lt9218868437227405312
returns-then-b-lt9218868437227405312 c =
    let held : T (fits binary64 c.args.x) = subst T (sym c.well_formed.0.1) tt in
    at_positive _ _ (not-zero c.args.x held c.if-x.false) c.if-b-lt9218868437227405312.true c.positive_bits.ensures c.args.x held refl

pub returns-else-b-lt9218868437227405312 : goal.returns-else-b-lt9218868437227405312
returns-else-b-lt9218868437227405312 c =
    at_infinity c.args.x c.if-x-2.false
    (subst NotPositive (of_bits-to_bits binary64 c.args.x (subst T (sym c.well_formed.0.1) tt)) (not_positive (to_bits binary64 c.args.x) c.if-b-lt9218868437227405312.false))

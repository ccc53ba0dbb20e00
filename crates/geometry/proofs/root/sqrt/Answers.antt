-- `root::sqrt` meets its contract: what the quick way finds is the root's pattern, and where it finds nothing the careful way answers. Assumes nothing.
use Rattle.std.proofs.Common.{ℕ, ◌<◌, T, sym, refl, ◌∙◌, subst, arith}
use lib.Ieee.{binary64, to_bits}
use Rattle.geometry.proofs.Special.{at_nan, root_is-number, at_positive}
use Rattle.geometry.proofs.root.sqrt.Goals as goal

pub returns-then-is_nan : goal.returns-then-is_nan
returns-then-is_nan c = at_nan c.args.x (sym c.is_nan.ensures.value ∙ c.if-is_nan.true)

-- at what was found: x's pattern lies between 0 and the infinity's, and `bits` is that of the root
pub float_from_bits-result : goal.float_from_bits-result
float_from_bits-result c =
    let b : ℕ = to_bits binary64 c.args.x in
    let above : 0 < b = omega arith in
    let below : b < 9218868437227405312 = omega arith in
    root_is-number b _ above below c.in-Some.ensures

pub returns-in-Some : goal.returns-in-Some
returns-in-Some c =
    let b : ℕ = to_bits binary64 c.args.x in
    let above : 0 < b = omega arith in
    let below : b < 9218868437227405312 = omega arith in
    at_positive b _ above below c.in-Some.ensures c.args.x (subst T (sym c.well_formed.0.1) tt) refl

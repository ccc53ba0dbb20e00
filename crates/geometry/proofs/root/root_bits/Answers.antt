-- Half the exponent with the digits' whole root, and a rest above that root rounds up. Assumes nothing.
use Rattle.std.proofs.Common.{arith}
use Rattle.geometry.proofs.Steps.{doubled, short_range, both, long_range, bits_up, bits-down}
use Rattle.geometry.proofs.root.root_bits.Goals as goal

pub overflow_mul-s : goal.overflow_mul-s
overflow_mul-s c = omega (arith, doubled c.args.s c.args.p c.requires.0 c.requires.1)

pub short_root-requires : goal.short_root-requires
short_root-requires c = doubled c.args.s c.args.p c.requires.0 c.requires.1

pub long_root-r-requires : goal.long_root-r-requires
long_root-r-requires c = short_range _ _ _ (doubled c.args.s c.args.p c.requires.0 c.requires.1) c.short_root.ensures

pub overflow_add-down : goal.overflow_add-down
overflow_add-down c =
    let r = long_range c.args.s c.args.p _ _ c.requires.0 c.requires.1 (both _ _ _ _ _ c.short_root.ensures c.long_root-r.ensures) in
    omega arith

pub overflow_add-result : goal.overflow_add-result
overflow_add-result c =
    let r = long_range c.args.s c.args.p _ _ c.requires.0 c.requires.1 (both _ _ _ _ _ c.short_root.ensures c.long_root-r.ensures) in
    omega arith

pub returns-then-r : goal.returns-then-r
returns-then-r c = bits_up c.args.s c.args.p _ _ c.requires.0 c.requires.1 (both _ _ _ _ _ c.short_root.ensures c.long_root-r.ensures) c.if-r.true

pub returns-else-r : goal.returns-else-r
returns-else-r c = bits-down c.args.s c.args.p _ _ c.requires.0 c.requires.1 (both _ _ _ _ _ c.short_root.ensures c.long_root-r.ensures) c.if-r.false

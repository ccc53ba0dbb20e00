-- A pattern's digits and exponent, a subnormal's moved up until the digits are whole, and their root. Assumes nothing.
use Rattle.std.proofs.Common.{ap, ◌∙◌, arith}
use Rattle.geometry.specs.RootSteps.{root_bits}
use Rattle.geometry.proofs.Patterns.{few_zeros, low_range, low-number, high-number}
use Rattle.geometry.proofs.root.positive_bits.Goals as goal

pub overflow_cast-places : goal.overflow_cast-places
overflow_cast-places c = omega (arith, few_zeros c.args.b c.requires.0 c.if-b-lt4503599627370496.true)

pub overflow_sub-places : goal.overflow_sub-places
overflow_sub-places c = omega (arith, few_zeros c.args.b c.requires.0 c.if-b-lt4503599627370496.true)

pub overflow_shl-b : goal.overflow_shl-b
overflow_shl-b c = omega (arith, few_zeros c.args.b c.requires.0 c.if-b-lt4503599627370496.true)

pub overflow_sub-places-then-b-lt4503599627370496 : goal.overflow_sub-places-then-b-lt4503599627370496
overflow_sub-places-then-b-lt4503599627370496 c = omega (arith, few_zeros c.args.b c.requires.0 c.if-b-lt4503599627370496.true)

pub root_bits-requires : goal.root_bits-requires
root_bits-requires c = low_range c.args.b c.requires.0 c.if-b-lt4503599627370496.true

pub returns-then-b-lt4503599627370496 : goal.returns-then-b-lt4503599627370496
returns-then-b-lt4503599627370496 c = c.root_bits.ensures ∙ ap root_bits (low-number c.args.b c.requires.0 c.if-b-lt4503599627370496.true)

pub returns-else-b-lt4503599627370496 : goal.returns-else-b-lt4503599627370496
returns-else-b-lt4503599627370496 c = c.root_bits-else-b-lt4503599627370496.ensures ∙ ap root_bits (high-number c.args.b c.if-b-lt4503599627370496.false)

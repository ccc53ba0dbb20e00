-- The mean of g and m / g is not below the root, and stays in the range. Assumes nothing.
use Rattle.std.proofs.Common.{lt_of_lt_of_le, arith, lit<}
use Rattle.geometry.proofs.Steps.{mean-above, quotient-lt, at_least}
use Rattle.geometry.proofs.root.heron.Goals as goal

pub overflow_add-result : goal.overflow_add-result
overflow_add-result c = omega (arith, quotient-lt c.args.m c.args.g c.requires.1 c.requires.2)

pub returns : goal.returns
returns c =
    let m = c.args.m in
    let g = c.args.g in
    let above = mean-above m g (lt_of_lt_of_le (lit< tt) c.requires.2) in
    let q = quotient-lt m g c.requires.1 c.requires.2 in
    (above, at_least m _ c.requires.0 above, omega arith)
